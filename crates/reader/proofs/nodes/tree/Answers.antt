use Rattle.std.proofs.Common.{Ok, Err, arith}
use Rattle.std.proofs.lemmas.Result.{err_from_is_err_and}
use Rattle.reader.proofs.Judged.{judged}
use Rattle.reader.proofs.nodes.tree.Goals as goal

pub returns : goal.returns
returns c = λ m k. judged c.args.document.now c.content_start.result _ (Ok c.in_ok-level.field-0) (omega arith) c.in_ok-level.ensures.judges m k (c.content_start.ensures.is m k)

pub returns-in_err-level : goal.returns-in_err-level
returns-in_err-level c =
    let told = err_from_is_err_and c.from_residual.result c.from_residual.ensures.1 in
    rw (told.1, told.2) (λ m k. judged c.args.document.now c.content_start.result _ (Err c.in_err-level.field-0.0) (omega arith) c.in_err-level.ensures.judges m k (c.content_start.ensures.is m k))
