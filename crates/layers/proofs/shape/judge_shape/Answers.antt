use Rattle.std.proofs.Common.{Ok, Err}
use Rattle.std.proofs.lemmas.Result.{err_from_is_err_and}
use Rattle.layers.proofs.Shaping.{shape_judged}
use Rattle.layers.proofs.shape.judge_shape.Goals as goal

pub returns-in_err-judge_layers : goal.returns-in_err-judge_layers
returns-in_err-judge_layers c =
    let told = err_from_is_err_and c.from_residual.result c.from_residual.ensures.1 in
    record { judged = rw (told.1, told.2) (shape_judged c.args.document.now (Err c.in_err-judge_layers.field-0.0) c.in_err-judge_layers.ensures.judged c.in_err-judge_layers.ensures.early) }

pub returns : goal.returns
returns c = record { judged = shape_judged c.args.document.now (Ok c.in_ok-judge_layers.field-0) c.in_ok-judge_layers.ensures.judged c.in_ok-judge_layers.ensures.early }
