use Rattle.std.proofs.Common.{sym, arith}
use Rattle.std.proofs.lemmas.Slice.Eq.{slice_eq-Decides}
use Rattle.std.proofs.lemmas.Bool.{both_ways}
use Rattle.tags.proofs.Starts.{declared, not_declared}
use Rattle.tags.proofs.start.content_start.Goals as goal
use Rattle.std.proofs.lemmas.Bool.Decides.{Decides-eqb}

pub returns-then-starts_with : goal.returns-then-starts_with
returns-then-starts_with c = record {
  within = omega (arith, c.starts_with.ensures.bound c.if-starts_with.true);
  is = λ m k. omega (arith, declared c.args.document.now m k (sym ((slice_eq-Decides Decides-eqb _ _ _ c.starts_with.ensures.value).0 c.if-starts_with.true)));
}

pub returns-else-starts_with : goal.returns-else-starts_with
returns-else-starts_with c = record {
  within = omega arith;
  is = λ m k. not_declared c.args.document.now m k (λ e. both_ways _ c.if-starts_with.false ((slice_eq-Decides Decides-eqb _ _ _ c.starts_with.ensures.value).1 (sym e)));
}
