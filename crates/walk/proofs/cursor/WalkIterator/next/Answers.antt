use Rattle.std.proofs.Common.{refl, arith}
use Rattle.walk.proofs.Turning.{met_all}
use Rattle.walk.proofs.cursor.WalkIterator.next.Goals as goal

pub returns-in_err-first-clause-steps : goal.returns-in_err-first-clause-steps
returns-in_err-first-clause-steps c = rw c.from_residual.ensures (record {
  same = refl;
  falls = refl;
  within = tt;
  gives = λ os co. met_all c.args.self.now c.skip-place.result os c.skip-place.ensures.is (omega (arith, c.in_err-first.ensures.lookup)) co;
})
