use Rattle.std.proofs.Common.{◌≡◌, ◌+◌, drop, arith}
use Rattle.std.specs.List.{prefix_len}
use Rattle.byte_classes.specs.Runs.{other}
use Rattle.tags.proofs.Fronts.{through_there, through_not}
use Rattle.tags.proofs.scan.after.Goals as goal
use Rattle.tags.proofs.scan.after.Goals.{After-skip-i}

found : (c : After-skip-i) → c.skip-i.result ≡ c.args.at + prefix_len (other 62) (drop c.args.at c.args.document.now)
found c = cc

pub returns-then-i-document : goal.returns-then-i-document
returns-then-i-document c = record {
  is = omega (arith, through_there 62 c.args.document.now c.args.at c.skip-i.result (found (goal.at.returns-then-i-document c).After-skip-i) (omega arith));
  within = λ h. omega arith;
}

pub returns-else-i-document : goal.returns-else-i-document
returns-else-i-document c = record {
  is = omega (arith, through_not 62 c.args.document.now c.args.at c.skip-i.result (found (goal.at.returns-else-i-document c).After-skip-i) (omega arith));
  within = c.skip-i.ensures.within;
}
