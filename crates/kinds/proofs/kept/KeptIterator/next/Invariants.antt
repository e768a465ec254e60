use Rattle.std.proofs.Common.{◌≡◌, length}
use Rattle.rules.specs.Kept.{resolved}
use Rattle.kinds.specs.Reading.{rest}
use Rattle.kinds.proofs.Steps.{Passed, left}
use Rattle.kinds.proofs.kept.KeptIterator.next.Given as goal

abbrev pub invariant-loop-b : goal.invariant-loop-b
invariant-loop-b l = Passed l.initial.self.raw.now l.self.raw.now × (l.self.begun ≡ l.initial.self.begun) × (left l.self.begun l.gap (resolved l.self.raw.now) ≡ rest l.initial.self)

abbrev pub decreases-loop-b : goal.decreases-loop-b
decreases-loop-b l = length l.self.raw.now
