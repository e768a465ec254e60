use Rattle.std.proofs.Common.{◌≡◌, ◌+◌, ◌≤◌}
use Rattle.rules.specs.Bytes.{all, no_bar}
use Rattle.kinds.specs.Reading.{rest}
use Rattle.kinds.proofs.Counts.{ended}
use Rattle.kinds.proofs.texts.is_text.Given as goal

abbrev pub invariant-loop-b : goal.invariant-loop-b
invariant-loop-b l = (l.count ≤ l.most) × (l.count + ended l.more (rest l.b-iterator) ≡ ended 0 (rest l.initial.b-iterator)) × (all no_bar (rest l.b-iterator) ≡ all no_bar (rest l.initial.b-iterator))
