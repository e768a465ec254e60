use Rattle.std.proofs.Common.{◌≡◌, ◌-◌}
use Rattle.rules.specs.Kinds.{rfc_after}
use Rattle.kinds.specs.Reading.{rest}
use Rattle.kinds.proofs.rfcs.is_rfc_after.Given as goal

abbrev pub invariant-loop : goal.invariant-loop
invariant-loop l = rfc_after (l.letters - l.counter) (rest l.left) ≡ rfc_after l.letters (rest l.initial.left)
