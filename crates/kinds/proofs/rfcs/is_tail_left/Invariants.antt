use Rattle.std.proofs.Common.{◌≡◌, ◌++◌, length, take}
use Rattle.kinds.specs.Reading.{rest}
use Rattle.kinds.proofs.rfcs.is_tail_left.Given as goal

abbrev pub invariant-loop-byte : goal.invariant-loop-byte
invariant-loop-byte l = (length l.byte-items ≡ 9) × (take l.byte-index l.byte-items ++ rest l.left ≡ rest l.initial.left)
