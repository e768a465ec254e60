use Rattle.std.proofs.Common.{◌≡◌, ℕ, true, List, ◌++◌}
use Rattle.kinds.specs.Reading.{rest}
use Rattle.sinks.specs.Writers.{Written}
use Rattle.original.proofs.fields.write_kept.Given as goal

abbrev pub invariant-loop-byte : goal.invariant-loop-byte
invariant-loop-byte g l = (xs : List ℕ) × Written g.W.Writer.writing l.initial.to xs true l.to × (xs ++ rest l.byte-iterator ≡ rest l.initial.byte-iterator)
