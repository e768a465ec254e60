-- The phases of a register.
use Rattle.std.specs.Prelude.{Bool, true, false}
use Rattle.rules.specs.Register.{Phase, opened, closed, used_up}

-- whether a register in a phase may still be called
abbrev pub in_use : Phase → Bool
in_use opened = true
in_use closed = true
in_use used_up = false
