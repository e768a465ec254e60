-- Tests of bytes by which runs of them are told.
use Rattle.std.specs.Prelude.{ℕ, Bool, not, ◌==◌}

-- any byte but q
abbrev pub other : ℕ → ℕ → Bool
other q b = not (b == q)
