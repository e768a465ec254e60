-- Where the characters of a text end.
use Rattle.std.specs.Prelude.{ℕ, ◌-◌, cond, ◌==◌}
use Rattle.std.specs.Str.{continuation_len}

-- how many bytes of a character follow b, where k were to come before it
abbrev pub to_come : ℕ → ℕ → ℕ
to_come k b = cond (k == 0) (continuation_len b) (k - 1)
