-- Bytes with which only allowed characters begin.
use Rattle.std.specs.Prelude.{ℕ, Bool, ◌||◌, ◌==◌, nat_le}
use Rattle.std.specs.Int.{is_in_range}

-- a tab, a line feed, a carriage return, or any byte from 32 up but 239, with which U+FFFE and U+FFFF begin
abbrev pub plain_byte : ℕ → Bool
plain_byte b = b == 9 || (b == 10 || (b == 13 || (is_in_range 32 238 b || nat_le 240 b)))
