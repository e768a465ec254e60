-- The letters of a document: UTF-8 of the characters that XML 1.0 allows.
use Rattle.std.specs.Prelude.{◌≡◌, ℕ, ◌≤◌, Bool, true, ◌||◌, List, length, take, ◌==◌}
use Rattle.std.proofs.Math.Utf8.{encodes}
use Rattle.std.specs.Int.{is_in_range as within}
use Rattle.rules.specs.Bytes.{all}

-- a character that XML 1.0 allows
abbrev pub allowed : ℕ → Bool
allowed c = c == 9 || (c == 10 || (c == 13 || (within 32 55295 c || (within 57344 65533 c || within 65536 1114111 c))))

-- the bytes spell allowed characters, each whole
abbrev pub Spelled : List ℕ → Type 0
Spelled d = (cs : List ℕ) × (all allowed cs ≡ true) × (encodes cs ≡ d)

-- n is where the whole allowed characters of d end
pub record SpelledUpTo (d : List ℕ) (n : ℕ) : Type 0 where
  pub within : n ≤ length d
  pub spelled : Spelled (take n d)
  pub longest : (k : ℕ) → k ≤ length d → Spelled (take k d) → k ≤ n
