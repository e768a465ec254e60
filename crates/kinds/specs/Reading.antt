-- What a reader of a kept form has yet to give.
use Rattle.std.specs.Prelude.{◌≡◌, ℕ, cond, List, [], ◌∷◌, drop, Option, MatchOption, slice_index}
use Rattle.rules.specs.Kept.{escape_at, meant, tail_size, resolved, kept, kept_on}
use Rattle.kinds.specs.declared.kept.Kept.{Kept}

-- the byte that a text begins with, its escape resolved, and how many bytes of the escape follow the first
abbrev pub letter_of : List ℕ → ℕ × ℕ
letter_of s = (meant (escape_at s) (slice_index s 0), tail_size (escape_at s))

-- what a reader has yet to give: of the raw bytes that are left to it, where it has given a byte or none
abbrev pub rest : Kept → List ℕ
rest k = cond k.begun (kept_on (resolved k.raw.now)) (kept (resolved k.raw.now))

-- one call: some of the raw bytes are passed, and r is the next byte of what was left, or none was left
pub record Gives (k : Kept) (r : Option ℕ) (l : Kept) : Type 0 where
  pub same : (n : ℕ) × (l.raw.now ≡ drop n k.raw.now)
  pub byte : MatchOption r ((rest k ≡ []) × (rest l ≡ [])) (λ b. rest k ≡ b ∷ rest l)
