-- The laws of markup.
use Rattle.std.specs.Prelude.{◌≡◌, ℕ, ◌⊎◌, List, [], ◌++◌}
use Rattle.rules.specs.Markup.{WellMarked, Viable, LongestViable}

-- n is the one place at which d is refused
abbrev pub RefusedAt : List ℕ → ℕ → Type 0
RefusedAt d n = LongestViable d n × ((k : ℕ) → LongestViable d k → k ≡ n)

-- every text is well marked, or it is not and has exactly one place at which it is refused
abbrev pub MarkupDecided : Type 0
MarkupDecided = (d : List ℕ) → WellMarked d ⊎ ((WellMarked d → ⊥) × ((n : ℕ) × RefusedAt d n))

-- the beginnings of well-marked texts
pub record BeginningsLaw : Type 0 where
  -- the empty text is one
  pub empty : Viable []
  -- a beginning of one is one
  pub shorter : (p q : List ℕ) → Viable (p ++ q) → Viable p
  -- each has a text that completes it
  pub completed : (p : List ℕ) → Viable p → (w : List ℕ) × WellMarked (p ++ w)
  -- each text is one or is not
  pub decided : (p : List ℕ) → Viable p ⊎ (Viable p → ⊥)
