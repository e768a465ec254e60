-- What is left of a text from a place on.
use Rattle.std.specs.Prelude.{ℕ, ◌+◌, Bool, true, cond, List, [], ◌∷◌, ◌==◌}

-- how many bytes there are up to the first q and with it, or all where there is none
abbrev pub through : ℕ → List ℕ → ℕ
through q [] = 0
through q (b ∷ bs) = cond (b == q) 1 (1 + through q bs)

-- what stands in an element ends here: fewer than two bytes are left, or an end tag follows
abbrev pub ended : List ℕ → Bool
ended [] = true
ended (b ∷ []) = true
ended (b ∷ c ∷ r) = c == 47
