-- Passing a byte that stands ahead.
use Rattle.std.proofs.Common.{◌≡◌, ℕ, ◌+◌, ◌-◌, ◌<◌, eqb, List, [], ◌∷◌, length, drop, ⊎_elim, arith, length-drop}
use Rattle.std.proofs.lemmas.Bool.{cases_Bool, cond-true, cond-false}
use Rattle.tags.specs.Scan.{through}

-- what is passed is not empty before the end
pub through_some : (q : ℕ) (d : List ℕ) (i : ℕ) → i < length d → 0 < through q (drop i d)
through_some q d i l = go (drop i d) (length-drop i d)
  where
    go : (xs : List ℕ) → length xs ≡ length d - i → 0 < through q xs
    go [] e = absurd (omega arith)
    go (x ∷ xs) e = ⊎_elim (λ t. omega (arith, cond-true (eqb x q) 1 (1 + through q xs) t)) (λ t. omega (arith, cond-false (eqb x q) 1 (1 + through q xs) t)) (cases_Bool (eqb x q))
