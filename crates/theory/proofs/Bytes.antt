-- Texts that have the same bytes.
use Rattle.std.proofs.Common.{◌≡◌, ℕ, true, false, List, [], ◌∷◌, sym, refl, ap, ◌∙◌, ⊎_elim}
use Rattle.std.proofs.lemmas.Bool.{and_parts, and_from, eqb-true, eq-eqb, cases_Bool, both_ways, false≢true}
use Rattle.rules.specs.Bytes.{same}

-- the test says that two texts are one
pub same_is : (s t : List ℕ) → same s t ≡ true → s ≡ t
same_is [] [] h = refl
same_is [] (y ∷ ys) h = absurd (false≢true h)
same_is (x ∷ xs) [] h = absurd (false≢true h)
same_is (x ∷ xs) (y ∷ ys) h = let (u, v) = and_parts _ _ h in let e = eqb-true x y u in let f = same_is xs ys v in cc

-- a text passes the test with itself
pub same_refl : (s : List ℕ) → same s s ≡ true
same_refl [] = refl
same_refl (b ∷ bs) = and_from _ _ (eq-eqb b b refl) (same_refl bs)

-- the test may be turned round
pub same_not : (s t : List ℕ) → same s t ≡ false → same t s ≡ false
same_not s t h = ⊎_elim (λ e. absurd (both_ways (same s t) h (ap (λ x. same x t) (sym (same_is t s e)) ∙ same_refl t))) (λ e. e) (cases_Bool (same t s))
