-- The letters of an RFC, one by one.
use Rattle.std.proofs.Common.{◌≡◌, ℕ, zero, suc, ◌+◌, ◌-◌, ◌<◌, ◌≤◌, Bool, true, false, ◌&&◌, ◌||◌, eqb, List, [], ◌∷◌, sym, refl, ap, ◌∙◌, ⊎_elim, arith, length}
use Rattle.std.specs.Char.{is_ascii_uppercase}
use Rattle.std.proofs.lemmas.Bool.{and_left, and_right, or_from, cases_Bool, cond-true, cond-false, ne_eqb, eq-eqb}
use Rattle.rules.specs.Kinds.{rfc_tail, rfc_after}

none_after : (n : ℕ) → rfc_after n [] ≡ false
none_after zero = refl
none_after (suc n) = refl

-- a letter of one byte, and a byte that is none
step : (n : ℕ) (b : ℕ) (xs : List ℕ) → (is_ascii_uppercase b || eqb b 38) ≡ true → rfc_after (suc n) (b ∷ xs) ≡ rfc_after n xs
step n b [] e = sym (none_after n)
step n b (c ∷ xs) e = cond-true _ _ _ e

other : (n : ℕ) (b : ℕ) (xs : List ℕ) → (is_ascii_uppercase b || eqb b 38) ≡ false → (b ≡ 195 → ⊥) → rfc_after (suc n) (b ∷ xs) ≡ false
other n b [] e h = refl
other n b (c ∷ xs) e h = cond-false _ _ _ e ∙ and_left _ _ (ne_eqb b 195 h)

module _ (n : ℕ) (s : List ℕ) (some : 0 < n) where
  is_suc : n ≡ suc (n - 1)
  is_suc = omega arith

  pub letter_none : s ≡ [] → rfc_after n s ≡ false
  letter_none e = ap (rfc_after n) e ∙ none_after n

  module _ (b : ℕ) (xs : List ℕ) (e : s ≡ b ∷ xs) where
    at_suc : rfc_after n s ≡ rfc_after (suc (n - 1)) (b ∷ xs)
    at_suc = ap (rfc_after n) e ∙ ap (λ k. rfc_after k (b ∷ xs)) is_suc

    pub letter_one : (is_ascii_uppercase b || eqb b 38) ≡ true → rfc_after n s ≡ rfc_after (n - 1) xs
    letter_one h = at_suc ∙ step (n - 1) b xs h

    pub letter_other : (is_ascii_uppercase b || eqb b 38) ≡ false → (b ≡ 195 → ⊥) → rfc_after n s ≡ false
    letter_other h k = at_suc ∙ other (n - 1) b xs h k

    pub letter_half : xs ≡ [] → rfc_after n s ≡ false
    letter_half h = at_suc ∙ ap (λ t. rfc_after (suc (n - 1)) (b ∷ t)) h

    module _ (c : ℕ) (ys : List ℕ) (f : xs ≡ c ∷ ys) (h : (is_ascii_uppercase b || eqb b 38) ≡ false) (k : b ≡ 195) where
      at_two : rfc_after n s ≡ (eqb b 195 && (eqb c 145 && rfc_after (n - 1) ys))
      at_two = at_suc ∙ ap (λ t. rfc_after (suc (n - 1)) (b ∷ t)) f ∙ cond-false _ _ _ h

      pub letter_two : c ≡ 145 → rfc_after n s ≡ rfc_after (n - 1) ys
      letter_two g = at_two ∙ rw (eq-eqb b 195 k, eq-eqb c 145 g)

      pub letter_not : (c ≡ 145 → ⊥) → rfc_after n s ≡ false
      letter_not g = at_two ∙ rw (eq-eqb b 195 k, ne_eqb c 145 g)

pub tail_length : (s : List ℕ) → (length s ≡ 9 → ⊥) → rfc_tail s ≡ false
tail_length s h = and_left (eqb (length s) 9) _ (ne_eqb (length s) 9 h)

pub letter_any : (n b : ℕ) (xs : List ℕ) → (b ≡ 38 → ⊥) → (b ≡ 195 → ⊥) → rfc_after (suc n) (b ∷ xs) ≡ (is_ascii_uppercase b && rfc_after n xs)
letter_any n b [] h k = sym (and_right _ _ (none_after n))
letter_any n b (c ∷ xs) h k =
    ⊎_elim
    (λ e. cond-true _ _ _ (ap (λ t. t || eqb b 38) e) ∙ sym (ap (λ t. t && rfc_after n (c ∷ xs)) e))
    (λ e. cond-false _ _ _ (or_from _ _ e (ne_eqb b 38 h)) ∙ and_left _ _ (ne_eqb b 195 k) ∙ sym (and_left _ _ e))
    (cases_Bool (is_ascii_uppercase b))

-- one letter less is left where the loop goes on
pub more_letters : (n i : ℕ) (s t : List ℕ) (r : Bool) → i < n → r ≡ true → ((m : ℕ) → rfc_after (suc m) s ≡ (r && rfc_after m t)) → rfc_after (n - i) s ≡ rfc_after (n - (i + 1)) t
more_letters n i s t r h e f =
    let l : n - i ≡ suc (n - (i + 1)) = omega arith in
    ap (λ k. rfc_after k s) l ∙ f (n - (i + 1)) ∙ ap (λ b. b && rfc_after (n - (i + 1)) t) e

pub tail_is : (n i : ℕ) (s : List ℕ) → n ≤ i → rfc_after (n - i) s ≡ rfc_tail s
tail_is n i s h = let z : n - i ≡ 0 = omega arith in ap (λ k. rfc_after k s) z
