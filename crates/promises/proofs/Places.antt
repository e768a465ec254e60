-- The places of a list, counted from 1, and what holds at each place of two lists.
use Rattle.std.proofs.Common.{◌≡◌, ℕ, zero, suc, false, ◌⊎◌, List, [], ◌∷◌, ◌++◌, length, take, Some, None, Option, sym, refl, ap, ◌∙◌, subst, inl, inr, ⊎_elim}
use Rattle.std.proofs.lemmas.Bool.{cases_Bool, both_ways}
use Rattle.rules.specs.Bytes.{same}
use Rattle.rules.specs.Register.{nth, Absent, Pairwise, none_left, one_more}
use Rattle.theory.proofs.Options.{none_some}
use Rattle.theory.proofs.Bytes.{same_is, same_refl}

pub option_cases : {A : Type 0} (o : Option A) → (o ≡ None) ⊎ ((x : A) × (o ≡ Some x))
option_cases None = inl refl
option_cases (Some x) = inr (x, refl)

pub nth_push : {A : Type 0} (xs : List A) (x y : A) (n : ℕ) → nth (xs ++ x ∷ []) n ≡ Some y → (nth xs n ≡ Some y) ⊎ ((n ≡ suc (length xs)) × (y ≡ x))
nth_push [] x y zero h = inl h
nth_push [] x y (suc zero) h = inr (refl, cc)
nth_push [] x y (suc (suc n)) h = inl h
nth_push (z ∷ xs) x y zero h = inl h
nth_push (z ∷ xs) x y (suc zero) h = inl h
nth_push (z ∷ xs) x y (suc (suc n)) h = ⊎_elim inl (λ a. inr (ap suc a.0, a.1)) (nth_push xs x y (suc n) h)

pub nth_later : {A : Type 0} (w v : A) (vs : List A) (n : ℕ) → nth vs n ≡ Some v → nth (w ∷ vs) (suc n) ≡ Some v
nth_later w v [] n h = absurd (none_some refl h)
nth_later w v (x ∷ vs) zero h = absurd (none_some refl h)
nth_later w v (x ∷ vs) (suc n) h = h

pub nth_before : {A : Type 0} (xs ys : List A) (n : ℕ) (x : A) → nth xs n ≡ Some x → nth (xs ++ ys) n ≡ Some x
nth_before [] ys n x h = absurd (none_some refl h)
nth_before (z ∷ xs) ys zero x h = absurd (none_some refl h)
nth_before (z ∷ xs) ys (suc zero) x h = h
nth_before (z ∷ xs) ys (suc (suc n)) x h = nth_before xs ys (suc n) x h

pub nth_last : {A : Type 0} (xs : List A) (x : A) → nth (xs ++ x ∷ []) (suc (length xs)) ≡ Some x
nth_last [] x = refl
nth_last (z ∷ []) x = refl
nth_last (z ∷ y ∷ xs) x = nth_last (y ∷ xs) x

-- a list around the element at a place
pub split_next : {A : Type 0} (xs : List A) (k : ℕ) (x : A) → nth xs (suc k) ≡ Some x → (after : List A) × (xs ≡ take k xs ++ x ∷ after) × (take (suc k) xs ≡ take k xs ++ x ∷ [])
split_next [] k x h = absurd (none_some refl h)
split_next (y ∷ xs) zero x h = let e : y ≡ x = cc in (xs, ap (λ z. z ∷ xs) e, ap (λ z. z ∷ []) e)
split_next (y ∷ xs) (suc k) x h = let (after, e, f) = split_next xs k x h in (after, ap (λ l. y ∷ l) e, ap (λ l. y ∷ l) f)

-- whether a fair copy is among the entries
pub find : (c : List ℕ) (cs : List (List ℕ)) → ((n : ℕ) × (nth cs n ≡ Some c)) ⊎ Absent c cs
find c [] = inr (λ n h. none_some refl h)
find c (x ∷ cs) =
    ⊎_elim
    (λ e. inl (1, ap Some (sym (same_is _ _ e))))
    (λ e. ⊎_elim (λ h. inl (suc h.0, nth_later x c cs h.0 h.1)) (λ h. inr (nowhere e h)) (find c cs))
    (cases_Bool (same c x))
  where
    nowhere : same c x ≡ false → Absent c cs → Absent c (x ∷ cs)
    nowhere e h zero y = none_some refl y
    nowhere e h (suc zero) y = let z : x ≡ c = cc in both_ways _ e (ap (same c) z ∙ same_refl c)
    nowhere e h (suc (suc n)) y = h (suc n) y

-- what holds at each place of two lists
module _ {A B : Type 0} {R : A → B → Type 0} where
  pub pair_push : {xs : List A} {ys : List B} (x : A) (y : B) → Pairwise R xs ys → R x y → Pairwise R (xs ++ x ∷ []) (ys ++ y ∷ [])
  pair_push x y none_left h = one_more h none_left
  pair_push x y (one_more k r) h = one_more k (pair_push x y r h)

  pub pair_length : {xs : List A} {ys : List B} → Pairwise R xs ys → length xs ≡ length ys
  pair_length none_left = refl
  pair_length (one_more k r) = ap suc (pair_length r)

  pub pair_right : {xs : List A} {ys : List B} → Pairwise R xs ys → (n : ℕ) (x : A) → nth xs n ≡ Some x → (y : B) × R x y × (nth ys n ≡ Some y)
  pair_right none_left n x h = absurd (none_some refl h)
  pair_right (one_more k r) zero x h = absurd (none_some refl h)
  pair_right (one_more {x = z} {y = y} k r) (suc zero) x h = let e : z ≡ x = cc in (y, subst (λ w. R w y) e k, refl)
  pair_right (one_more k r) (suc (suc n)) x h = pair_right r (suc n) x h

  pub pair_left : {xs : List A} {ys : List B} → Pairwise R xs ys → (n : ℕ) (y : B) → nth ys n ≡ Some y → (x : A) × R x y × (nth xs n ≡ Some x)
  pair_left none_left n y h = absurd (none_some refl h)
  pair_left (one_more k r) zero y h = absurd (none_some refl h)
  pair_left (one_more {x = x} {y = z} k r) (suc zero) y h = let e : z ≡ y = cc in (x, subst (R x) e k, refl)
  pair_left (one_more k r) (suc (suc n)) y h = pair_left r (suc n) y h

  pub pair_none : {xs : List A} {ys : List B} → Pairwise R xs ys → (n : ℕ) → nth xs n ≡ None → nth ys n ≡ None
  pair_none none_left n h = refl
  pair_none (one_more k r) zero h = refl
  pair_none (one_more {x = x} k r) (suc zero) h = absurd (none_some h refl)
  pair_none (one_more k r) (suc (suc n)) h = pair_none r (suc n) h

  pub pair_one : ((x : A) (y z : B) → R x y → R x z → y ≡ z) → {xs : List A} {ys zs : List B} → Pairwise R xs ys → Pairwise R xs zs → ys ≡ zs
  pair_one f none_left none_left = refl
  pair_one f (one_more {x = x} {y = y} h r) (one_more {y = z} k q) = let e = f x y z h k in let g = pair_one f r q in cc
