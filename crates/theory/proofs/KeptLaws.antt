-- Laws of kept forms.
use Rattle.std.proofs.Common.{◌≡◌, ℕ, Bool, true, false, cond, not, ◌&&◌, eqb, List, [], ◌∷◌, ◌++◌, sym, refl, ap, ◌∙◌, subst, ⊎_elim}
use Rattle.std.proofs.lemmas.Bool.{cond_both, cond-true, cond-false, and_parts, and_from, not-true, not_from_false, or_parts, or_left, eqb-true, eq-eqb, cases_Bool, false≢true, both_ways}
use Rattle.rules.specs.Bytes.{blank}
use Rattle.rules.specs.Kept.{kept, kept_on, kept_gap}
use Rattle.theory.specs.Kinds.{Tidy, KeptFormsTidy}

mutual
  on_on : (s : List ℕ) → kept_on (kept_on s) ≡ kept_on s
  on_on [] = refl
  on_on (b ∷ bs) =
      cond_both (blank b) (kept_gap bs) (b ∷ kept_on bs) (λ x. kept_on x ≡ x) (λ e. on_gap bs)
      (λ e. cond-false (blank b) _ _ e ∙ ap (λ x. b ∷ x) (on_on bs))

  on_gap : (s : List ℕ) → kept_on (kept_gap s) ≡ kept_gap s
  on_gap [] = refl
  on_gap (b ∷ bs) =
      cond_both (blank b) (kept_gap bs) (32 ∷ b ∷ kept_on bs) (λ x. kept_on x ≡ x) (λ e. on_gap bs)
      (λ e. cond-false (blank b) _ _ e ∙ ap (λ x. 32 ∷ b ∷ x) (on_on bs))

-- keeping twice is keeping once
pub kept_kept : (s : List ℕ) → kept (kept s) ≡ kept s
kept_kept [] = refl
kept_kept (b ∷ bs) =
    cond_both (blank b) (kept bs) (b ∷ kept_on bs) (λ x. kept x ≡ x) (λ e. kept_kept bs)
    (λ e. cond-false (blank b) _ _ e ∙ ap (λ x. b ∷ x) (on_on bs))

-- the test: no blank but single spaces, each between two other bytes
abbrev mutual
  tidy_on : List ℕ → Bool
  tidy_on [] = true
  tidy_on (b ∷ bs) = cond (eqb b 32) (tidy_gap bs) (not (blank b) && tidy_on bs)

  tidy_gap : List ℕ → Bool
  tidy_gap [] = false
  tidy_gap (b ∷ bs) = not (blank b) && tidy_on bs

-- the test of a whole text
abbrev pub tidy : List ℕ → Bool
tidy [] = true
tidy (b ∷ bs) = tidy_gap (b ∷ bs)

mutual
  tidy_on_on : (s : List ℕ) → tidy_on (kept_on s) ≡ true
  tidy_on_on [] = refl
  tidy_on_on (b ∷ bs) =
      cond_both (blank b) (kept_gap bs) (b ∷ kept_on bs) (λ x. tidy_on x ≡ true) (λ e. tidy_on_gap bs)
      (λ e. cond-false (eqb b 32) _ _ (or_parts _ _ e).0 ∙ and_from _ _ (not_from_false _ e) (tidy_on_on bs))

  tidy_on_gap : (s : List ℕ) → tidy_on (kept_gap s) ≡ true
  tidy_on_gap [] = refl
  tidy_on_gap (b ∷ bs) =
      cond_both (blank b) (kept_gap bs) (32 ∷ b ∷ kept_on bs) (λ x. tidy_on x ≡ true) (λ e. tidy_on_gap bs)
      (λ e. and_from _ _ (not_from_false _ e) (tidy_on_on bs))

-- a kept form passes the test
pub kept_tidy : (s : List ℕ) → tidy (kept s) ≡ true
kept_tidy [] = refl
kept_tidy (b ∷ bs) =
    cond_both (blank b) (kept bs) (b ∷ kept_on bs) (λ x. tidy x ≡ true) (λ e. kept_tidy bs)
    (λ e. and_from _ _ (not_from_false _ e) (tidy_on_on bs))

mutual
  on_tidy : (s : List ℕ) → tidy_on s ≡ true → kept_on s ≡ s
  on_tidy [] h = refl
  on_tidy (b ∷ bs) h =
      ⊎_elim
      (λ e. cond-true (blank b) _ _ (or_left _ _ e) ∙ gap_tidy bs (sym (cond-true (eqb b 32) _ _ e) ∙ h) ∙ ap (λ x. x ∷ bs) (sym (eqb-true b 32 e)))
      (λ e.
      let h' : (not (blank b) && tidy_on bs) ≡ true = sym (cond-false (eqb b 32) _ _ e) ∙ h in
      let (u, v) = and_parts _ _ h' in
      cond-false (blank b) _ _ (not-true _ u) ∙ ap (λ x. b ∷ x) (on_tidy bs v))
      (cases_Bool (eqb b 32))

  gap_tidy : (s : List ℕ) → tidy_gap s ≡ true → kept_gap s ≡ 32 ∷ s
  gap_tidy [] h = absurd (false≢true h)
  gap_tidy (b ∷ bs) h = let (u, v) = and_parts _ _ h in cond-false (blank b) _ _ (not-true _ u) ∙ ap (λ x. 32 ∷ b ∷ x) (on_tidy bs v)

-- what passes the test is its own kept form
pub tidy_kept : (s : List ℕ) → tidy s ≡ true → kept s ≡ s
tidy_kept [] h = refl
tidy_kept (b ∷ bs) h = let (u, v) = and_parts _ _ h in cond-false (blank b) _ _ (not-true _ u) ∙ ap (λ x. b ∷ x) (on_tidy bs v)

-- what the test says of later parts of a text
gap_on : (s : List ℕ) → tidy_gap s ≡ true → tidy_on s ≡ true
gap_on [] h = absurd (false≢true h)
gap_on (b ∷ bs) h = let (u, v) = and_parts (not (blank b)) _ h in cond-false (eqb b 32) _ _ (or_parts _ _ (not-true _ u)).0 ∙ and_from _ _ u v

on_rest : (b : ℕ) (bs : List ℕ) → tidy_on (b ∷ bs) ≡ true → tidy_on bs ≡ true
on_rest b bs h = ⊎_elim (λ e. gap_on bs (sym (cond-true (eqb b 32) _ _ e) ∙ h)) (λ e. (and_parts (not (blank b)) _ (sym (cond-false (eqb b 32) _ _ e) ∙ h)).1) (cases_Bool (eqb b 32))

on_later : (before rest : List ℕ) → tidy_on (before ++ rest) ≡ true → tidy_on rest ≡ true
on_later [] rest h = h
on_later (b ∷ before) rest h = on_later before rest (on_rest b (before ++ rest) h)

space_only : (b : ℕ) (bs : List ℕ) → tidy_on (b ∷ bs) ≡ true → blank b ≡ true → eqb b 32 ≡ true
space_only b bs h k = ⊎_elim (λ e. e) (λ e. absurd (both_ways (blank b) (not-true _ (and_parts (not (blank b)) _ (sym (cond-false (eqb b 32) _ _ e) ∙ h)).0) k)) (cases_Bool (eqb b 32))

gap_after : (b : ℕ) (bs : List ℕ) → tidy_on (b ∷ bs) ≡ true → blank b ≡ true → tidy_gap bs ≡ true
gap_after b bs h k = sym (cond-true (eqb b 32) _ _ (space_only b bs h k)) ∙ h

tidy_is_on : (s : List ℕ) → tidy s ≡ true → tidy_on s ≡ true
tidy_is_on [] h = refl
tidy_is_on (b ∷ bs) h = gap_on (b ∷ bs) h

-- what passes the test is tidy
tidy_places : (s : List ℕ) → tidy s ≡ true → Tidy s
tidy_places s t =
    let h : tidy_on s ≡ true = tidy_is_on s t in
    record {
      spaces = λ before after b e k. eqb-true b 32 (space_only b after (on_later before (b ∷ after) (ap tidy_on (sym e) ∙ h)) k);
      single = λ before after b c e k. not-true _ (and_parts (not (blank c)) (tidy_on after) (gap_after b (c ∷ after) (on_later before (b ∷ c ∷ after) (ap tidy_on (sym e) ∙ h)) k)).0;
      first = λ after b e. let g : tidy (b ∷ after) ≡ true = ap tidy (sym e) ∙ t in not-true _ (and_parts (not (blank b)) (tidy_on after) g).0;
      last = λ before b e. ⊎_elim (λ k. absurd (false≢true (gap_after b [] (on_later before (b ∷ []) (ap tidy_on (sym e) ∙ h)) k))) (λ k. k) (cases_Bool (blank b));
    }

-- all that a tidy text says but of its first byte
record Later (s : List ℕ) : Type 0 where
  spaces : (before after : List ℕ) (b : ℕ) → s ≡ before ++ b ∷ after → blank b ≡ true → b ≡ 32
  single : (before after : List ℕ) (b c : ℕ) → s ≡ before ++ b ∷ c ∷ after → blank b ≡ true → blank c ≡ false
  last : (before : List ℕ) (b : ℕ) → s ≡ before ++ b ∷ [] → blank b ≡ false

later_rest : (b : ℕ) (bs : List ℕ) → Later (b ∷ bs) → Later bs
later_rest b bs h = record {
  spaces = λ before after c e. h.spaces (b ∷ before) after c (ap (λ x. b ∷ x) e);
  single = λ before after c d e. h.single (b ∷ before) after c d (ap (λ x. b ∷ x) e);
  last = λ before c e. h.last (b ∷ before) c (ap (λ x. b ∷ x) e);
}

later_on : (s : List ℕ) → Later s → tidy_on s ≡ true
later_on [] h = refl
later_on (b ∷ []) h =
    let n = h.last [] b refl in
    cond-false (eqb b 32) _ _ (or_parts _ _ n).0 ∙ and_from _ _ (not_from_false _ n) refl
later_on (b ∷ c ∷ cs) h =
    ⊎_elim
    (λ k. cond-true (eqb b 32) _ _ (eq-eqb b 32 (h.spaces [] (c ∷ cs) b refl k)) ∙ and_from _ _ (not_from_false _ (h.single [] cs b c refl k)) (later_on cs (later_rest c cs (later_rest b (c ∷ cs) h))))
    (λ k. cond-false (eqb b 32) _ _ (or_parts _ _ k).0 ∙ and_from _ _ (not_from_false _ k) (later_on (c ∷ cs) (later_rest b (c ∷ cs) h)))
    (cases_Bool (blank b))

-- what is tidy passes the test
places_tidy : (s : List ℕ) → Tidy s → tidy s ≡ true
places_tidy [] h = refl
places_tidy (b ∷ bs) h =
    let n = h.first bs b refl in
    let l : Later (b ∷ bs) = record { spaces = h.spaces; single = h.single; last = h.last } in
    and_from _ _ (not_from_false _ n) (later_on bs (later_rest b bs l))

-- kept forms are the tidy texts
pub kept_law : KeptFormsTidy
kept_law s = record {
  is_tidy = tidy_places (kept s) (kept_tidy s);
  exactly = (λ e. subst Tidy e (tidy_places (kept s) (kept_tidy s)), λ h. tidy_kept s (places_tidy s h));
}
