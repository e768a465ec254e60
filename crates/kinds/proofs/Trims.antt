-- Where the kept form of a value is the piece between its blanks.
use Rattle.std.proofs.Common.{◌≡◌, ℕ, zero, suc, ◌+◌, ◌-◌, ◌<◌, ◌≤◌, Bool, true, false, not, List, [], ◌∷◌, length, get_or, take, drop, Some, None, Option, sym, refl, ap, ◌∙◌, subst, ⊎_elim, arith, MatchOption, ◌&&◌, ◌++◌}
use Rattle.std.specs.List.{prefix_len}
use Rattle.std.specs.Bool.{then_some}
use denote.Ref.{Bor}
use Rattle.std.proofs.lemmas.List.{take_rest, take_more, drop_more, drop_all}
use Rattle.std.proofs.lemmas.Bool.{false≢true, both_ways, ne_eqb, and_parts, and_from, and_left, and_right, not-true, cases_Bool, cases_eq, cond-true, cond-false}
use Rattle.rules.specs.Bytes.{blank, all}
use Rattle.rules.specs.Markup.{Escape, amp, lt, gt, quot, apos, plain_byte}
use Rattle.rules.specs.Kept.{escape_at, meant, resolved, kept, kept_on, kept_gap}
use Rattle.kinds.specs.Pieces.{past_blanks, before_blanks, trimmed, solid}

-- without the run of blanks at the front
drop_one : (n b : ℕ) (s : List ℕ) → drop (1 + n) (b ∷ s) ≡ drop n s
drop_one n b s = let e : 1 + n ≡ suc n = omega arith in ap (λ k. drop k (b ∷ s)) e

past_is : (s : List ℕ) → drop (prefix_len blank s) s ≡ past_blanks s
past_is [] = refl
past_is (b ∷ s) = ⊎_elim (λ e. rw e (drop_one _ b s ∙ past_is s)) (λ e. rw e) (cases_Bool (blank b))

all_blank : (s : List ℕ) → ((k : ℕ) → k < length s → blank (get_or s k 0) ≡ true) → all blank s ≡ true
all_blank [] h = refl
all_blank (b ∷ s) h = and_from _ _ (h 0 (omega arith)) (all_blank s (λ k l. h (suc k) (omega arith)))

not_blank_at : (s : List ℕ) (k : ℕ) → k < length s → blank (get_or s k 0) ≡ false → all blank s ≡ false
not_blank_at [] k l h = absurd (omega arith)
not_blank_at (b ∷ s) zero l h = and_left _ _ h
not_blank_at (b ∷ s) (suc k) l h = and_right (blank b) _ (not_blank_at s k (omega arith) h)

-- without the run of blanks at the end, which begins at n
before_is : (s : List ℕ) (n : ℕ) → n ≤ length s → ((k : ℕ) → n ≤ k → k < length s → blank (get_or s k 0) ≡ true) → ((k : ℕ) → suc k ≡ n → blank (get_or s k 0) ≡ false) → take n s ≡ before_blanks s
before_is [] zero h f g = refl
before_is [] (suc n) h f g = absurd (omega arith)
before_is (b ∷ s) zero h f g = sym (cond-true _ _ _ (all_blank (b ∷ s) (λ k l. f k (omega arith) l)))
before_is (b ∷ s) (suc n) h f g = ap (λ t. b ∷ t) (before_is s n (omega arith) (λ k l m. f (suc k) (omega arith) (omega arith)) (λ k e. g (suc k) (ap suc e))) ∙ sym (cond-false _ _ _ (not_blank_at (b ∷ s) n (omega arith) (g n refl)))

module _ (s : List ℕ) (a n : ℕ) (start : a ≡ 0 + prefix_len blank s) where
  abbrev rest : List ℕ
  rest = take (length s - a) (drop a s)

  pub both_ends : n ≤ length rest → ((k : ℕ) → n ≤ k → k < length rest → blank (get_or rest k 0) ≡ true) → (0 < n → blank (get_or rest (n - 1) 0) ≡ false) → take n rest ≡ trimmed s
  both_ends h f g =
      let e : a ≡ prefix_len blank s = omega arith in
      let ended : (k : ℕ) → suc k ≡ n → blank (get_or rest k 0) ≡ false = λ k l. let m : k ≡ n - 1 = omega arith in ap (λ j. blank (get_or rest j 0)) m ∙ g (omega arith) in
      before_is rest n h f ended ∙ ap before_blanks (take_rest s a ∙ ap (λ k. drop k s) e ∙ past_is s)

-- a text without the blanks at an end, one byte on
all_push : (xs : List ℕ) (b : ℕ) → blank b ≡ true → all blank (xs ++ (b ∷ [])) ≡ all blank xs
all_push [] b e = rw e
all_push (x ∷ xs) b e = ap (λ t. blank x && t) (all_push xs b e)

not_all : (xs ys : List ℕ) (b : ℕ) → blank b ≡ false → all blank (xs ++ (b ∷ ys)) ≡ false
not_all [] ys b e = and_left _ _ e
not_all (x ∷ xs) ys b e = and_right _ _ (not_all xs ys b e)

before_push : (xs : List ℕ) (b : ℕ) → blank b ≡ true → before_blanks (xs ++ (b ∷ [])) ≡ before_blanks xs
before_push [] b e = rw e
before_push (x ∷ xs) b e = rw (all_push xs b e, before_push xs b e)

before_solid : (xs : List ℕ) (b : ℕ) → blank b ≡ false → before_blanks (xs ++ (b ∷ [])) ≡ xs ++ (b ∷ [])
before_solid [] b e = rw e
before_solid (x ∷ xs) b e = cond-false _ _ _ (and_right (blank x) _ (not_all xs [] b e)) ∙ ap (λ s. x ∷ s) (before_solid xs b e)

last_of : (s : List ℕ) (n : ℕ) → 0 < n → n ≤ length s → take n s ≡ take (n - 1) s ++ (get_or s (n - 1) 0 ∷ [])
last_of s n h l = let e : n - 1 + 1 ≡ n = omega arith in ap (λ k. take k s) (sym e) ∙ take_more s (n - 1) 0 (omega arith)

pub before_less : (s : List ℕ) (n : ℕ) → 0 < n → n ≤ length s → blank (get_or s (n - 1) 0) ≡ true → before_blanks (take n s) ≡ before_blanks (take (n - 1) s)
before_less s n h l e = ap before_blanks (last_of s n h l) ∙ before_push (take (n - 1) s) (get_or s (n - 1) 0) e

pub before_stop : (s : List ℕ) (n : ℕ) → 0 < n → n ≤ length s → blank (get_or s (n - 1) 0) ≡ false → take n s ≡ before_blanks (take n s)
before_stop s n h l e = let is = last_of s n h l in is ∙ sym (before_solid (take (n - 1) s) (get_or s (n - 1) 0) e) ∙ ap before_blanks (sym is)

pub past_more : (s : List ℕ) (i : ℕ) → i < length s → blank (get_or s i 0) ≡ true → past_blanks (drop i s) ≡ past_blanks (drop (i + 1) s)
past_more s i h e = ap past_blanks (drop_more s i 0 h) ∙ cond-true _ _ _ e

pub past_stop : (s : List ℕ) (i : ℕ) → i < length s → blank (get_or s i 0) ≡ false → drop i s ≡ past_blanks (drop i s)
past_stop s i h e = let is = drop_more s i 0 h in is ∙ sym (cond-false _ _ _ e) ∙ ap past_blanks (sym is)

pub past_end : (s : List ℕ) (i : ℕ) → length s ≤ i → past_blanks (drop i s) ≡ past_blanks s → drop (length s) s ≡ past_blanks s
past_end s i h e = drop_all (length s) s (omega arith) ∙ sym (ap past_blanks (drop_all i s h)) ∙ e

pub before_end : (s : List ℕ) (n : ℕ) → n ≤ 0 → before_blanks (take n s) ≡ before_blanks s → [] ≡ before_blanks s
before_end s n h e = let z : n ≡ 0 = omega arith in sym (ap (λ k. before_blanks (take k s)) z) ∙ e

-- what an '&' means is neither a blank nor plain
amp_way : (o : Option Escape) → (blank (meant o 38) ≡ false) × (plain_byte (meant o 38) ≡ false)
amp_way None = (refl, refl)
amp_way (Some amp) = (refl, refl)
amp_way (Some lt) = (refl, refl)
amp_way (Some gt) = (refl, refl)
amp_way (Some quot) = (refl, refl)
amp_way (Some apos) = (refl, refl)

no_escape : (b : ℕ) (s : List ℕ) → (b ≡ 38 → ⊥) → resolved (b ∷ s) ≡ b ∷ resolved s
no_escape b s h = let f : 38 ≡ b → ⊥ = λ e. h (sym e) in rw (ne_eqb 38 b f)

blank_resolved : (b : ℕ) (s : List ℕ) → blank b ≡ true → resolved (b ∷ s) ≡ b ∷ resolved s
blank_resolved b s e = no_escape b s (λ h. both_ways _ (ap blank h) e)

solid_resolved : (b : ℕ) (s : List ℕ) → solid b ≡ true → resolved (b ∷ s) ≡ b ∷ resolved s
solid_resolved b s e = no_escape b s (λ h. both_ways _ (ap solid h) e)

-- a byte that is no blank is kept: as itself if what is kept is solid
module _ (b : ℕ) (s : List ℕ) (e : blank b ≡ false) where
  meant_kept : blank (meant (escape_at (b ∷ s)) b) ≡ false
  meant_kept = ⊎_elim (λ h. subst (λ x. blank (meant (escape_at (x ∷ s)) x) ≡ false) (sym h) (amp_way (escape_at (38 ∷ s))).0) (λ h. let f : 38 ≡ b → ⊥ = λ e. h (sym e) in rw (ne_eqb 38 b f) e) (cases_eq b 38)

  as_itself : solid (meant (escape_at (b ∷ s)) b) ≡ true → resolved (b ∷ s) ≡ b ∷ resolved s
  as_itself h = no_escape b s (λ is. both_ways _ (and_right (not (blank (meant (escape_at (b ∷ s)) b))) _ (subst (λ x. plain_byte (meant (escape_at (x ∷ s)) x) ≡ false) (sym is) (amp_way (escape_at (38 ∷ s))).1)) h)

blanks_gap : (s : List ℕ) → all blank s ≡ true → kept_gap (resolved s) ≡ []
blanks_gap [] h = refl
blanks_gap (b ∷ s) h = let (u, v) = and_parts _ _ h in ap kept_gap (blank_resolved b s u) ∙ cond-true _ _ _ u ∙ blanks_gap s v

gap_blanks : (s : List ℕ) → all solid (kept_gap (resolved s)) ≡ true → all blank s ≡ true
gap_blanks [] h = refl
gap_blanks (b ∷ s) h =
    ⊎_elim
    (λ e. and_from _ _ e (gap_blanks s (sym (ap (λ t. all solid t) (ap kept_gap (blank_resolved b s e) ∙ cond-true _ _ _ e)) ∙ h)))
    (λ e. absurd (false≢true (sym (ap (λ t. all solid t) (cond-false _ _ _ (meant_kept b s e))) ∙ h)))
    (cases_Bool (blank b))

on_piece : (s : List ℕ) → all solid (kept_on (resolved s)) ≡ true → before_blanks s ≡ kept_on (resolved s)
on_piece [] h = refl
on_piece (b ∷ s) h =
    ⊎_elim
    (λ e.
    let is : kept_on (resolved (b ∷ s)) ≡ kept_gap (resolved s) = ap kept_on (blank_resolved b s e) ∙ cond-true _ _ _ e in
    let a = gap_blanks s (sym (ap (λ t. all solid t) is) ∙ h) in
    cond-true _ _ _ (and_from _ _ e a) ∙ sym (blanks_gap s a) ∙ sym is)
    (λ e.
    let k = (and_parts (solid (meant (escape_at (b ∷ s)) b)) _ (sym (ap (λ t. all solid t) (cond-false _ _ _ (meant_kept b s e))) ∙ h)).0 in
    let is : kept_on (resolved (b ∷ s)) ≡ b ∷ kept_on (resolved s) = ap kept_on (as_itself b s e k) ∙ cond-false _ _ _ e in
    cond-false _ _ _ (and_left _ _ e) ∙ ap (λ t. b ∷ t) (on_piece s (and_parts (solid b) _ (sym (ap (λ t. all solid t) is) ∙ h)).1) ∙ sym is)
    (cases_Bool (blank b))

-- a kept form of solid bytes is the piece between the blanks
pub kept_is_piece : (s : List ℕ) → all solid (kept (resolved s)) ≡ true → trimmed s ≡ kept (resolved s)
kept_is_piece [] h = refl
kept_is_piece (b ∷ s) h =
    ⊎_elim
    (λ e.
    let is : kept (resolved (b ∷ s)) ≡ kept (resolved s) = ap kept (blank_resolved b s e) ∙ cond-true _ _ _ e in
    ap before_blanks (cond-true _ _ _ e) ∙ kept_is_piece s (sym (ap (λ t. all solid t) is) ∙ h) ∙ sym is)
    (λ e.
    let k = (and_parts (solid (meant (escape_at (b ∷ s)) b)) _ (sym (ap (λ t. all solid t) (cond-false _ _ _ (meant_kept b s e))) ∙ h)).0 in
    let is : kept (resolved (b ∷ s)) ≡ b ∷ kept_on (resolved s) = ap kept (as_itself b s e k) ∙ cond-false _ _ _ e in
    ap before_blanks (cond-false _ _ _ e) ∙ cond-false _ _ _ (and_left _ _ e) ∙ ap (λ t. b ∷ t) (on_piece s (and_parts (solid b) _ (sym (ap (λ t. all solid t) is) ∙ h)).1) ∙ sym is)
    (cases_Bool (blank b))

solid_not_blank : (b : ℕ) → solid b ≡ true → blank b ≡ false
solid_not_blank b h = not-true _ (and_parts (not (blank b)) _ h).0

piece_on : (s : List ℕ) → all solid (before_blanks s) ≡ true → kept_on (resolved s) ≡ before_blanks s
piece_on [] h = refl
piece_on (b ∷ s) h =
    ⊎_elim
    (λ a. let (u, v) = and_parts (blank b) _ a in ap kept_on (blank_resolved b s u) ∙ cond-true _ _ _ u ∙ blanks_gap s v ∙ sym (cond-true _ _ _ a))
    (λ a.
    let is : before_blanks (b ∷ s) ≡ b ∷ before_blanks s = cond-false _ _ _ a in
    let (u, v) = and_parts (solid b) _ (sym (ap (λ t. all solid t) is) ∙ h) in
    ap kept_on (solid_resolved b s u) ∙ cond-false _ _ _ (solid_not_blank b u) ∙ ap (λ t. b ∷ t) (piece_on s v) ∙ sym is)
    (cases_Bool (all blank (b ∷ s)))

-- a piece of solid bytes is the kept form
pub piece_is_kept : (s : List ℕ) → all solid (trimmed s) ≡ true → kept (resolved s) ≡ trimmed s
piece_is_kept [] h = refl
piece_is_kept (b ∷ s) h =
    ⊎_elim
    (λ e.
    let is : trimmed (b ∷ s) ≡ trimmed s = ap before_blanks (cond-true _ _ _ e) in
    ap kept (blank_resolved b s e) ∙ cond-true _ _ _ e ∙ piece_is_kept s (sym (ap (λ t. all solid t) is) ∙ h) ∙ sym is)
    (λ e.
    let is : trimmed (b ∷ s) ≡ b ∷ before_blanks s = ap before_blanks (cond-false _ _ _ e) ∙ cond-false _ _ _ (and_left _ _ e) in
    let (u, v) = and_parts (solid b) _ (sym (ap (λ t. all solid t) is) ∙ h) in
    ap kept (solid_resolved b s u) ∙ cond-false _ _ _ e ∙ ap (λ t. b ∷ t) (piece_on s v) ∙ sym is)
    (cases_Bool (blank b))

-- a test that only texts of solid bytes pass judges the kept form by the piece
module _ (p : List ℕ → Bool) (f : (s : List ℕ) → p s ≡ true → all solid s ≡ true) (raw t : List ℕ) (is : t ≡ trimmed raw) where
  pub passes : true ≡ p t → (p (kept (resolved raw)) ≡ true) × (t ≡ kept (resolved raw))
  passes e =
      let h = sym (ap p is) ∙ sym e in
      let same = sym (piece_is_kept raw (f (trimmed raw) h)) in
      (sym (ap p same) ∙ h, is ∙ same)

  pub by_piece : p t ≡ p (kept (resolved raw))
  by_piece = ap p is ∙ ⊎_elim (λ e. ap p (kept_is_piece raw (f _ e))) (λ e. ⊎_elim (λ h. ap p (sym (piece_is_kept raw (f _ h)))) (λ h. h ∙ sym e) (cases_Bool (p (trimmed raw)))) (cases_Bool (p (kept (resolved raw))))

  pub fails : false ≡ p t → p (kept (resolved raw)) ≡ false
  fails e = sym by_piece ∙ sym e

  -- the piece itself, if it passes
  pub kept_piece : (b : Bool) → b ≡ p t → (part : Bor (List ℕ)) → part.now ≡ t → (r : Option (Bor (List ℕ))) → r ≡ then_some b part → MatchOption r (p (kept (resolved raw)) ≡ false) (λ s. (p (kept (resolved raw)) ≡ true) × (s.now ≡ kept (resolved raw)))
  kept_piece true e part q r h = rw h (let (ok, same) = passes e in (ok, q ∙ same))
  kept_piece false e part q r h = rw h (fails e)
