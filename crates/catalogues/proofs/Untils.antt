-- What is left of a text, and of the list of catalogues, one place on.
use Rattle.std.proofs.Common.{◌≡◌, ℕ, suc, ◌+◌, ◌-◌, ◌<◌, ◌≤◌, true, false, cond, ◌&&◌, eqb, List, [], ◌∷◌, ◌++◌, length, get_or, take, drop, set, is_some, sym, refl, ap, ◌∙◌, ⊎_elim, arith}
use borrow.Rule.Slice.PartMut.{put_mid}
use Rattle.std.proofs.lemmas.Slice.{take-put_mid}
use Rattle.std.proofs.lemmas.List.{at_drop_more, at_drop_all, take_rest, take-take, take_at, take_more_set, length-set, get_or-take, get_or-drop, append_assoc}
use Rattle.std.proofs.lemmas.Bool.{cases_Bool, lt-ltb, and_left, and_right, eq-eqb, ne_eqb, cond-true, cond-false}
use Rattle.rules.specs.Bytes.{same}
use Rattle.rules.specs.Kinds.{code_ok}
use Rattle.rules.specs.Catalogues.{catalogue_name, catalogues, named_among, before_bar, after_bar, header}
use Rattle.rules.specs.declared.schema.Catalogue.{Catalogue}
use Rattle.catalogues.specs.Lines.{until, is_named, pair_ok, line_at, key_at, last_of, header_there}

module _ (q : ℕ) (s : List ℕ) (i : ℕ) where
  pub until_more : i < length s → (get_or s i 0 ≡ q → ⊥) → i + length (until q (drop i s)) ≡ (i + 1) + length (until q (drop (i + 1) s))
  until_more h e = omega (arith, ap length (at_drop_more (until q) s i 0 h ∙ cond-false _ _ _ (ne_eqb _ _ e)))

  pub until_stop : i < length s → get_or s i 0 ≡ q → length (until q (drop i s)) ≡ 0
  until_stop h e = ap length (at_drop_more (until q) s i 0 h ∙ cond-true _ _ _ (eq-eqb _ _ e))

  pub until_end : length s ≤ i → length (until q (drop i s)) ≡ 0
  until_end h = ap length (at_drop_all (until q) s i h)

pub until_front : (q : ℕ) (s : List ℕ) → take (length (until q s)) s ≡ until q s
until_front q [] = refl
until_front q (x ∷ s) =
    ⊎_elim
    (λ e. rw e)
    (λ e. rw e (ap (λ z. x ∷ z) (until_front q s)))
    (cases_Bool (eqb x q))

-- the parts of a text at its first bar
pub bar_until : (s : List ℕ) → before_bar s ≡ until 124 s
bar_until [] = refl
bar_until (x ∷ s) = ap (λ z. cond (eqb x 124) [] (x ∷ z)) (bar_until s)

pub after_there : (s : List ℕ) → length (until 124 s) < length s → after_bar s ≡ drop (suc (length (until 124 s))) s
after_there [] h = absurd (omega arith)
after_there (x ∷ s) h =
    ⊎_elim
    (λ e. rw e)
    (λ e. let h' : length (x ∷ until 124 s) < length (x ∷ s) = rw e at h in rw e (after_there s (omega arith)))
    (cases_Bool (eqb x 124))

pub after_none : (s : List ℕ) → length s ≤ length (until 124 s) → after_bar s ≡ []
after_none [] h = refl
after_none (x ∷ s) h =
    ⊎_elim
    (λ e. let h' : length (x ∷ s) ≤ 0 = rw e at h in absurd (omega arith))
    (λ e. let h' : length (x ∷ s) ≤ length (x ∷ until 124 s) = rw e at h in rw e (after_none s (omega arith)))
    (cases_Bool (eqb x 124))

-- the catalogues one by one
module _ (n : List ℕ) (i : ℕ) (d : Catalogue) (h : i < 14) where
  pub named_more : same (catalogue_name (get_or catalogues i d)) n ≡ false → is_some (named_among (drop i catalogues) n) ≡ is_some (named_among (drop (i + 1) catalogues) n)
  named_more e = ap is_some (at_drop_more (λ cs. named_among cs n) catalogues i d h ∙ cond-false _ _ _ e)

  pub named_here : same (catalogue_name (get_or catalogues i d)) n ≡ true → is_some (named_among (drop i catalogues) n) ≡ true
  named_here e = ap is_some (at_drop_more (λ cs. named_among cs n) catalogues i d h ∙ cond-true _ _ _ e)

pub named_end : (n : List ℕ) (i : ℕ) → 14 ≤ i → is_some (named_among (drop i catalogues) n) ≡ false
named_end n i h = ap is_some (at_drop_all (λ cs. named_among cs n) catalogues i h)

-- a key is read at its first bar
module _ (s : List ℕ) (bar : ℕ) (e : bar ≡ 0 + length (until 124 s)) where
  pub pair_none : length s ≤ bar → pair_ok s ≡ false
  pair_none h = and_right (is_named (before_bar s)) _ (ap code_ok (after_none s (omega arith)))

  pair_parts : bar < length s → pair_ok s ≡ (is_named (take (bar - 0) s) && code_ok (take (length s - (bar + 1)) (drop (bar + 1) s)))
  pair_parts h =
      let n : bar - 0 ≡ length (until 124 s) = omega arith in
      let m : suc (length (until 124 s)) ≡ bar + 1 = omega arith in
      let u : before_bar s ≡ take (bar - 0) s = bar_until s ∙ sym (until_front 124 s) ∙ ap (λ k. take k s) (sym n) in
      let v : after_bar s ≡ take (length s - (bar + 1)) (drop (bar + 1) s) = after_there s (omega arith) ∙ ap (λ k. drop k s) m ∙ sym (take_rest s (bar + 1)) in
      λ i. is_named (u i) && code_ok (v i)

  pub pair_named : bar < length s → is_named (take (bar - 0) s) ≡ true → pair_ok s ≡ code_ok (take (length s - (bar + 1)) (drop (bar + 1) s))
  pair_named h n = pair_parts h ∙ ap (λ b. b && code_ok (take (length s - (bar + 1)) (drop (bar + 1) s))) n

  pub pair_unnamed : bar < length s → is_named (take (bar - 0) s) ≡ false → pair_ok s ≡ false
  pair_unnamed h n = pair_parts h ∙ and_left _ _ n

-- lines read from one place to another
module _ (t : List ℕ) (p e : ℕ) (is : e ≡ p + length (line_at t p)) where
  pub line_read : take (e - p) (drop p t) ≡ line_at t p
  line_read = let n : e - p ≡ length (line_at t p) = omega arith in ap (λ k. take k (drop p t)) n ∙ until_front 10 (drop p t)

  pub key_read : take (e - 2 - p) (drop p t) ≡ key_at t p
  key_read =
      let n : e - 2 - p ≡ length (line_at t p) - 2 = omega arith in
      ap (λ k. take k (drop p t)) n
      ∙ sym (take-take (length (line_at t p) - 2) (length (line_at t p)) (drop p t) (omega arith))
      ∙ ap (take (length (line_at t p) - 2)) (until_front 10 (drop p t))

  pub last_read : 1 ≤ length (line_at t p) → get_or t (e - 1) 0 ≡ last_of (line_at t p)
  last_read h =
      let n : ℕ = length (line_at t p) in
      let m : p + (n - 1) ≡ e - 1 = omega arith in
      ap (λ k. get_or t k 0) (sym m) ∙ sym (get_or-drop p t (n - 1) 0) ∙ sym (get_or-take n (drop p t) (n - 1) 0 (omega arith)) ∙ ap (λ l. get_or l (n - 1) 0) (until_front 10 (drop p t))

pub header_read : (t : List ℕ) (e : ℕ) → e ≡ 0 + length (line_at t 0) → e < length t → header_there t ≡ same (take (e - 0) t) header
header_read t e is h =
    ap (λ b. b && same (line_at t 0) header) (lt-ltb _ _ (omega arith)) ∙ ap (λ l. same l header) (sym (line_read t 0 e is))

-- a text, '|' and another text, written one after the other into a room
pub key_written : (a b r : List ℕ) (n k m : ℕ) → n ≡ length a → k ≡ length b → n < length (a ++ r) → take (n + 1 + k) (put_mid (n + 1) m (set (a ++ r) n 124) b) ≡ a ++ 124 ∷ b
key_written a b r n k m e f h =
    let l : length (set (a ++ r) n 124) ≡ length (a ++ r) = length-set (a ++ r) n 124 in
    take-put_mid (n + 1) m (set (a ++ r) n 124) b (n + 1 + k) (omega arith) (omega arith)
    ∙ ap (λ x. x ++ b) (take_more_set (a ++ r) n 124 h ∙ ap (λ x. x ++ 124 ∷ []) (take_at a r n (sym e)))
    ∙ append_assoc a (124 ∷ []) b
