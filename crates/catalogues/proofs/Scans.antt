-- Scans of a text, and of the list of catalogues.
use Rattle.std.proofs.Common.{◌≡◌, ℕ, suc, ◌+◌, ◌-◌, ◌≤◌, Bool, true, false, ◌&&◌, ◌||◌, eqb, List, [], ◌∷◌, ◌++◌, length, take, drop, is_some, Option, None, Some, MatchOption, Bor, sym, refl, ap, ◌∙◌, subst, ⊎_elim, arith}
use Rattle.std.specs.Bool.{then_some}
use Rattle.std.specs.Option.{unwrap_or}
use Rattle.std.specs.List.{prefix_len, list_any}
use Rattle.std.specs.Slice.{IsGetRangeResult}
use Rattle.std.specs.Cmp.Lexicographic.{pointwise}
use Rattle.std.specs.Prelude.{nat_eq}
use Rattle.std.proofs.lemmas.Bool.{cases_Bool, cases_lt, eqb-true, and_parts, and_right, false≢true}
use Rattle.std.proofs.lemmas.Cmp.{nat_eq_equiv}
use Rattle.std.proofs.lemmas.List.{drop_all}
use Rattle.rules.specs.Bytes.{same}
use Rattle.rules.specs.Catalogues.{one_of, when, catalogue_name, named_among, before_bar, after_bar}
use Rattle.rules.specs.declared.schema.Catalogue.{Catalogue}
use Rattle.byte_classes.specs.Runs.{other}
use Rattle.rules.specs.Kinds.{code_ok}
use Rattle.theory.proofs.Lists.{nil_cons, cons_tail}
use Rattle.catalogues.specs.Lines.{until, line_at, is_named, pair_ok}

one_more : (n : ℕ) → 1 + n ≡ suc n
one_more n = omega arith

-- what stands before the first of a byte is a run of other bytes
pub until_is : (q : ℕ) (s : List ℕ) → take (prefix_len (other q) s) s ≡ until q s
until_is q [] = refl
until_is q (x ∷ s) =
    ⊎_elim
    (λ e. rw e)
    (λ e. let n = one_more (prefix_len (other q) s) in rw e (rw n (ap (λ z. x ∷ z) (until_is q s))))
    (cases_Bool (eqb x q))

-- the line that is read from a place
pub line_read : (t : List ℕ) (at e : ℕ) (r : Option (Bor (List ℕ))) (d : Bor (List ℕ)) → e ≡ at + prefix_len (other 10) (drop at t) → (at ≤ length t → e ≤ length t) → IsGetRangeResult t at e r → d.now ≡ [] → (unwrap_or r d).now ≡ line_at t at
line_read t at e (Some x) d q w g z =
    let n : e - at ≡ prefix_len (other 10) (drop at t) = omega arith in
    g.0.2 ∙ ap (λ k. take k (drop at t)) n ∙ until_is 10 (drop at t)
line_read t at e None d q w g z =
    ⊎_elim
    (λ h. z ∙ ap (until 10) (sym (drop_all at t (omega arith))))
    (λ h. absurd (false≢true (g.1 (omega arith, w h))))
    (cases_lt (length t) at)

-- the parts of a text at its first bar
bar_found : (s code : List ℕ) → drop (prefix_len (other 124) s) s ≡ 124 ∷ code → (before_bar s ≡ take (prefix_len (other 124) s) s) × (after_bar s ≡ code) × (s ≡ take (prefix_len (other 124) s) s ++ 124 ∷ code)
bar_found [] code e = absurd (nil_cons _ _ e)
bar_found (x ∷ s) code e =
    ⊎_elim
    (λ f. let u : x ∷ s ≡ 124 ∷ code = rw f at e in rw f (refl, cons_tail u, u))
    (λ f.
    let n = one_more (prefix_len (other 124) s) in
    let u : drop (prefix_len (other 124) s) s ≡ 124 ∷ code = rw n at (rw f at e) in
    let (a, b, c) = bar_found s code u in
    rw f (rw n (ap (λ z. x ∷ z) a, b, ap (λ z. x ∷ z) c)))
    (cases_Bool (eqb x 124))

bar_missing : (s : List ℕ) → ((code : List ℕ) → drop (prefix_len (other 124) s) s ≡ 124 ∷ code → ⊥) → after_bar s ≡ []
bar_missing [] h = refl
bar_missing (x ∷ s) h =
    ⊎_elim
    (λ f. let q = eqb-true x 124 f in absurd (h s (rw f (ap (λ y. y ∷ s) q))))
    (λ f. let n = one_more (prefix_len (other 124) s) in rw f (bar_missing s (λ code e. h code (rw f (rw n e)))))
    (cases_Bool (eqb x 124))

-- a key is read at its first bar
module _ (s back : List ℕ) (bar : ℕ) (e : bar ≡ 0 + prefix_len (other 124) s) (b : back ≡ drop bar s) where
  here : bar ≡ prefix_len (other 124) s
  here = omega arith

  pub pair_missing : pointwise nat_eq (take 1 back) (124 ∷ []) ≡ false → pair_ok s ≡ false
  pair_missing h =
      let none : (code : List ℕ) → drop (prefix_len (other 124) s) s ≡ 124 ∷ code → ⊥ = λ code f. false≢true (sym h ∙ ap (λ l. pointwise nat_eq (take 1 l) (124 ∷ [])) (b ∙ ap (λ n. drop n s) here ∙ f)) in
      and_right (is_named (before_bar s)) _ (ap code_ok (bar_missing s none))

  pub pair_parts : (name code : List ℕ) → name ≡ take bar s → code ≡ drop 1 back → pointwise nat_eq (take 1 back) (124 ∷ []) ≡ true → (pair_ok s ≡ (is_named name && code_ok code)) × (s ≡ name ++ 124 ∷ code)
  pair_parts name code n k h =
      let (u, v, w) = bar_found s code (ap (λ m. drop m s) (sym here) ∙ sym b ∙ begins back code k h) in
      let f : take (prefix_len (other 124) s) s ≡ name = ap (λ m. take m s) (sym here) ∙ sym n in
      ((λ i. is_named ((u ∙ f) i) && code_ok (v i)), w ∙ ap (λ z. z ++ 124 ∷ code) f)
    where
      begins : (back code : List ℕ) → code ≡ drop 1 back → pointwise nat_eq (take 1 back) (124 ∷ []) ≡ true → back ≡ 124 ∷ code
      begins [] code k h = absurd (false≢true h)
      begins (y ∷ back) code k h = let q = eqb-true y 124 (and_parts (eqb y 124) true h).0 in (λ i. q i ∷ sym k i)

-- what is told where a test holds
pub told_where : {A : Type 0} (Q : A → Type 0) (p b : Bool) (x : A) (o : Option A) → b ≡ p → o ≡ then_some b x → Q x → MatchOption o (p ≡ false) (λ y. (p ≡ true) × Q y)
told_where Q p true x o e f q = subst (λ o. MatchOption o (p ≡ false) (λ y. (p ≡ true) × Q y)) (sym f) (sym e, q)
told_where Q p false x o e f q = subst (λ o. MatchOption o (p ≡ false) (λ y. (p ≡ true) × Q y)) (sym f) (sym e)

-- two texts are tested for the same bytes by either word
pub same_pointwise : (a b : List ℕ) → same a b ≡ pointwise nat_eq a b
same_pointwise [] [] = refl
same_pointwise [] (y ∷ b) = refl
same_pointwise (x ∷ a) [] = refl
same_pointwise (x ∷ a) (y ∷ b) = rw (same_pointwise a b)

-- the catalogues one by one
pub named_any : (n : List ℕ) (cs : List Catalogue) → list_any (λ c. pointwise nat_eq (catalogue_name c) n) cs ≡ is_some (named_among cs n)
named_any n [] = refl
named_any n (c ∷ cs) = rw (← same_pointwise (catalogue_name c) n) (⊎_elim (λ e. rw e) (λ e. rw e (named_any n cs)) (cases_Bool (same (catalogue_name c) n)))

-- texts of two lengths differ
pub same_length : (a b : List ℕ) → (length a ≡ length b → ⊥) → same a b ≡ false
same_length [] [] h = absurd (h refl)
same_length [] (y ∷ b) h = refl
same_length (x ∷ a) [] h = refl
same_length (x ∷ a) (y ∷ b) h = and_right (eqb x y) _ (same_length a b (λ e. h (ap suc e)))

-- texts are tested for the same bytes in either order
same_turned : (a b : List ℕ) → pointwise nat_eq a b ≡ same b a
same_turned [] [] = refl
same_turned [] (y ∷ b) = refl
same_turned (x ∷ a) [] = refl
same_turned (x ∷ a) (y ∷ b) = λ i. nat_eq_equiv.symm x y i && same_turned a b i

pub any_one_of : (s : List ℕ) (ts : List (List ℕ)) → list_any (λ t. pointwise nat_eq t s) ts ≡ one_of s ts
any_one_of s [] = refl
any_one_of s (t ∷ ts) = λ i. same_turned t s i || any_one_of s ts i

pub then_some-when : (b : Bool) (n : ℕ) → then_some b n ≡ when b n
then_some-when true n = refl
then_some-when false n = refl
