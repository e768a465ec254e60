-- What `eq` of two iterators says of the bytes that they give, and what two texts have alike byte by byte.
use Rattle.std.proofs.Common.{◌≡◌, ℕ, Bool, true, false, ◌&&◌, eqb, List, [], ◌∷◌, Some, None, Option, MatchOption, sym, refl, ap, ap₂, subst, ◌∙◌, ◌+◌, ◌<◌, ◌≤◌, ◌++◌, length, get_or, take, drop, set, arith, length-append}
use Rattle.std.proofs.lemmas.Bool.{and_left, eq-eqb, ne_eqb}
use Rattle.std.proofs.lemmas.Iterator.{YieldsList}
use Rattle.std.specs.Iterator.{AlwaysYields, YieldsThen, ComparesItemsByEq}
use Rattle.std.specs.List.{AllZip}
use Rattle.std.specs.Option.{IfSome}
use Rattle.rules.specs.Bytes.{same}
use Rattle.kinds.specs.declared.kept.Kept.{Kept}
use Rattle.kinds.specs.Reading.{Gives, rest}
use Rattle.std.proofs.lemmas.List.{drop_more, drop_all, take_more_set, take_all, length-take-le, append_assoc, append-nil}

Kept-gives : (s : List ℕ) (k : Kept) → rest k ≡ s → AlwaysYields Gives (λ b. b) k s
Kept-gives [] k e = λ b l g. let h : [] ≡ b ∷ rest l = sym e ∙ g.byte in absurd (cc)
Kept-gives (x ∷ s) k e = (
  (λ l g. let h : x ∷ s ≡ [] = sym e ∙ g.byte.0 in absurd (cc)),
  λ b l g. let h : x ∷ s ≡ b ∷ rest l = sym e ∙ g.byte in let i : b ≡ x = cc in let j : rest l ≡ s = cc in (i, Kept-gives s l j),
)

-- a reader of a kept form gives what is left of it
pub YieldsList-from_Kept : (k : Kept) → YieldsList Gives (λ b. b) k (rest k)
YieldsList-from_Kept k = record { runs = Kept-gives (rest k) k refl }

module _ {S T : Type 0} (steps : S → Option ℕ → S → Type 0) (others : T → Option ℕ → T → Type 0) (r : Bool) where
  -- the two answers after which the comparison ended
  abbrev Ends : Option ℕ → Option ℕ → Type 0
  Ends o p = MatchOption o (MatchOption p (r ≡ true) (λ _. r ≡ false)) (λ x. (r ≡ false) × IfSome p (λ y. eqb x y ≡ false))

  at_end : (o p : Option ℕ) (xs ys : List ℕ) (s u : S) (t w : T) → AlwaysYields steps (λ b. b) s xs → AlwaysYields others (λ b. b) t ys → steps s o u → others t p w → Ends o p → r ≡ same xs ys
  at_end None None (x ∷ xs) ys s u t w e f a b h = absurd (e.0 u a)
  at_end None (Some y) (x ∷ xs) ys s u t w e f a b h = absurd (e.0 u a)
  at_end (Some x) None [] ys s u t w e f a b h = absurd (e x u a)
  at_end (Some x) (Some y) [] ys s u t w e f a b h = absurd (e x u a)
  at_end None None [] (y ∷ ys) s u t w e f a b h = absurd (f.0 w b)
  at_end None (Some y) [] [] s u t w e f a b h = absurd (f y w b)
  at_end (Some x) None (z ∷ xs) (y ∷ ys) s u t w e f a b h = absurd (f.0 w b)
  at_end (Some x) (Some y) (z ∷ xs) [] s u t w e f a b h = absurd (f y w b)
  at_end None None [] [] s u t w e f a b h = h
  at_end None (Some y) [] (z ∷ ys) s u t w e f a b h = h
  at_end (Some x) None (z ∷ xs) [] s u t w e f a b h = h.0
  at_end (Some x) (Some y) (x' ∷ xs) (y' ∷ ys) s u t w e f a b h = h.0 ∙ sym (and_left _ _ (sym (ap₂ eqb (e.1 x u a).0 (f.1 y w b).0) ∙ h.1))

  along : (cs bs : List ℕ) (o p : Option ℕ) (xs ys : List ℕ) (s u : S) (t w : T) → AlwaysYields steps (λ b. b) s xs → AlwaysYields others (λ b. b) t ys
      → YieldsThen steps s cs o u → YieldsThen others t bs p w → AllZip (λ x y. eqb x y ≡ true) cs bs → Ends o p → r ≡ same xs ys
  along [] [] o p xs ys s u t w e f a b z h = at_end o p xs ys s u t w e f (subst (λ j. steps j o u) (sym a.1) a.2) (subst (λ j. others j p w) (sym b.1) b.2) h
  along [] (y ∷ bs) o p xs ys s u t w e f a b z h = absurd z
  along (x ∷ cs) [] o p xs ys s u t w e f a b z h = absurd z
  along (x ∷ cs) (y ∷ bs) o p [] ys s u t w e f a b z h = absurd (e x a.1.0 a.1.1)
  along (x ∷ cs) (y ∷ bs) o p (x' ∷ xs) [] s u t w e f a b z h = absurd (f y b.1.0 b.1.1)
  along (x ∷ cs) (y ∷ bs) o p (x' ∷ xs) (y' ∷ ys) s u t w e f a b z h =
      let m = e.1 x a.1.0 a.1.1 in
      let n = f.1 y b.1.0 b.1.1 in
      let tie : eqb x' y' ≡ true = sym (ap₂ eqb m.0 n.0) ∙ z.0 in
      along cs bs o p xs ys a.1.0 u b.1.0 w m.1 n.1 (a.0, a.1.2, a.2) (b.0, b.1.2, b.2) z.1 h ∙ sym (ap (λ c. c && same xs ys) tie)

-- `eq` says whether the lists that both give are the same
pub same_from_eq : {S U T : Type 0} {steps : S → Option ℕ → S → Type 0} {others : T → Option ℕ → T → Type 0} (becomes : U → T → Type 0) (other : U) (s : S) (xs ys : List ℕ) (r : Bool) → ComparesItemsByEq steps becomes others s other eqb r
    → YieldsList steps (λ b. b) s xs → ((it : T) → becomes other it → YieldsList others (λ b. b) it ys) → r ≡ same xs ys
same_from_eq {steps = steps} {others = others} becomes other s xs ys r d e f = along steps others r d.1 d.2 d.3 d.4 xs ys s d.5 d.0 d.6 e.runs (f d.0 d.7).runs d.8 d.9 d.10 d.11

-- two texts are compared byte by byte
module _ (t : List ℕ) (i : ℕ) (s : List ℕ) where
  pub same_short : i < length t → s ≡ [] → same s (drop i t) ≡ false
  same_short h e = rw (e, drop_more t i 0 h)

  pub same_differ : (b : ℕ) (xs : List ℕ) → i < length t → s ≡ b ∷ xs → (b ≡ get_or t i 0 → ⊥) → same s (drop i t) ≡ false
  same_differ b xs h e f = rw (e, drop_more t i 0 h, ne_eqb _ _ f)

  pub same_more : (b : ℕ) (xs : List ℕ) → i < length t → s ≡ b ∷ xs → b ≡ get_or t i 0 → same s (drop i t) ≡ same xs (drop (i + 1) t)
  same_more b xs h e f = rw (e, drop_more t i 0 h, eq-eqb _ _ f)

  pub same_over : (b : ℕ) (xs : List ℕ) → length t ≤ i → s ≡ b ∷ xs → same s (drop i t) ≡ false
  same_over b xs h e = rw (e, drop_all i t h)

  pub same_end : length t ≤ i → s ≡ [] → same s (drop i t) ≡ true
  same_end h e = rw (e, drop_all i t h)

-- the first n bytes of the array are read, and s is left
pub held_more : (a : List ℕ) (n b : ℕ) (start s xs : List ℕ) → n < length a → take n a ++ s ≡ start → s ≡ b ∷ xs → take (n + 1) (set a n b) ++ xs ≡ start
held_more a n b start s xs h inv e = ap (λ t. t ++ xs) (take_more_set a n b h) ∙ append_assoc (take n a) (b ∷ []) xs ∙ ap (λ t. take n a ++ t) (sym e) ∙ inv

pub held_all : (a : List ℕ) (n : ℕ) (start s : List ℕ) → length a ≤ n → take n a ++ s ≡ start → s ≡ [] → a ≡ start
held_all a n start s h inv e = sym (take_all n a h) ∙ sym (append-nil (take n a)) ∙ ap (λ t. take n a ++ t) (sym e) ∙ inv

pub held_not : (a : List ℕ) (n : ℕ) (start s : List ℕ) → n < length a → take n a ++ s ≡ start → s ≡ [] → length start < length a
held_not a n start s h inv e = omega (arith, sym (ap length inv), length-append (take n a) s, ap length e, length-take-le n a (omega arith))

pub held_over : (a : List ℕ) (n b : ℕ) (start s xs : List ℕ) → n ≤ length a → take n a ++ s ≡ start → s ≡ b ∷ xs → n < length start
held_over a n b start s xs h inv e = omega (arith, sym (ap length inv), length-append (take n a) s, ap length e, length-take-le n a h)
