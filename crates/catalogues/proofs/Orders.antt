-- The order of texts, and what a search by it finds.
use Rattle.std.proofs.Common.{◌≡◌, ℕ, ◌+◌, ◌<◌, ◌≤◌, true, false, List, [], ◌∷◌, ◌++◌, length, get_or, take, drop, min, Ok, Err, Result, Ordering, sym, refl, ap, ◌∙◌, ⊎_elim, arith, eqb, ltb, subst}
use Rattle.std.specs.Cmp.Lexicographic.{slice_cmp}
use Rattle.std.specs.List.Sorted.{IsSortedBy, IsSearchInRange, IsBinarySearchResult}
use Rattle.std.specs.Ordering.{nat_cmp, is_lt, is_eq, ordering_reverse, ordering_then}
use Rattle.std.specs.declared.cmp.Ordering.TheVariants.{Less, Equal, Greater}
use Rattle.std.proofs.lemmas.Bool.{false≢true, cases_lt, eq-eqb, ne_eqb, lt-ltb}
use Rattle.std.proofs.lemmas.Bool.Decides.{nat_tests}
use Rattle.std.proofs.lemmas.Cmp.{same_from_slice_cmp, nat_list_cmp_total, tied_itself}
use Rattle.std.proofs.lemmas.List.{get_or-take, get_or_default, length-take-le, take_all, drop_all, take-append-drop, drop_more}
use Rattle.std.proofs.lemmas.List.Sorted.{searchable_from_sorted}
use Rattle.std.proofs.lemmas.Map.Text.{is_eq-slice_cmp}
use Rattle.std.proofs.lemmas.Slice.Eq.{bytes_eq-Decides}
use Rattle.catalogues.specs.Lines.{key_at}
use Rattle.catalogues.specs.Ordered.{below, key_in, Ascends, Sought}

below_is : (a b : List ℕ) → is_lt (slice_cmp nat_cmp a b) ≡ below a b
below_is a b = same_from_slice_cmp nat_cmp is_lt below refl (λ _ _. refl) (λ _ _. refl) (λ x y xs ys o h. grind (arith, nat_tests)) a b _ refl

pub below_itself : (a : List ℕ) → below a a ≡ true → ⊥
below_itself a h = false≢true (ap is_lt (sym (tied_itself nat_list_cmp_total a)) ∙ below_is a a ∙ h)

below_from_less : (a b : List ℕ) → slice_cmp nat_cmp a b ≡ Less → below a b ≡ true
below_from_less a b e = sym (below_is a b) ∙ ap is_lt e

less_from_below : (a b : List ℕ) → below a b ≡ true → slice_cmp nat_cmp a b ≡ Less
less_from_below a b h = go (slice_cmp nat_cmp a b) (below_is a b ∙ h)
  where
    go : (o : Ordering) → is_lt o ≡ true → o ≡ Less
    go Less e = refl
    go Equal e = absurd (false≢true e)
    go Greater e = absurd (false≢true e)

pub below_trans : (a b c : List ℕ) → below a b ≡ true → below b c ≡ true → below a c ≡ true
below_trans a b c h k = below_from_less a c (nat_list_cmp_total.trans a b c (less_from_below a b h) (less_from_below b c k))

above_from_greater : (a b : List ℕ) → slice_cmp nat_cmp a b ≡ Greater → below b a ≡ true
above_from_greater a b e = below_from_less b a (nat_list_cmp_total.antisymm b a ∙ ap ordering_reverse e)

same_from_equal : (a b : List ℕ) → slice_cmp nat_cmp a b ≡ Equal → a ≡ b
same_from_equal a b e = (bytes_eq-Decides a b).0 (sym (is_eq-slice_cmp a b) ∙ ap is_eq e)

then_assoc : (o p q : Ordering) → ordering_then o (ordering_then p q) ≡ ordering_then (ordering_then o p) q
then_assoc Less p q = refl
then_assoc Equal p q = refl
then_assoc Greater p q = refl

-- a text is ordered beside two others, one after the other, by its parts
cmp-++ : (k a r : List ℕ) → slice_cmp nat_cmp k (a ++ r) ≡ ordering_then (slice_cmp nat_cmp (take (length a) k) a) (slice_cmp nat_cmp (drop (length a) k) r)
cmp-++ k [] r = refl
cmp-++ [] (x ∷ a) r = refl
cmp-++ (y ∷ k) (x ∷ a) r = ap (ordering_then (nat_cmp y x)) (cmp-++ k a r) ∙ then_assoc (nat_cmp y x) _ _

pub cmp_parts : (k a r front back : List ℕ) (m : ℕ) → m ≡ min (length a) (length k) → front ≡ take m k → back ≡ drop m k → slice_cmp nat_cmp k (a ++ r) ≡ ordering_then (slice_cmp nat_cmp front a) (slice_cmp nat_cmp back r)
cmp_parts k a r front back m e f b = cmp-++ k a r ∙ (λ i. ordering_then (slice_cmp nat_cmp (sym (f ∙ same_front) i) a) (slice_cmp nat_cmp (sym (b ∙ same_back) i) r))
  where
    same_front : take m k ≡ take (length a) k
    same_front = ⊎_elim (λ h. take_all m k (omega arith) ∙ sym (take_all (length a) k (omega arith))) (λ h. let n : m ≡ length a = omega arith in ap (λ j. take j k) n) (cases_lt (length k) (length a))

    same_back : drop m k ≡ drop (length a) k
    same_back = ⊎_elim (λ h. drop_all m k (omega arith) ∙ sym (drop_all (length a) k (omega arith))) (λ h. let n : m ≡ length a = omega arith in ap (λ j. drop j k) n) (cases_lt (length k) (length a))

pub cmp_first : (back code : List ℕ) (o first rest : Ordering) → 1 ≤ length back → first ≡ nat_cmp (get_or back 0 0) 124 → rest ≡ slice_cmp nat_cmp (drop 1 back) code → ordering_then (ordering_then o first) rest ≡ ordering_then o (slice_cmp nat_cmp back (124 ∷ code))
cmp_first [] code o first rest h e f = absurd (omega arith)
cmp_first (y ∷ back) code o first rest h e f = sym (then_assoc o first rest) ∙ (λ i. ordering_then o (ordering_then (e i) (f i)))

-- what comes after is not below
not_below : (a b : List ℕ) → below a b ≡ true → is_lt (slice_cmp nat_cmp b a) ≡ false
not_below a b h = go (slice_cmp nat_cmp a b) refl (below_is a b ∙ h)
  where
    go : (o : Ordering) → slice_cmp nat_cmp a b ≡ o → is_lt (slice_cmp nat_cmp a b) ≡ true → is_lt (slice_cmp nat_cmp b a) ≡ false
    go Less e l = ap is_lt (nat_list_cmp_total.antisymm b a ∙ ap ordering_reverse e)
    go Equal e l = absurd (false≢true (sym (ap is_lt e) ∙ l))
    go Greater e l = absurd (false≢true (sym (ap is_lt e) ∙ l))

module _ (t index k : List ℕ) (n : ℕ) (h : n ≤ length index) (o : Ascends t index n) where
  inside : length (take n index) ≡ n
  inside = length-take-le n index h

  same_place : (j : ℕ) (d : ℕ) → j < n → get_or (take n index) j d ≡ get_or index j 0
  same_place j d l = get_or-take n index j d l ∙ get_or_default index j d 0 (omega arith)

  -- an index in order rises along its keys
  rises : IsSortedBy (λ a b. is_lt (slice_cmp nat_cmp (key_at t a) (key_at t b))) (take n index)
  rises i d l u =
      let a = same_place i d (omega (arith, inside)) in
      let b = same_place (i + 1) d (omega (arith, inside)) in
      (λ j. is_lt (slice_cmp nat_cmp (key_at t (b j)) (key_at t (a j)))) ∙ not_below (key_in t index i) (key_in t index (i + 1)) (o i (i + 1) (omega arith, omega (arith, inside)))

  -- a binary search finds the key, or the place for it
  pub searched : (r : Result ℕ ℕ) → IsSearchInRange r (length (take n index)) → IsBinarySearchResult (λ p. slice_cmp nat_cmp (key_at t p) k) (take n index) r → Sought t index n k r
  searched (Ok i) b e =
      let l : i < n = omega (arith, inside) in
      (l, ap (key_at t) (sym (same_place i 0 l)) ∙ same_from_equal (key_at t (get_or (take n index) i 0)) k (e 0))
  searched (Err i) b e =
      let (before, after) = e (searchable_from_sorted nat_list_cmp_total (key_at t) (take n index) k rises) in
      let l : i ≤ n = omega (arith, inside) in (
        l,
        λ j u. ap (λ p. below (key_at t p) k) (sym (same_place j 0 (omega arith))) ∙ below_from_less (key_at t (get_or (take n index) j 0)) k (before j 0 (omega arith) u),
        λ j u v. ap (λ p. below k (key_at t p)) (sym (same_place j 0 v)) ∙ above_from_greater (key_at t (get_or (take n index) j 0)) k (after j 0 u (omega (arith, inside))),
      )

-- texts that begin alike
below_after : (p a b : List ℕ) → below (p ++ a) (p ++ b) ≡ below a b
below_after [] a b = refl
below_after (x ∷ p) a b = let e : eqb x x ≡ true = eq-eqb x x refl in rw e (below_after p a b)

module _ (a b : List ℕ) (i : ℕ) (e : take i a ≡ take i b) where
  alike : below (drop i a) (drop i b) ≡ true → below a b ≡ true
  alike h =
      let u = sym (take-append-drop i a) in
      let v = sym (take-append-drop i b) in
      (λ j. below (u j) (v j))
      ∙ ap (λ p. below (p ++ drop i a) (take i b ++ drop i b)) e
      ∙ below_after (take i b) (drop i a) (drop i b) ∙ h

  pub differs : i < length a → i < length b → get_or a i 0 < get_or b i 0 → below a b ≡ true
  differs h k l =
      let f : eqb (get_or a i 0) (get_or b i 0) ≡ false = ne_eqb _ _ (λ w. omega arith) in
      let g : ltb (get_or a i 0) (get_or b i 0) ≡ true = lt-ltb _ _ l in
      alike (rw (drop_more a i 0 h, drop_more b i 0 k, f, g))

  pub ends_first : length a ≤ i → i < length b → below a b ≡ true
  ends_first h k = alike (rw (drop_all i a h, drop_more b i 0 k))

  pub both_end : length a ≤ i → length b ≤ i → a ≡ b
  both_end h k = sym (take_all i a h) ∙ e ∙ take_all i b k

-- in an index in order, what comes before or after a key with one line does so with all on that side
module _ (t index k : List ℕ) (n m : ℕ) (o : Ascends t index n) (h : m < n) where
  pub all_before : below (key_in t index m) k ≡ true → (j : ℕ) → j < m + 1 → below (key_in t index j) k ≡ true
  all_before e j l =
      ⊎_elim
      (λ x. below_trans (key_in t index j) (key_in t index m) k (o j m (x, h)) e)
      (λ x. let q : m ≡ j = omega arith in subst (λ i. below (key_in t index i) k ≡ true) q e)
      (cases_lt j m)

  pub all_after : below k (key_in t index m) ≡ true → (j : ℕ) → m ≤ j → j < n → below k (key_in t index j) ≡ true
  all_after e j l u =
      ⊎_elim
      (λ x. below_trans k (key_in t index m) (key_in t index j) e (o m j (x, u)))
      (λ x. let q : m ≡ j = omega arith in subst (λ i. below k (key_in t index i) ≡ true) q e)
      (cases_lt m j)
