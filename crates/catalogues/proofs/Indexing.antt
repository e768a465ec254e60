-- An index of lines grows by one line, and answers questions.
use Rattle.std.proofs.Common.{◌≡◌, ℕ, suc, ◌+◌, ◌-◌, ◌<◌, ◌≤◌, true, ◌⊎◌, List, length, get_or, set, take, drop, Err, sym, refl, ap, ◌∙◌, subst, inl, inr, ⊎_elim, arith, length-append}
use Rattle.std.proofs.lemmas.Bool.{cases_lt, cases_order}
use Rattle.std.specs.List.{CopiedTo, SameBelow}
use Rattle.std.proofs.lemmas.List.{get_or-set_same, get_or-set_other, take_all}
use Rattle.rules.specs.Catalogues.{ended_lines}
use Rattle.catalogues.specs.Lines.{line_at, key_at, Within, InOrder}
use Rattle.catalogues.specs.Ordered.{below, key_in, Ascends, Lists, Covers, Indexed, Sought, Inserted}
use Rattle.catalogues.proofs.FirstFault.{header_length}
use Rattle.catalogues.proofs.Orders.{below_itself}
use Rattle.catalogues.proofs.Places.{line_there, within_next, count_next}
use Rattle.catalogues.proofs.FactLines.{two_bytes}

-- what the search in an index asks of its lines
pub readable : (t : List ℕ) (at : ℕ) (index : List ℕ) (n : ℕ) → InOrder t at → Lists t at index n → (i : ℕ) → i < n → (get_or index i 0 ≤ length t) × (2 ≤ length (line_at t (get_or index i 0)))
readable t at index n o l i h = let w = l i h in let k = o.inside in (omega (arith, w.2), two_bytes _ (o.facts _ w))

-- a key that is not found is the key of no line
pub absent : (t : List ℕ) (at : ℕ) (index k : List ℕ) (n i : ℕ) → Covers t at index n → Sought t index n k (Err i) → (p : ℕ) → Within t at p → key_at t p ≡ k → ⊥
absent t at index k n i c s p w e =
    c p w (λ j h q.
    let f : key_in t index j ≡ k = ap (key_at t) q ∙ e in
    ⊎_elim (λ x. below_itself k (sym (ap (λ y. below y k) f) ∙ s.1 j x)) (λ x. below_itself k (sym (ap (below k) f) ∙ s.2 j x h)) (cases_lt j i))

-- an index has no more lines than its text may have
pub few_lines : (t index : List ℕ) (n : ℕ) → InOrder t (length t) → Indexed t (length t) index n → n ≤ 4096
few_lines t index n o x =
    let e : length (ended_lines (take (length t) t)) ≡ length (ended_lines t) = ap (λ y. length (ended_lines y)) (take_all (length t) t (omega arith)) in
    let f = o.few in
    let g = x.counted in
    omega arith

-- an index of no line
pub empty_index : (t index : List ℕ) → InOrder t 25 → Indexed t 25 index 0
empty_index t index o =
    let n = header_length t o.headed in
    let h = o.inside in
    let c : length (ended_lines (take (0 + length (line_at t 0) + 1) t)) ≡ 1 = count_next t 0 refl (omega arith) in
    let e : 0 + length (line_at t 0) + 1 ≡ 25 = omega arith in
    record {
      counted = sym (ap (λ x. length (ended_lines (take x t))) (sym e) ∙ c);
      lists = λ i x. absurd (omega arith);
      covers = λ p w _. omega (arith, w.1, w.2);
      ascends = λ i j (x, y). absurd (omega arith);
    }

module _ (t : List ℕ) (at : ℕ) (o : InOrder t at) (h : at + length (line_at t at) < length t) (was : List ℕ) (n : ℕ) (x : Indexed t at was n) where
  pub room_left : n + 1 < 4096
  room_left =
      let e : length (ended_lines t) ≡ length (ended_lines (take at t)) + suc (length (ended_lines (drop (suc (length (line_at t at))) (drop at t)))) = ap length (line_there t at o.begins h) ∙ length-append (ended_lines (take at t)) _ in
      let f = o.few in
      let g = x.counted in
      omega arith

  module _ (i : ℕ) (is : List ℕ) (s : Sought t was n (key_at t at) (Err i)) (y : Inserted n i at was is) where
    -- a place of the longer index is the new one, or one of the shorter index
    Old : ℕ → Type 0
    Old k = (j : ℕ) × (j < n) × (get_or is k 0 ≡ get_or was j 0) × (((j < i) × (k ≡ j)) ⊎ ((i ≤ j) × (k ≡ j + 1)))

    old : (k : ℕ) → k < n + 1 → (k ≡ i) ⊎ Old k
    unfolding Old
    old k l =
        ⊎_elim inl (⊎_elim (λ u. inr (k, omega (arith, s.0), y.before k u, inl (u, refl)))
        (λ u.
        let e : k - 1 + 1 ≡ k = omega arith in
        inr (k - 1, omega arith, ap (λ z. get_or is z 0) (sym e) ∙ y.after (k - 1) (omega arith) (omega arith), inr (omega arith, sym e))))
        (cases_order k i)

    -- a place of the shorter index in the longer one
    moved : (j : ℕ) → j < n → (k : ℕ) × (k < n + 1) × (get_or is k 0 ≡ get_or was j 0)
    moved j l = ⊎_elim (λ u. (j, omega arith, y.before j u)) (λ u. (j + 1, omega arith, y.after j u l)) (cases_lt j i)

    grown_lists : Lists t (at + length (line_at t at) + 1) is (n + 1)
    unfolding Old
    grown_lists k l =
        ⊎_elim
        (λ u. subst (Within t (at + length (line_at t at) + 1)) (sym (ap (λ z. get_or is z 0) u ∙ y.here)) (o.begins, o.past_header, omega arith))
        (λ (j, m, e, _). let w = x.lists j m in subst (Within t (at + length (line_at t at) + 1)) (sym e) (w.0, w.1, omega (arith, w.2)))
        (old k l)

    grown_covers : Covers t (at + length (line_at t at) + 1) is (n + 1)
    grown_covers p w none =
        ⊎_elim
        (λ v. x.covers p v (λ j l e. let (k, m, q) = moved j l in none k m (q ∙ e)))
        (λ v. none i (omega (arith, s.0)) (y.here ∙ sym v))
        (within_next t at o.begins p w)

    grown_ascends : Ascends t is (n + 1)
    unfolding Old
    grown_ascends a b (l, m) = ⊎_elim new_a (λ u. ⊎_elim (new_b u) (both_old u) (old b m)) (old a (omega arith))
      where
        new_a : a ≡ i → below (key_in t is a) (key_in t is b) ≡ true
        new_a u =
            ⊎_elim (λ v. absurd (omega arith))
            (λ (j, q, e, r).
            let f : key_in t is a ≡ key_at t at = ap (key_at t) (ap (λ z. get_or is z 0) u ∙ y.here) in
            let g : key_in t is b ≡ key_in t was j = ap (key_at t) e in
            let z : i ≤ j = ⊎_elim (λ (d, c). absurd (omega arith)) (λ (d, c). d) r in
            (λ k. below (f k) (g k)) ∙ s.2 j z q)
            (old b m)

        new_b : Old a → b ≡ i → below (key_in t is a) (key_in t is b) ≡ true
        new_b (j, q, e, r) v =
            let f : key_in t is b ≡ key_at t at = ap (key_at t) (ap (λ z. get_or is z 0) v ∙ y.here) in
            let g : key_in t is a ≡ key_in t was j = ap (key_at t) e in
            let z : j < i = ⊎_elim (λ (d, c). d) (λ (d, c). absurd (omega arith)) r in
            (λ k. below (g k) (f k)) ∙ s.1 j z

        both_old : Old a → Old b → below (key_in t is a) (key_in t is b) ≡ true
        both_old (j, q, e, r) (k, w, f, v) =
            let g : key_in t is a ≡ key_in t was j = ap (key_at t) e in
            let d : key_in t is b ≡ key_in t was k = ap (key_at t) f in
            let z : j < k = ⊎_elim (λ (c₁, c₂). ⊎_elim (λ (d₁, d₂). omega arith) (λ (d₁, d₂). omega arith) v) (λ (c₁, c₂). ⊎_elim (λ (d₁, d₂). absurd (omega arith)) (λ (d₁, d₂). omega arith) v) r in
            (λ c. below (g c) (d c)) ∙ x.ascends j k (z, w)

    pub grown : Indexed t (at + length (line_at t at) + 1) is (n + 1)
    grown =
        let c = count_next t at o.begins h in
        let d = x.counted in
        record { counted = omega arith; lists = grown_lists; covers = grown_covers; ascends = grown_ascends }

-- a value that is put before the last of the first n places moves these up by one
pub inserted : (was moved : List ℕ) (n i v : ℕ) → i ≤ n → n < length was → length moved ≡ length was → CopiedTo was moved i (i + 1) (n - i) → SameBelow was moved (i + 1) → Inserted n i v was (set moved i v)
inserted was moved n i v h k l copied same = record {
  before = λ j u. get_or-set_other moved i j v 0 (λ e. omega arith) ∙ same j 0 (omega arith);
  here = get_or-set_same moved i v 0 (omega arith);
  after = λ j u w. get_or-set_other moved i (j + 1) v 0 (λ e. omega arith) ∙ copied (j + 1) 0 (omega arith) (omega arith) ∙ (let e : i + (j + 1 - (i + 1)) ≡ j = omega arith in ap (λ m. get_or was m 0) e);
}
