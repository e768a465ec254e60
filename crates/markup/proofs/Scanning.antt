-- What the scans over the bytes of a text find, by the places of its bytes.
use Rattle.std.proofs.Common.{◌≡◌, ℕ, zero, suc, ◌+◌, ◌-◌, ◌<◌, ◌≤◌, Bool, true, false, cond, eqb, List, [], ◌∷◌, length, get_or, drop, ◌≢◌, zip, sym, refl, ap, ◌∙◌, subst, ⊎_elim, arith, length-drop, get_or-drop}
use Rattle.std.specs.List.{prefix_len, common_prefix_len}
use Rattle.std.proofs.lemmas.Bool.{eqb-true, both_ways, eq-eqb, cases_Bool, cases_lt}
use Rattle.std.proofs.lemmas.List.Sums.{prefix_len-le-length, prefix_len_passes, prefix_len_stops, common_prefix_len-le}

-- from i on the bytes of d pass a test up to j, and no further
pub record Skips (test : ℕ → Bool) (d : List ℕ) (i j : ℕ) : Type 0 where
  pub from : i ≤ j
  pub within : j ≤ length d
  pub each : (k : ℕ) → i ≤ k → k < j → test (get_or d k 0) ≡ true
  pub stops : j < length d → test (get_or d j 0) ≡ false

-- from i on the first k bytes of d are those of u, and the next is not
pub record Shares (d : List ℕ) (i : ℕ) (u : List ℕ) (k : ℕ) : Type 0 where
  pub within : i + k ≤ length d
  pub short : k ≤ length u
  pub same : (m : ℕ) → m < k → get_or d (i + m) 0 ≡ get_or u m 0
  pub differ : i + k < length d → k < length u → get_or d (i + k) 0 ≢ get_or u k 0

-- the byte at j passes the test too
pub each_more : (test : ℕ → Bool) (d : List ℕ) (i j : ℕ) → ((k : ℕ) → i ≤ k → k < j → test (get_or d k 0) ≡ true) → test (get_or d j 0) ≡ true → (k : ℕ) → i ≤ k → k < j + 1 → test (get_or d k 0) ≡ true
each_more test d i j each here k le lt =
    ⊎_elim (λ less. each k le less) (λ more. subst (λ n. test (get_or d n 0) ≡ true) (omega arith) here) (cases_lt k j)

pub skips : {test : ℕ → Bool} {d : List ℕ} {i j : ℕ} → i ≤ length d → j ≡ i + prefix_len test (drop i d) → Skips test d i j
skips {test} {d} {i} {j} le e =
    let rest = length-drop i d in
    let short = prefix_len-le-length test (drop i d) in
    record {
      from = omega arith;
      within = omega arith;
      each = λ k ge lt. subst (λ b. test b ≡ true) (get_or-drop i d (k - i) 0 ∙ ap (λ m. get_or d m 0) (omega arith)) (prefix_len_passes test (drop i d) (k - i) 0 (omega arith));
      stops = λ lt. subst (λ b. test b ≡ false) (get_or-drop i d (prefix_len test (drop i d)) 0 ∙ ap (λ m. get_or d m 0) (sym e)) (prefix_len_stops test (drop i d) 0 (omega arith));
    }

-- the first bytes that two texts share are the same
shared_same : (xs ys : List ℕ) (m : ℕ) → m < common_prefix_len eqb xs ys → get_or xs m 0 ≡ get_or ys m 0
shared_same [] ys m lt = absurd (omega arith)
shared_same (x ∷ xs) [] m lt = absurd (omega arith)
shared_same (x ∷ xs) (y ∷ ys) zero lt = ⊎_elim (λ e. eqb-true x y e) (λ n. absurd (omega (arith, subst (λ b. 0 < cond b (1 + common_prefix_len eqb xs ys) 0) n lt))) (cases_Bool (eqb x y))
shared_same (x ∷ xs) (y ∷ ys) (suc m) lt =
    ⊎_elim
    (λ e. shared_same xs ys m (omega (arith, subst (λ b. suc m < cond b (1 + common_prefix_len eqb xs ys) 0) e lt)))
    (λ n. absurd (omega (arith, subst (λ b. suc m < cond b (1 + common_prefix_len eqb xs ys) 0) n lt)))
    (cases_Bool (eqb x y))

-- the next are not
shared_differ : (xs ys : List ℕ) (n : ℕ) → n ≡ common_prefix_len eqb xs ys → n < length xs → n < length ys → get_or xs n 0 ≡ get_or ys n 0 → ⊥
shared_differ [] ys n e lx ly same = omega arith
shared_differ (x ∷ xs) [] n e lx ly same = omega arith
shared_differ (x ∷ xs) (y ∷ ys) n e lx ly same =
    ⊎_elim
    (λ t.
    let k = common_prefix_len eqb xs ys in
    let m : n ≡ suc k = e ∙ ap (λ b. cond b (1 + k) 0) t ∙ omega arith in
    shared_differ xs ys k refl (omega arith) (omega arith) (subst (λ m. get_or (x ∷ xs) m 0 ≡ get_or (y ∷ ys) m 0) m same))
    (λ f.
    let m : n ≡ 0 = e ∙ ap (λ b. cond b (1 + common_prefix_len eqb xs ys) 0) f in
    both_ways (eqb x y) f (eq-eqb x y (subst (λ m. get_or (x ∷ xs) m 0 ≡ get_or (y ∷ ys) m 0) m same)))
    (cases_Bool (eqb x y))

pub shares : {d u : List ℕ} {i k : ℕ} → i ≤ length d → k ≡ common_prefix_len eqb (drop i d) u → Shares d i u k
shares {d} {u} {i} {k} le e =
    let rest = length-drop i d in
    let short = common_prefix_len-le eqb (drop i d) u in
    record {
      within = omega arith;
      short = omega arith;
      same = λ m lt. sym (get_or-drop i d m 0) ∙ shared_same (drop i d) u m (omega arith);
      differ = λ lt less same. shared_differ (drop i d) u k e (omega arith) less (get_or-drop i d k 0 ∙ same);
    }

-- how many bytes two texts share, as a test of pairs
pub common_prefix_len-zip : (e : ℕ → ℕ → Bool) (xs ys : List ℕ) → common_prefix_len e xs ys ≡ prefix_len (λ p. e p.0 p.1) (zip xs ys)
common_prefix_len-zip e [] ys = refl
common_prefix_len-zip e (x ∷ xs) [] = refl
common_prefix_len-zip e (x ∷ xs) (y ∷ ys) = ap (λ n. cond (e x y) (1 + n) 0) (common_prefix_len-zip e xs ys)
