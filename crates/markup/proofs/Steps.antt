-- The reader's steps in a text.
use Rattle.std.proofs.Common.{◌≡◌, ℕ, zero, suc, ◌+◌, ◌-◌, ◌<◌, ◌≤◌, true, false, cond, eqb, List, [], ◌∷◌, length, get_or, drop, Some, None, sym, refl, ap, ◌∙◌, subst, inl, inr, ⊎_elim, add-zero, arith, drop-cons}
use Rattle.std.proofs.lemmas.List.{take_more, drop_all}
use Rattle.std.proofs.lemmas.Bool.{cases_lt, cond-true, cond-false, eq-eqb, ne_eqb}
use Rattle.rules.specs.Bytes.{blank}
use Rattle.rules.specs.declared.grounds.Fault.TheVariants.{NotWellMarked}
use Rattle.markup.specs.Machine.{Place, fresh, step, finished}
use Rattle.markup.specs.Reads.{At, Like, Stops, Refused, Awaits}
use Rattle.markup.proofs.Scanning.{Skips, Shares}
use Rattle.markup.proofs.Leads.{Leads, leads, here, on}

module _ {d : List ℕ} {i : ℕ} {p : Place} where
  pub at_like : At d i p → Like d i p
  at_like a = record { place = p; at = a; goes = λ _. refl; ends = refl }

  -- q goes on as p does
  pub like_as : (q : Place) → Like d i p → (i < length d → step p (get_or d i 0) ≡ step q (get_or d i 0)) → finished p ≡ finished q → Like d i q
  like_as q k same end = record { place = k.place; at = k.at; goes = λ lt. k.goes lt ∙ same lt; ends = k.ends ∙ end }

  -- one byte leads on to q
  pub goes_on : (q : Place) (j : ℕ) → j ≡ i + 1 → Like d i p → i < length d → step p (get_or d i 0) ≡ Some q → Like d j q
  goes_on q j next k lt e =
      subst (λ n. Like d n q) (sym next) (at_like' (record {
        within = omega arith;
        runs = (subst (λ l. Leads fresh l q) (sym (take_more d i 0 lt)) (leads {q = k.place} (record { runs = k.at.runs }) (on q (k.goes lt ∙ e) here))).runs;
      }))
    where
      at_like' : At d (i + 1) q → Like d (i + 1) q
      at_like' a = record { place = q; at = a; goes = λ _. refl; ends = refl }

  -- no byte like the one at i goes on
  pub stuck_at : Like d i p → i < length d → step p (get_or d i 0) ≡ None → Stops d i
  stuck_at k lt none = record { place = k.place; at = k.at; stuck = inl (lt, k.goes lt ∙ none) }

  -- nothing goes on at i, and the text may not end there
  pub halts : Like d i p → finished p ≡ false → (i < length d → step p (get_or d i 0) ≡ None) → Stops d i
  halts k unfinished none =
      ⊎_elim
      (λ lt. stuck_at k lt (none lt))
      (λ ge. record { place = k.place; at = k.at; stuck = inr (omega (arith, k.at.within), k.ends ∙ unfinished) })
      (cases_lt i (length d))

-- the fault that tells where the reader stops
pub refused : {d : List ℕ} {i n : ℕ} → n ≡ i → Stops d i → Refused d (NotWellMarked n)
refused {i = i} e k = record { place = i; is = ap NotWellMarked e; stops = k }

-- bytes that change nothing at p
pub past_all : {d : List ℕ} {i j : ℕ} (p : Place) → i ≤ j → j ≤ length d → ((k : ℕ) → i ≤ k → k < j → step p (get_or d k 0) ≡ Some p) → Like d i p → Like d j p
past_all {d} {i} {j} p from within each k = subst (λ n. Like d n p) (omega arith) (go (j - i) (omega arith))
  where
    go : (n : ℕ) → i + n ≤ j → Like d (i + n) p
    go zero le = subst (λ n. Like d n p) (sym (add-zero i)) k
    go (suc n) le = goes_on p (i + suc n) (omega arith) (go n (omega arith)) (omega arith) (each (i + n) (omega arith) (omega arith))

-- blanks change nothing at p
pub past_blanks : {d : List ℕ} {i j : ℕ} (p : Place) → ((b : ℕ) → blank b ≡ true → step p b ≡ Some p) → Skips blank d i j → Like d i p → Like d j p
past_blanks p loops h = past_all p h.from h.within (λ k ge lt. loops _ (h.each k ge lt))

module _ {d : List ℕ} {i j : ℕ} {p q : Place} {c : ℕ} (w : Awaits p c q) (h : Skips blank d i j) (k : Like d i p) where
  waits : Like d j p
  waits = past_blanks p (λ b e. w.steps b ∙ cond-true _ _ _ e) h k

  -- the byte that p awaits stands after the blanks
  pub awaited : (n : ℕ) → n ≡ j + 1 → j < length d → get_or d j 0 ≡ c → Like d n q
  awaited n next lt e =
      goes_on q n next waits lt (w.steps _ ∙ cond-false _ _ _ (h.stops lt) ∙ cond-true _ _ _ (eq-eqb _ _ e))

  -- it does not
  pub unawaited : (j < length d → get_or d j 0 ≡ c → ⊥) → Stops d j
  unawaited no-c = halts waits w.unfinished (λ lt. w.steps _ ∙ cond-false _ _ _ (h.stops lt) ∙ cond-false _ _ _ (ne_eqb _ _ (no-c lt)))

-- P stands where a text is to be read byte by byte, of which the argument is left
pub record Spells (P : List ℕ → Place) : Type 0 where
  pub steps : (c : ℕ) (m : List ℕ) (b : ℕ) → step (P (c ∷ m)) b ≡ cond (eqb b c) (Some (P m)) None
  pub unfinished : (c : ℕ) (m : List ℕ) → finished (P (c ∷ m)) ≡ false

module _ {P : List ℕ → Place} (spells : Spells P) {d : List ℕ} {i : ℕ} {u : List ℕ} {k : ℕ} (h : Shares d i u k) (m : ℕ) (le : m ≤ k) (from : Like d (i + m) (P (drop m u))) where
  so_far : (n : ℕ) → m + n ≤ k → Like d (i + (m + n)) (P (drop (m + n) u))
  so_far zero fits = subst (λ j. Like d (i + j) (P (drop j u))) (sym (add-zero m)) from
  so_far (suc n) fits =
      let now : Like d (i + (m + n)) (P (get_or u (m + n) 0 ∷ drop (suc (m + n)) u)) = subst (λ l. Like d (i + (m + n)) (P l)) (drop-cons u (m + n) 0 (omega (arith, h.short))) (so_far n (omega arith)) in
      subst (λ j. Like d (i + j) (P (drop j u))) (omega arith)
      (goes_on (P (drop (suc (m + n)) u)) (i + suc (m + n)) (omega arith) now (omega (arith, h.within)) (spells.steps _ _ _ ∙ cond-true _ _ _ (eq-eqb _ _ (h.same (m + n) (omega arith)))))

  shared_all : Like d (i + k) (P (drop k u))
  shared_all = subst (λ j. Like d (i + j) (P (drop j u))) (omega arith) (so_far (k - m) (omega arith))

  -- the text stands there only in part
  pub misspelled : k < length u → Stops d (i + k)
  misspelled lt =
      let now : Like d (i + k) (P (get_or u k 0 ∷ drop (suc k) u)) = subst (λ l. Like d (i + k) (P l)) (drop-cons u k 0 lt) shared_all in
      halts now (spells.unfinished _ _) (λ more. spells.steps _ _ _ ∙ cond-false _ _ _ (ne_eqb _ _ (h.differ more lt)))

  -- the whole text stands there
  pub spelled : length u ≤ k → Like d (i + k) (P [])
  spelled ge = subst (λ l. Like d (i + k) (P l)) (drop_all k u ge) shared_all
