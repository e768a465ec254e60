-- The parts of a document in a text: names, end tags, what is inside an element, and what stands before the root.
use Rattle.std.proofs.Common.{◌≡◌, ℕ, zero, suc, ◌+◌, ◌-◌, ◌<◌, ◌≤◌, false, cond, eqb, ◌⊎◌, List, [], ◌∷◌, ◌++◌, length, get_or, take, drop, Some, None, sym, refl, ap, ◌∙◌, subst, ⊎_elim, arith, length-drop, get_or-drop}
use Rattle.std.proofs.lemmas.List.{take_more}
use Rattle.std.proofs.lemmas.Bool.{eq-eqb, ne_eqb, lt-ltb, le-ltb, cond-true, cond-false}
use Rattle.rules.specs.Bytes.{blank, name_byte}
use Rattle.rules.specs.Markup.{declaration}
use Rattle.markup.specs.declared.tag.State.{State}
use Rattle.markup.specs.declared.tag.State.TheVariants as st
use Rattle.markup.specs.Tags.{Move, stuck, next, Stays}
use Rattle.markup.specs.Machine.{Place, Stack, fresh, angled, declared, before, start, name, tag, inside, angle, ending, closed, land, step}
use Rattle.markup.specs.Scans.{cut}
use Rattle.markup.specs.Reads.{Like, Stops, Awaits}
use Rattle.markup.proofs.Scanning.{Skips, Shares}
use Rattle.markup.proofs.Steps.{at_like, like_as, goes_on, stuck_at, halts, past_all, Spells, misspelled, spelled}

module _ {d : List ℕ} {i j : ℕ} (s : Stack) (h : Skips name_byte d i j) (b : Like d i (start s)) where
  -- one byte more of what stands from i on
  more : (n : ℕ) → i + n < length d → take n (drop i d) ++ get_or d (i + n) 0 ∷ [] ≡ take (n + 1) (drop i d)
  more n lt = sym (take_more (drop i d) n 0 (omega (arith, length-drop i d)) ∙ ap (λ y. take n (drop i d) ++ y ∷ []) (get_or-drop i d n 0))

  -- n + 1 bytes of the name are read
  named : (n : ℕ) → i + suc n ≤ j → Like d (i + suc n) (name (take (suc n) (drop i d)) s)
  named zero le =
      subst (λ x. Like d (i + 1) (name x s)) (ap (λ k. get_or d k 0 ∷ []) (omega arith) ∙ more 0 (omega (arith, h.within)))
      (goes_on _ (i + 1) refl b (omega (arith, h.within)) (cond-true _ _ _ (h.each i (omega arith) (omega arith))))
  named (suc n) le =
      subst (λ k. Like d (i + k) (name (take k (drop i d)) s)) (omega arith)
      (subst (λ x. Like d (i + (suc n + 1)) (name x s)) (more (suc n) (omega (arith, h.within)))
      (goes_on _ (i + (suc n + 1)) (omega arith) (named n (omega arith)) (omega (arith, h.within)) (cond-true _ _ _ (h.each (i + suc n) (omega arith) (omega arith)))))

  -- no name begins there
  pub nameless : j ≡ i → Stops d i
  nameless e = halts b refl (λ lt. cond-false _ _ _ (subst (λ n. name_byte (get_or d n 0) ≡ false) e (h.stops (omega arith))))

  -- after its name a start tag goes on as after a part
  pub past_name : i < j → Like d j (tag st.Part (cut d i j) s)
  past_name lt =
      let whole : Like d j (name (cut d i j) s) = subst (λ k. Like d k (name (cut d i j) s)) (omega arith) (subst (λ k. Like d (i + k) (name (take k (drop i d)) s)) (omega arith) (named (j - i - 1) (omega arith))) in
      like_as _ whole (λ more. cond-false _ _ _ (h.stops more)) refl

module _ {d : List ℕ} {i : ℕ} {t : State} {x : List ℕ} {s : Stack} (k : Like d i (tag t x s)) (lt : i < length d) where
  -- the byte at i moves the start tag on to q
  pub moves : {m : Move} (q : Place) (j : ℕ) → j ≡ i + 1 → next t (get_or d i 0) ≡ m → land m x s ≡ Some q → Like d j q
  moves q j one e to-q = goes_on q j one k lt (ap (λ m. land m x s) e ∙ to-q)

  -- no start tag goes on so
  pub unmoved : next t (get_or d i 0) ≡ stuck → Stops d i
  unmoved e = stuck_at k lt (ap (λ m. land m x s) e)

-- bytes that leave the start tag in its state
pub stays : {d : List ℕ} {i j : ℕ} {t : State} {x : List ℕ} {s : Stack} → Stays t d i j → Like d i (tag t x s) → Like d j (tag t x s)
stays {x = x} {s = s} h = past_all _ h.from h.within (λ k ge lt. ap (λ m. land m x s) (h.each k ge lt))

spells_ending : (s : Stack) → Spells (λ m. ending m s)
spells_ending s = record { steps = λ c m b. refl; unfinished = λ c m. refl }

pub awaits_ending : (s : Stack) → Awaits (ending [] s) 62 (closed s)
awaits_ending s = record { steps = λ b. refl; unfinished = refl }

module _ {d : List ℕ} {i k : ℕ} {n : List ℕ} (s : Stack) (h : Shares d i n k) (e : Like d i (ending n s)) where
  from_start : Like d (i + 0) (ending (drop 0 n) s)
  from_start = subst (λ j. Like d j (ending n s)) (omega arith) e

  -- the name stands there only in part
  pub misnamed : k < length n → Stops d (i + k)
  misnamed = misspelled (spells_ending s) h 0 (omega arith) from_start

  -- the whole name stands there
  pub end_named : length n ≤ k → Like d (i + k) (ending [] s)
  end_named = spelled (spells_ending s) h 0 (omega arith) from_start

pub awaits_inside : (n : List ℕ) (s : Stack) → Awaits (inside n s) 60 (angle n s)
awaits_inside n s = record { steps = λ b. refl; unfinished = refl }

module _ {d : List ℕ} {i : ℕ} (n : List ℕ) (s : Stack) (a : Like d i (angle n s)) where
  -- an end tag begins
  pub to_ending : (j : ℕ) → j ≡ i + 1 → i < length d → get_or d i 0 ≡ 47 → Like d j (ending n s)
  to_ending j next lt e = goes_on _ j next a lt (cond-true _ _ _ (eq-eqb _ _ e))

  -- no element may stand so deep
  pub too_deep : 5 ≤ length s → (i < length d → get_or d i 0 ≡ 47 → ⊥) → Stops d i
  too_deep deep no_slash = halts a refl (λ lt. cond-false _ _ _ (ne_eqb _ _ (no_slash lt)) ∙ cond-false _ _ _ (le-ltb (length s) 5 deep))

  -- a child begins
  pub to_child : length s < 5 → (i < length d → get_or d i 0 ≡ 47 → ⊥) → Like d i (start (n ∷ s))
  to_child room no_slash = like_as _ a (λ lt. cond-false _ _ _ (ne_eqb _ _ (no_slash lt)) ∙ cond-true _ _ _ (lt-ltb (length s) 5 room)) refl

spells_declaration : Spells declared
spells_declaration = record { steps = λ c m b. refl; unfinished = λ c m. refl }

pub awaits_before : Awaits before 60 (start [])
awaits_before = record { steps = λ b. refl; unfinished = refl }

at_start : {d : List ℕ} → Like d 0 fresh
at_start = at_like (record { within = omega arith; runs = refl })

module _ {d : List ℕ} {i k : ℕ} (zero' : i ≡ 0) (h : Shares d i declaration k) where
  -- the byte at m is the declaration's
  head_shared : (m : ℕ) → m < k → get_or d m 0 ≡ get_or declaration m 0
  head_shared m lt = ap (λ n. get_or d n 0) (omega arith) ∙ h.same m lt

  -- the first byte that is not
  head_differs : (n : ℕ) → k ≡ n → n < length d → n < length declaration → eqb (get_or d n 0) (get_or declaration n 0) ≡ false
  head_differs n e lt short =
      ne_eqb _ _ (λ same. h.differ (omega arith) (omega arith) (ap (λ m. get_or d m 0) (omega arith) ∙ same ∙ ap (λ m. get_or declaration m 0) (sym e)))

  -- after its '<'
  after_one : 1 ≤ k → Like d 1 angled
  after_one le = goes_on angled 1 refl at_start (omega (arith, h.within)) (ap (step fresh) (head_shared 0 (omega arith)))

  -- after its '<?'
  declaring_from : 2 ≤ k → Like d (i + 2) (declared (drop 2 declaration))
  declaring_from le =
      goes_on (declared (drop 2 declaration)) (i + 2) (omega arith) (after_one (omega arith)) (omega (arith, h.within)) (ap (step angled) (head_shared 1 (omega arith)))

  -- the declaration stands there only in part
  pub cut_off : 2 ≤ k → k < length declaration → Stops d (i + k)
  cut_off le short = misspelled spells_declaration h 2 le (declaring_from le) short

  -- no declaration: the root begins at once
  pub root_begun : k ≡ 1 → Like d (i + k) (start [])
  root_begun e =
      subst (λ n. Like d n (start [])) (omega arith) (like_as (start []) (after_one (omega arith)) (λ lt. cond-false _ _ _ (head_differs 1 e lt (omega arith))) refl)

  -- no declaration, or a whole one
  pub before_root : (k ≡ 0) ⊎ (length declaration ≤ k) → Like d (i + k) before
  before_root =
      ⊎_elim
      (λ e. subst (λ n. Like d n before) (omega arith) (like_as before at_start (λ lt. alike _ (head_differs 0 e lt (omega arith))) refl))
      (λ all. spelled spells_declaration h 2 (omega arith) (declaring_from (omega arith)) all)
    where
      -- at the start of a text all bytes but '<' do as later before the root
      alike : (b : ℕ) → eqb b 60 ≡ false → step fresh b ≡ step before b
      alike b e = ap (λ v. cond (blank b) (Some before) (cond v (Some angled) None)) e ∙ sym (ap (λ v. cond (blank b) (Some before) (cond v (Some (start [])) None)) e)
