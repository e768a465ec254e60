-- The first fault of a catalogue text.
use Rattle.std.proofs.Common.{◌≡◌, ℕ, ◌+◌, ◌<◌, ◌≤◌, Bool, true, false, ltb, suc, List, [], ◌∷◌, ◌++◌, length, take, drop, sym, refl, ap, ◌∙◌, subst, ⊎_elim, append_assoc, append-nil, arith, length-append}
use Rattle.std.proofs.lemmas.Bool.{and_parts, and_from, cases_Bool, cases_lt, both_ways, ltb-true, lt-ltb, false≢true}
use Rattle.std.proofs.lemmas.List.{length-drop, take_all, nil_from_length}
use Rattle.std.proofs.lemmas.Bool.Decides.{nat_tests}
use Rattle.rules.specs.Bytes.{same}
use Rattle.rules.specs.Faults.{rank, not_after, FirstOf}
use Rattle.rules.specs.Catalogues.{Fact, fact_ok, fact_text, header, ended_lines, unended, start_after, SamePair, CatalogueFinds, too_long, too_many, no_header, bad_header, no_fact, repeats, not_ended}
use Rattle.rules.specs.declared.grounds.Fault.{Fault}
use Rattle.rules.specs.declared.grounds.Fault.TheVariants.{BadCatalogue, BadCatalogueLine}
use Rattle.theory.proofs.Bytes.{same_is}
use Rattle.theory.proofs.Bytes.{same_refl}
use Rattle.theory.proofs.Lists.{nil_cons}
use Rattle.catalogues.specs.Lines.{before_feed, line_at, key_of, key_at, asked, is_named, fact_line, header_there, Begins, Within, InOrder}
use Rattle.catalogues.proofs.FactLines.{asked_is, fact_tested, fact_key, fact_told}
use Rattle.catalogues.proofs.Feeds.{ended_step, ended_none, size_of, start-++, feed_split, feed_within}
use Rattle.catalogues.proofs.Places.{lines_split, start_is, line_there, begins_next, within_next, line_before, placed}

-- ground 16 counts before all others
catalogue_first : (t : List ℕ) (g : Fault) → CatalogueFinds t g → not_after (rank BadCatalogue) (rank g) ≡ true
catalogue_first t g (too_long x) = refl
catalogue_first t g (too_many x) = refl
catalogue_first t g (no_header e) = refl
catalogue_first t g (bad_header l ls e n) = refl
catalogue_first t g (no_fact l before after e z n) = let p : ℕ = start_after before in grind (arith, nat_tests)
catalogue_first t g (repeats l k before after e m s) = let p : ℕ = start_after before in grind (arith, nat_tests)
catalogue_first t g (not_ended x) = let p : ℕ = start_after (ended_lines t) in grind (arith, nat_tests)

pub first_long : (t : List ℕ) → 65536 < length t → FirstOf (CatalogueFinds t) BadCatalogue
first_long t h = (too_long h, catalogue_first t)

pub first_many : (t : List ℕ) → 4096 < length (ended_lines t) → FirstOf (CatalogueFinds t) BadCatalogue
first_many t h = (too_many h, catalogue_first t)

pub first_header : (t : List ℕ) → header_there t ≡ false → FirstOf (CatalogueFinds t) BadCatalogue
first_header t h = (⊎_elim bad (λ k. no_header (ended_none [] t k)) (cases_lt (length (before_feed t)) (length t)), catalogue_first t)
  where
    bad : length (before_feed t) < length t → CatalogueFinds t BadCatalogue
    bad k =
        bad_header (before_feed t) _ (ended_step [] t k)
        (λ e. both_ways (header_there t) h (and_from _ _ (lt-ltb _ _ k) (ap (λ l. same l header) e ∙ same_refl header)))

-- the first line
header_is : (t : List ℕ) → header_there t ≡ true → (line_at t 0 ≡ header) × (24 < length t)
header_is t h =
    let (u, v) = and_parts (ltb (length (line_at t 0)) (length t)) _ h in
    let e : line_at t 0 ≡ header = same_is _ _ v in
    let n : length (line_at t 0) ≡ 24 = ap length e in
    let k = ltb-true _ _ u in
    (e, omega arith)

pub header_length : (t : List ℕ) → header_there t ≡ true → length (line_at t 0) ≡ 24
header_length t h = ap length (header_is t h).0

-- a text begins with the header and a line feed exactly when the test holds
pub header_started : (t : List ℕ) (r : Bool) → (r ≡ true → t ≡ (header ++ 10 ∷ []) ++ drop 25 t) × ((rest : List ℕ) → t ≡ (header ++ 10 ∷ []) ++ rest → r ≡ true) → r ≡ header_there t
header_started t true (f, g) = subst (λ x. true ≡ header_there x) (sym (f refl)) (sym (headed (drop 25 t)))
  where
    headed : (rest : List ℕ) → header_there ((header ++ 10 ∷ []) ++ rest) ≡ true
    headed rest = and_from _ _ (lt-ltb _ _ (omega (arith, length-append (header ++ 10 ∷ []) rest))) refl
header_started t false (f, g) = ⊎_elim (λ h. let (e, k) = header_is t h in absurd (false≢true (g _ (feed_split t (omega (arith, ap length e)) ∙ ap (λ l. l ++ 10 ∷ drop (suc (length (before_feed t))) t) e)))) (λ h. sym h) (cases_Bool (header_there t))

header_line : (t l : List ℕ) (ls : List (List ℕ)) → header_there t ≡ true → ended_lines t ≡ l ∷ ls → l ≡ header
header_line t l ls h e = let x = placed [] t l ls e in sym x.line ∙ (header_is t h).0

past_first : (t l : List ℕ) (before after : List (List ℕ)) → header_there t ≡ true → ended_lines t ≡ before ++ l ∷ after → 0 < length before → 25 ≤ start_after before
past_first t l [] after h e z = absurd (omega arith)
past_first t l (k ∷ before) after h e z = let n : length k ≡ 24 = ap length (header_line t k (before ++ l ∷ after) h e) in omega arith

header_none : (f : Fact) → fact_ok f ≡ true → header ≡ fact_text f → ⊥
unfolding is_named
header_none f h e = both_ways (fact_line header) refl (ap fact_line e ∙ fact_tested f h)

-- after the header
pub begun : (t : List ℕ) → length t ≤ 65536 → length (ended_lines t) ≤ 4096 → header_there t ≡ true → InOrder t 25
begun t a b h =
    let (e, k) = header_is t h in
    let n : length (before_feed t) ≡ 24 = ap length e in
    record {
      short = a;
      few = b;
      headed = h;
      past_header = omega arith;
      inside = omega arith;
      begins = subst (λ m. Begins t (0 + m + 1)) n (begins_next t 0 refl (omega arith));
      facts = λ p (_, l, g). absurd (omega arith);
      apart = λ p q (_, l, g) w z s. absurd (omega arith);
    }

-- faults of the line that begins at a place
start_there : (t : List ℕ) (p : ℕ) → Begins t p → p + length (line_at t p) < length t → start_after (ended_lines (take p t)) ≡ p
start_there t p b h = start_is t p b (omega arith)

no_fact_at : (t : List ℕ) (p : ℕ) → Begins t p → 25 ≤ p → p + length (line_at t p) < length t → fact_line (line_at t p) ≡ false → CatalogueFinds t (BadCatalogueLine p)
no_fact_at t p b k h n =
    subst (λ x. CatalogueFinds t (BadCatalogueLine x)) (start_there t p b h)
    (no_fact (line_at t p) (ended_lines (take p t)) _ (line_there t p b h) (some_before (ended_lines (take p t)) (start_there t p b h)) (λ f u e. both_ways _ n (ap fact_line e ∙ fact_tested f u)))
  where
    some_before : (ls : List (List ℕ)) → start_after ls ≡ p → 0 < length ls
    some_before [] e = absurd (omega arith)
    some_before (l ∷ ls) e = omega arith

repeats_at : (t : List ℕ) (p q : ℕ) → Begins t p → Begins t q → p < q → q + length (line_at t q) < length t → fact_line (line_at t p) ≡ true → fact_line (line_at t q) ≡ true → key_at t p ≡ key_at t q → CatalogueFinds t (BadCatalogueLine q)
repeats_at t p q b d k h f g e =
    let (x, u, v) = fact_told (line_at t p) f in
    let (y, r, s) = fact_told (line_at t q) g in
    let (i, j) = asked_is x.catalogue y.catalogue x.key y.key (sym (ap key_of v ∙ fact_key x) ∙ e ∙ ap key_of s ∙ fact_key y) in
    let m = (line_before t p q b d k (omega arith)).1 in
    subst (λ z. CatalogueFinds t (BadCatalogueLine z)) (start_there t q d h) (repeats (line_at t q) (line_at t p) (ended_lines (take q t)) _ (line_there t q d h) m (x, y, u, r, v, s, i, j))

-- where the text is in order, faults stand later
abbrev Later : List ℕ → ℕ → Fault → Type 0
Later t at g = (p : ℕ) × (g ≡ BadCatalogueLine p) × (at ≤ p) × (p < length t)

module _ (t : List ℕ) (at : ℕ) (o : InOrder t at) where
  later : (p : ℕ) → p < length t → (p < at → ⊥) → Later t at (BadCatalogueLine p)
  later p h n = (p, refl, ⊎_elim (λ x. absurd (n x)) (λ x. x) (cases_lt p at), h)

  -- a line that tells a fact stands after the header
  pub fact_after_header : (f : Fact) (before after : List (List ℕ)) → fact_ok f ≡ true → ended_lines t ≡ before ++ fact_text f ∷ after → 25 ≤ start_after before
  fact_after_header f [] after h e = absurd (header_none f h (sym (header_line t (fact_text f) after o.headed e)))
  fact_after_header f (l ∷ before) after h e = past_first t (fact_text f) (l ∷ before) after o.headed e (omega arith)

  repeated_later : (l k : List ℕ) (x y after : List (List ℕ)) → ended_lines t ≡ (x ++ k ∷ y) ++ l ∷ after → SamePair k l → Later t at (BadCatalogueLine (start_after (x ++ k ∷ y)))
  repeated_later l k x y after e s =
      let a = placed (x ++ k ∷ y) t l after e in
      let e' : ended_lines t ≡ x ++ k ∷ (y ++ l ∷ after) = e ∙ append_assoc x (k ∷ y) (l ∷ after) in
      let b = placed x t k (y ++ l ∷ after) e' in
      let p : ℕ = start_after (x ++ k ∷ y) in
      let q : ℕ = start_after x in
      let z : p ≡ q + (length k + 1 + start_after y) = start-++ x (k ∷ y) in
      let n : 25 ≤ q = fact_after_header s.0 x (y ++ l ∷ after) s.2 (e' ∙ ap (λ w. x ++ w ∷ (y ++ l ∷ after)) s.4) in
      let j = a.ended in
      let u : key_at t q ≡ asked s.0.catalogue s.0.key = ap key_of (b.line ∙ s.4) ∙ fact_key s.0 in
      let v : key_at t p ≡ asked s.1.catalogue s.1.key = ap key_of (a.line ∙ s.5) ∙ fact_key s.1 in
      let c = s.6 in
      let d = s.7 in
      later p (omega arith) (λ h. o.apart q p (b.begins, n, omega arith) (a.begins, omega arith, h) (omega arith) (u ∙ (λ i. asked (c i) (d i)) ∙ sym v))

  found_later : (g : Fault) → CatalogueFinds t g → Later t at g
  found_later g (too_long x) = let h = o.short in absurd (omega arith)
  found_later g (too_many x) = let h = o.few in absurd (omega arith)
  found_later g (no_header e) = let (_, k) = header_is t o.headed in absurd (nil_cons _ _ (sym e ∙ ended_step [] t (ltb-true _ _ (and_parts _ (same (line_at t 0) header) o.headed).0)))
  found_later g (bad_header l ls e n) = absurd (n (header_line t l ls o.headed e))
  found_later g (no_fact l before after e z n) =
      let a = placed before t l after e in
      let j = a.ended in
      later (start_after before) (omega arith) (λ h.
      let (f, u, v) = fact_told (line_at t (start_after before)) (o.facts (start_after before) (a.begins, past_first t l before after o.headed e z, h)) in
      n f u (sym a.line ∙ v))
  found_later g (repeats l k before after e m s) =
      subst (λ x. Later t at (BadCatalogueLine (start_after x))) (sym m.2) (repeated_later l k m.0 m.1 after (e ∙ ap (λ x. x ++ l ∷ after) m.2) s)
  found_later g (not_ended x) =
      let e : start_after (ended_lines t) ≡ start_after (ended_lines (take at t)) + start_after (ended_lines (drop at t)) = ap start_after (lines_split t at o.begins) ∙ start-++ (ended_lines (take at t)) (ended_lines (drop at t)) in
      let s = start_is t at o.begins o.inside in
      let z = size_of [] t in
      (start_after (ended_lines t), refl, omega arith, omega arith)

  first_at : CatalogueFinds t (BadCatalogueLine at) → FirstOf (CatalogueFinds t) (BadCatalogueLine at)
  first_at x = (x, λ g y. go g (found_later g y))
    where
      go : (g : Fault) → Later t at g → not_after (rank (BadCatalogueLine at)) (rank g) ≡ true
      go g (p, e, h, _) = subst (λ y. not_after (rank (BadCatalogueLine at)) (rank y) ≡ true) (sym e) (ordered p h)
        where
          ordered : (p : ℕ) → at ≤ p → not_after (rank (BadCatalogueLine at)) (rank (BadCatalogueLine p)) ≡ true
          ordered p h = grind (arith, nat_tests)

  pub first_unended : at < length t → length t ≤ at + length (line_at t at) → FirstOf (CatalogueFinds t) (BadCatalogueLine at)
  first_unended h k =
      let d = length-drop at t in
      let w = feed_within (drop at t) in
      let n : length (drop at t) ≤ length (before_feed (drop at t)) = omega arith in
      let e : ended_lines t ≡ ended_lines (take at t) = lines_split t at o.begins ∙ ap (λ z. ended_lines (take at t) ++ z) (ended_none [] (drop at t) n) ∙ append-nil (ended_lines (take at t)) in
      let s : start_after (ended_lines t) ≡ at = ap start_after e ∙ start_is t at o.begins o.inside in
      let z = size_of [] t in
      first_at (subst (λ p. CatalogueFinds t (BadCatalogueLine p)) s (not_ended (omega arith)))

  module _ (h : at + length (line_at t at) < length t) where
    pub first_no_fact : fact_line (line_at t at) ≡ false → FirstOf (CatalogueFinds t) (BadCatalogueLine at)
    first_no_fact n = first_at (no_fact_at t at o.begins o.past_header h n)

    module _ (f : fact_line (line_at t at) ≡ true) where
      pub first_repeated : (p : ℕ) → Within t at p → key_at t p ≡ key_at t at → FirstOf (CatalogueFinds t) (BadCatalogueLine at)
      first_repeated p w e = first_at (repeats_at t p at w.0 o.begins w.2 h (o.facts p w) f e)

      pub onward : ((p : ℕ) → Within t at p → key_at t p ≡ key_at t at → ⊥) → InOrder t (at + length (line_at t at) + 1)
      onward n =
          let z = o.past_header in
          record {
            short = o.short;
            few = o.few;
            headed = o.headed;
            past_header = omega arith;
            inside = omega arith;
            begins = begins_next t at o.begins h;
            facts = λ p w. ⊎_elim (o.facts p) (λ e. subst (λ q. fact_line (line_at t q) ≡ true) (sym e) f) (within_next t at o.begins p w);
            apart = λ p q v w k e. ⊎_elim
                (λ x. o.apart p q (v.0, v.1, omega (arith, x.2)) x k e)
                (λ x. n p (v.0, v.1, omega arith) (e ∙ ap (key_at t) x))
                (within_next t at o.begins q w);
          }

-- a text that is in order to its end has no fault, and so is a copy of it
pub no_faults : (t s : List ℕ) (at : ℕ) → InOrder s at → s ≡ t → at ≡ length t → (g : Fault) → CatalogueFinds t g → ⊥
no_faults t s at o e n g x =
    let o' : InOrder t (length t) = subst (InOrder t) n (subst (λ s. InOrder s at) e o) in
    let (p, e, h, k) = found_later t (length t) o' g x in
    omega arith

-- a text without faults is in order to its end
pub in_order : (t : List ℕ) → ((g : Fault) → CatalogueFinds t g → ⊥) → InOrder t (length t)
in_order t n =
    let b : unended (take (length t) t) ≡ [] = ap unended (take_all (length t) t (omega arith)) ∙ ⊎_elim (λ x. absurd (n _ (not_ended x))) (λ x. nil_from_length _ (omega arith)) (cases_lt 0 (length (unended t))) in
    let h : header_there t ≡ true = ⊎_elim (λ x. x) (λ x. absurd (n _ (first_header t x).0)) (cases_Bool (header_there t)) in
    let z = (header_is t h).1 in
    record {
      short = ⊎_elim (λ x. absurd (n _ (too_long x))) (λ x. x) (cases_lt 65536 (length t));
      few = ⊎_elim (λ x. absurd (n _ (too_many x))) (λ x. x) (cases_lt 4096 (length (ended_lines t)));
      headed = h;
      past_header = omega arith;
      inside = omega arith;
      begins = b;
      facts = λ p w. fact_at b p w;
      apart = λ p q v w k e. n _ (repeats_at t p q v.0 w.0 k (line_before t q (length t) w.0 b w.2 (omega arith)).0 (fact_at b p v) (fact_at b q w) e);
    }
  where
    fact_at : Begins t (length t) → (p : ℕ) → Within t (length t) p → fact_line (line_at t p) ≡ true
    fact_at b p w = ⊎_elim (λ x. x) (λ x. absurd (n _ (no_fact_at t p w.0 w.1 (line_before t p (length t) w.0 b w.2 (omega arith)).0 x))) (cases_Bool (fact_line (line_at t p)))
