-- Every catalogue text has a judgement: what is found at its start, at each line and at its end is decided.
use Rattle.std.proofs.Common.{◌≡◌, ℕ, ◌<◌, Bool, true, not, ◌||◌, ltb, ◌⊎◌, List, [], ◌∷◌, ◌++◌, length, is_some, Some, None, Option, sym, refl, ap, ◌∙◌, subst, inl, inr, ⊎_elim, arith}
use Rattle.std.proofs.lemmas.Bool.{cases_Bool, both_ways, false≢true, or_cases, or_left, or_right, not-true, not_from_false, ltb-true, lt-ltb}
use Rattle.std.proofs.lemmas.Bool.Decides.{nat_tests}
use Rattle.rules.specs.Bytes.{same, Among}
use Rattle.rules.specs.Catalogues.{Fact, header, fact_of, told_by, repeated, start_after, ended_lines, unended, SamePair, CatalogueFinds, too_long, too_many, no_header, bad_header, no_fact, repeats, not_ended, catalogue_ok, CatalogueFirst}
use Rattle.rules.specs.Faults.{Judgement}
use Rattle.rules.specs.declared.grounds.Fault.{Fault}
use Rattle.rules.specs.declared.grounds.Fault.TheVariants.{BadCatalogue, BadCatalogueLine}
use Rattle.theory.specs.Catalogues.{Faultless, EveryCatalogueJudged}
use Rattle.theory.proofs.Bytes.{same_is, same_refl}
use Rattle.theory.proofs.Options.{none_some}
use Rattle.theory.proofs.Lists.{nil_cons, cons_head, cons_tail, among_nil}
use Rattle.theory.proofs.Compose.{Before, judged_as, Where, where_judged, Either, either_judged, Some_after, after_judged}
use Rattle.theory.proofs.CatalogueLaws.{fact_found, fact_is, told_is, told_some, in_order}

-- the first line is not the header, or there is none
abbrev unheaded : List (List ℕ) → Bool
unheaded [] = true
unheaded (l ∷ ls) = not (same l header)

-- a limit is passed, or the header is lacking
abbrev bad_start : List ℕ → Bool
bad_start t = ltb 65536 (length t) || (ltb 4096 (length (ended_lines t)) || unheaded (ended_lines t))

-- a line that tells no fact, or a pair that the lines before it tell
abbrev LineFault : List (List ℕ) → List ℕ → Fault → Type 0
LineFault before l = Where (repeated (fact_of l) before) (BadCatalogueLine (start_after before))

-- some such line, of those that follow the first one
abbrev LinesFault : List ℕ → List (List ℕ) → Fault → Type 0
LinesFault h ks = Some_after LineFault (h ∷ []) ks

lines_judged : (h : List ℕ) (ks : List (List ℕ)) → (o : Option Fault) × Judgement (LinesFault h ks) o
lines_judged h ks = (_, after_judged LineFault _ (λ b l. where_judged (repeated (fact_of l) b) (BadCatalogueLine (start_after b))) (h ∷ []) ks)

-- a line that no fact is the text of tells none
untold : (l : List ℕ) (before : List (List ℕ)) → ((f : Fact) → fact_of l ≡ Some f → ⊥) → repeated (fact_of l) before ≡ true
untold l before n = go (fact_of l) n
  where
    go : (o : Option Fact) → ((f : Fact) → o ≡ Some f → ⊥) → repeated o before ≡ true
    go None n = refl
    go (Some f) n = absurd (n f refl)

-- a line whose pair stands before it repeats it
told_again : (k l : List ℕ) (before : List (List ℕ)) → Among k before → SamePair k l → repeated (fact_of l) before ≡ true
told_again k l before (b, a, e) (f, g, u, v, x, y, c, s) =
    let p : fact_of l ≡ Some g = ap fact_of y ∙ fact_found g v in
    let q : fact_of k ≡ Some f = ap fact_of x ∙ fact_found f u in
    let r : is_some (told_by f.catalogue f.key before) ≡ true = ap (λ z. is_some (told_by f.catalogue f.key z)) e ∙ told_some k f q b a in
    ap (λ o. repeated o before) p ∙ (λ i. is_some (told_by (sym c i) (sym s i) before)) ∙ r

start_line : (p : ℕ) → Before BadCatalogue (BadCatalogueLine p)
start_line p = grind (arith, nat_tests)

module _ (t : List ℕ) where
  -- the fault that a repeated or factless line is
  line_found : (before : List (List ℕ)) (l : List ℕ) (after : List (List ℕ)) → ended_lines t ≡ before ++ l ∷ after → 0 < length before → (o : Option Fact) → fact_of l ≡ o → repeated o before ≡ true → CatalogueFinds t (BadCatalogueLine (start_after before))
  line_found before l after e z None q h = no_fact l before after e z (λ f u r. none_some q (ap fact_of r ∙ fact_found f u))
  line_found before l after e z (Some f) q h = go (told_by f.catalogue f.key before) refl h
    where
      go : (o : Option ℕ) → told_by f.catalogue f.key before ≡ o → is_some o ≡ true → CatalogueFinds t (BadCatalogueLine (start_after before))
      go None x h = absurd (false≢true h)
      go (Some m) x h =
          let (k, g, a, r, w) = told_is f.catalogue f.key m before x in
          let (u₁, v₁) = fact_is l f q in
          let (u₂, v₂) = fact_is k g r in
          repeats l k before after e a (g, f, u₂, u₁, v₂, v₁, w.0, w.1)

  -- what is found at the start of a text, at the lines after the first, and at its end
  abbrev StartFault : Fault → Type 0
  StartFault = Where (bad_start t) BadCatalogue

  -- what stands after the last line feed
  abbrev EndFault : Fault → Type 0
  EndFault = Where (ltb 0 (length (unended t))) (BadCatalogueLine (start_after (ended_lines t)))

  module _ (h : List ℕ) (ks : List (List ℕ)) (e : ended_lines t ≡ h ∷ ks) where
    line_of : (before after : List (List ℕ)) (l : List ℕ) → ended_lines t ≡ before ++ l ∷ after → 0 < length before → repeated (fact_of l) before ≡ true → LinesFault h ks (BadCatalogueLine (start_after before))
    line_of [] after l q z r = absurd (omega arith)
    line_of (c ∷ b) after l q z r =
        let w : c ≡ h = cons_head (sym q ∙ e) in
        (b, l, after, cons_tail (sym e ∙ q), (ap (λ x. repeated (fact_of l) (x ∷ b)) (sym w) ∙ r, ap (λ x. BadCatalogueLine (start_after (x ∷ b))) w))

    parted : (f : Fault) → CatalogueFinds t f → Either StartFault (Either (LinesFault h ks) EndFault) f
    parted f (too_long x) = inl (or_left _ _ (lt-ltb _ _ x), refl)
    parted f (too_many x) = inl (or_right _ _ (or_left _ _ (lt-ltb _ _ x)), refl)
    parted f (no_header x) = absurd (nil_cons h ks (sym x ∙ e))
    parted f (bad_header l ls x n) =
        inl (or_right (ltb 65536 (length t)) _ (or_right (ltb 4096 (length (ended_lines t))) _ (ap unheaded x ∙ not_from_false _ (⊎_elim (λ y. absurd (n (same_is l header y))) (λ y. y) (cases_Bool (same l header))))), refl)
    parted f (no_fact l before after x z n) = inr (inl (line_of before after l x z (untold l before (λ g q. let (u, v) = fact_is l g q in n g u v))))
    parted f (repeats l k before after x a p) = inr (inl (line_of before after l x (some_before k before a) (told_again k l before a p)))
      where
        some_before : (k : List ℕ) (before : List (List ℕ)) → Among k before → 0 < length before
        some_before k [] a = absurd (among_nil k a)
        some_before k (b ∷ before) a = omega arith
    parted f (not_ended x) = inr (inr (lt-ltb _ _ x, refl))

    found_in : (f : Fault) → Either StartFault (Either (LinesFault h ks) EndFault) f → CatalogueFinds t f
    found_in f (inl (w, q)) =
        subst (CatalogueFinds t) (sym q)
        (⊎_elim (λ x. too_long (ltb-true _ _ x)) (λ x. ⊎_elim (λ y. too_many (ltb-true _ _ y))
        (λ y. bad_header h ks e (λ z. both_ways (same h header) (not-true _ (sym (ap unheaded e) ∙ y)) (ap (λ x. same x header) z ∙ same_refl header))) (or_cases _ _ x)) (or_cases _ _ w))
    found_in f (inr (inl (b, l, after, x, (w, q)))) = subst (CatalogueFinds t) (sym q) (line_found (h ∷ b) l after (e ∙ ap (λ y. h ∷ y) x) (omega arith) (fact_of l) refl w)
    found_in f (inr (inr (w, q))) = subst (CatalogueFinds t) (sym q) (not_ended (ltb-true _ _ w))

    headed_judged : (o : Option Fault) × Judgement (CatalogueFinds t) o
    headed_judged = (
      _,
      judged_as (Either StartFault (Either (LinesFault h ks) EndFault)) (CatalogueFinds t) found_in parted _
          (either_judged StartFault (Either (LinesFault h ks) EndFault) _ _ (where_judged (bad_start t) BadCatalogue)
          (either_judged (LinesFault h ks) EndFault _ _ (lines_judged h ks).1 (where_judged (ltb 0 (length (unended t))) (BadCatalogueLine (start_after (ended_lines t)))))),
    )

  -- a text with no ended line lacks its header, which counts before all else
  first_start : (f : Fault) → CatalogueFinds t f → Before BadCatalogue f
  first_start f (too_long x) = refl
  first_start f (too_many x) = refl
  first_start f (no_header x) = refl
  first_start f (bad_header l ls x n) = refl
  first_start f (no_fact l before after x z n) = start_line (start_after before)
  first_start f (repeats l k before after x a p) = start_line (start_after before)
  first_start f (not_ended x) = start_line (start_after (ended_lines t))

  judged : (ls : List (List ℕ)) → ended_lines t ≡ ls → (o : Option Fault) × Judgement (CatalogueFinds t) o
  judged [] e = (Some BadCatalogue, (no_header e, first_start))
  judged (h ∷ ks) e = headed_judged h ks e

-- every catalogue text has its judgement
pub every_judged : EveryCatalogueJudged
every_judged t = go (judged t (ended_lines t) refl)
  where
    go : (o : Option Fault) × Judgement (CatalogueFinds t) o → ((catalogue_ok t ≡ true) × Faultless t) ⊎ ((f : Fault) × CatalogueFirst t f)
    go (None, n) = inl (in_order t n, n)
    go (Some f, h) = inr (f, h)
