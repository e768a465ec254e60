-- The set of a catalogue text knows-what-it-holds what the text holds, and both sets keep their decimals within 6.
use Rattle.std.proofs.Common.{◌≡◌, ℕ, zero, suc, ◌+◌, ◌-◌, ◌<◌, ◌≤◌, Bool, true, false, cond, not, ◌&&◌, eqb, leb, ◌⊎◌, List, [], ◌∷◌, ◌++◌, length, get_or, is_some, Some, None, codes, Option, sym, refl, ap, ◌∙◌, subst, inl, inr, ⊎_elim, append_assoc, arith, length-append}
use Rattle.std.proofs.lemmas.Bool.{cond_both, cond-true, cond-false, and_parts, and_from, not-true, not_from_false, cases_Bool, both_ways, false≢true, leb-true, leb-false, eqb-true, eq-eqb}
use Rattle.rules.specs.Bytes.{all, same, no_bar, Among}
use Rattle.rules.specs.Kinds.{code_ok}
use Rattle.rules.specs.Catalogues.{Bounded, when, one_of, by_form, ruled, catalogue_name, Fact, fact_ok, fact_text, header, ended_lines, unended, SamePair, CatalogueFinds, too_long, too_many, no_header, bad_header, no_fact, repeats, not_ended, before_bar, after_bar, catalogues, named_among, fact_as, fact_of, decimals_if, or_else, told_by, repeated, lines_ok, headed, catalogue_ok, facts_of, Holds}
use Rattle.theory.specs.Catalogues.{KnowsWhatItHolds, SetsBounded, CatalogueTestExact}
use Rattle.rules.specs.declared.grounds.Fault.{Fault}
use Rattle.rules.specs.declared.schema.Catalogue.{Catalogue}
use Rattle.rules.specs.declared.schema.Kind.TheVariants.{Code}
use Rattle.rules.specs.declared.schema.Catalogue.TheVariants.{FormaPago, Moneda, TipoDeComprobante, Exportacion, MetodoPago, CodigoPostal, RegimenFiscal, ResidenciaFiscal, UsoCFDI, ClaveProdServ, ClaveUnidad, ObjetoImp, Impuesto, TipoFactor}
use Rattle.theory.proofs.Options.{none_some, some_same}
use Rattle.theory.proofs.Lists.{nil_cons, cons_head, cons_tail, among_nil}
use Rattle.theory.proofs.Bytes.{same_is, same_refl}
use Rattle.theory.proofs.KindLaws.{admitted_no_bar}

-- a catalogue's name has no bar, and means that catalogue
name_law : (c : Catalogue) → (all no_bar (catalogue_name c) ≡ true) × (named_among catalogues (catalogue_name c) ≡ Some c)
name_law FormaPago = (refl, refl)
name_law Moneda = (refl, refl)
name_law TipoDeComprobante = (refl, refl)
name_law Exportacion = (refl, refl)
name_law MetodoPago = (refl, refl)
name_law CodigoPostal = (refl, refl)
name_law RegimenFiscal = (refl, refl)
name_law ResidenciaFiscal = (refl, refl)
name_law UsoCFDI = (refl, refl)
name_law ClaveProdServ = (refl, refl)
name_law ClaveUnidad = (refl, refl)
name_law ObjetoImp = (refl, refl)
name_law Impuesto = (refl, refl)
name_law TipoFactor = (refl, refl)

-- catalogues with one name are one
name_is : (a b : Catalogue) → same (catalogue_name a) (catalogue_name b) ≡ true → a ≡ b
name_is a b h =
    let p : catalogue_name a ≡ catalogue_name b = same_is _ _ h in
    let q : named_among catalogues (catalogue_name a) ≡ named_among catalogues (catalogue_name b) = λ i. named_among catalogues (p i) in
    let e : Some a ≡ Some b = sym (name_law a).1 ∙ q ∙ (name_law b).1 in
    cc

-- what stands before the first bar
cut_before : (n r : List ℕ) → all no_bar n ≡ true → before_bar (n ++ 124 ∷ r) ≡ n
cut_before [] r h = refl
cut_before (b ∷ n) r h = let (u, v) = and_parts (no_bar b) _ h in cond-false (eqb b 124) _ _ (not-true _ u) ∙ ap (λ x. b ∷ x) (cut_before n r v)

-- what follows the first bar
cut_after : (n r : List ℕ) → all no_bar n ≡ true → after_bar (n ++ 124 ∷ r) ≡ r
cut_after [] r h = refl
cut_after (b ∷ n) r h = let (u, v) = and_parts (no_bar b) _ h in cond-false (eqb b 124) _ _ (not-true _ u) ∙ cut_after n r v

-- a line that tells a fact of some catalogue is that fact's text
fact_sound : (o : Option Catalogue) (l : List ℕ) (f : Fact) → fact_as o l ≡ Some f → (fact_ok f ≡ true) × (l ≡ fact_text f)
fact_sound None l f h = absurd (none_some refl h)
fact_sound (Some c) l f h =
    let g : Fact = record { catalogue = c; key = before_bar (after_bar l); decimals = get_or (after_bar (after_bar l)) 0 0 - 48 } in
    cond_both (fact_ok g && same l (fact_text g)) (Some g) None (λ x. x ≡ Some f → (fact_ok f ≡ true) × (l ≡ fact_text f))
    (λ e x. let q : g ≡ f = cc in let (u, v) = and_parts (fact_ok g) _ e in subst (λ (y : Fact). (fact_ok y ≡ true) × (l ≡ fact_text y)) q (u, same_is _ _ v))
    (λ e x. absurd (none_some refl x)) h

-- the text of a fact tells it
pub fact_found : (f : Fact) → fact_ok f ≡ true → fact_of (fact_text f) ≡ Some f
fact_found f h =
    let c : Catalogue = f.catalogue in
    let t : List ℕ = fact_text f in
    let r : List ℕ = f.key ++ 124 ∷ (48 + f.decimals) ∷ [] in
    let b = admitted_no_bar (Code f.catalogue) f.key (and_parts (code_ok f.key) _ h).0 in
    let e₁ : before_bar t ≡ catalogue_name c = cut_before (catalogue_name c) r (name_law c).0 in
    let e₂ : after_bar t ≡ r = cut_after (catalogue_name c) r (name_law c).0 in
    let e₃ : before_bar (after_bar t) ≡ f.key = ap before_bar e₂ ∙ cut_before f.key _ b in
    let e₄ : after_bar (after_bar t) ≡ (48 + f.decimals) ∷ [] = ap after_bar e₂ ∙ cut_after f.key _ b in
    let d : (48 + f.decimals) - 48 ≡ f.decimals = omega arith in
    let e₅ : get_or (after_bar (after_bar t)) 0 0 - 48 ≡ f.decimals = ap (λ x. get_or x 0 0 - 48) e₄ ∙ d in
    let g : Fact = record { catalogue = c; key = before_bar (after_bar t); decimals = get_or (after_bar (after_bar t)) 0 0 - 48 } in
    let q : g ≡ f = λ i. record { catalogue = c; key = e₃ i; decimals = e₅ i } in
    ap (λ o. fact_as o t) (ap (named_among catalogues) e₁ ∙ (name_law c).1)
    ∙ ap (λ (y : Fact). cond (fact_ok y && same t (fact_text y)) (Some y) None) q
    ∙ cond-true (fact_ok f && same t (fact_text f)) _ _ (and_from _ _ h (same_refl t))

-- a line that tells a fact is its text
pub fact_is : (l : List ℕ) (f : Fact) → fact_of l ≡ Some f → (fact_ok f ≡ true) × (l ≡ fact_text f)
fact_is l f h = fact_sound (named_among catalogues (before_bar l)) l f h

-- the header is the text of no fact
header_none : (f : Fact) → fact_ok f ≡ true → header ≡ fact_text f → ⊥
header_none f h e = none_some refl (ap fact_of e ∙ fact_found f h)

-- a fact tells its own decimals
hit : (f : Fact) → decimals_if f.catalogue f.key (Some f) ≡ Some f.decimals
hit f = cond-true (same (catalogue_name f.catalogue) (catalogue_name f.catalogue) && same f.key f.key) _ _ (and_from _ _ (same_refl (catalogue_name f.catalogue)) (same_refl f.key))

-- a fact is of this catalogue and code, and has these decimals
abbrev pub Tells : Catalogue → List ℕ → ℕ → Fact → Type 0
Tells c s n f = (f.catalogue ≡ c) × (f.key ≡ s) × (f.decimals ≡ n)

-- decimals that are told are those of a fact
hit_is : (c : Catalogue) (s : List ℕ) (n : ℕ) (o : Option Fact) → decimals_if c s o ≡ Some n → (f : Fact) × (o ≡ Some f) × Tells c s n f
hit_is c s n None h = absurd (none_some refl h)
hit_is c s n (Some f) h =
    cond_both (same (catalogue_name f.catalogue) (catalogue_name c) && same f.key s) (Some f.decimals) None (λ x. x ≡ Some n → (g : Fact) × (Some f ≡ Some g) × Tells c s n g)
    (λ e x. let (u, v) = and_parts (same (catalogue_name f.catalogue) (catalogue_name c)) _ e in let d : f.decimals ≡ n = cc in (f, refl, (name_is _ _ u, same_is _ _ v, d)))
    (λ e x. absurd (none_some refl x)) h

-- what lines tell stands on one of them
pub told_is : (c : Catalogue) (s : List ℕ) (n : ℕ) (ls : List (List ℕ)) → told_by c s ls ≡ Some n → (l : List ℕ) × (f : Fact) × Among l ls × (fact_of l ≡ Some f) × Tells c s n f
told_is c s n [] h = absurd (none_some refl h)
told_is c s n (l ∷ ls) h = go (decimals_if c s (fact_of l)) refl h (told_is c s n ls)
  where
    go : (o : Option ℕ) → decimals_if c s (fact_of l) ≡ o → or_else o (told_by c s ls) ≡ Some n →
        (told_by c s ls ≡ Some n → (k : List ℕ) × (f : Fact) × Among k ls × (fact_of k ≡ Some f) × Tells c s n f) → (k : List ℕ) × (f : Fact) × Among k (l ∷ ls) × (fact_of k ≡ Some f) × Tells c s n f
    go None e x f = let r = f x in (r.0, r.1, (l ∷ r.2.0, r.2.1, ap (λ y. l ∷ y) r.2.2), r.3, r.4)
    go (Some m) e x f = let r = hit_is c s n (fact_of l) (e ∙ x) in (l, r.0, ([], ls, refl), r.1, r.2)

-- what is told later is told
or_some : (o p : Option ℕ) → is_some p ≡ true → is_some (or_else o p) ≡ true
or_some None p h = h
or_some (Some n) p h = refl

-- what stands on a line is told
pub told_some : (l : List ℕ) (f : Fact) → fact_of l ≡ Some f → (before after : List (List ℕ)) → is_some (told_by f.catalogue f.key (before ++ l ∷ after)) ≡ true
told_some l f e [] after = let x : Option ℕ = told_by f.catalogue f.key after in ap (λ o. is_some (or_else (decimals_if f.catalogue f.key o) x)) e ∙ ap (λ o. is_some (or_else o x)) (hit f)
told_some l f e (b ∷ before) after = or_some _ _ (told_some l f e before after)

-- the first of lines in order tells a fact that no later line tells, and the others are in order
line_fact : (l : List ℕ) (ls : List (List ℕ)) → lines_ok (l ∷ ls) ≡ true → (f : Fact) × (fact_of l ≡ Some f) × (is_some (told_by f.catalogue f.key ls) ≡ false) × (lines_ok ls ≡ true)
line_fact l ls h = let (u, v) = and_parts (not (repeated (fact_of l) ls)) _ h in go (fact_of l) refl (not-true _ u) v
  where
    go : (o : Option Fact) → fact_of l ≡ o → repeated o ls ≡ false → lines_ok ls ≡ true → (f : Fact) × (fact_of l ≡ Some f) × (is_some (told_by f.catalogue f.key ls) ≡ false) × (lines_ok ls ≡ true)
    go None e x y = absurd (both_ways true x refl)
    go (Some f) e x y = (f, e, x, y)

-- lines in order tell what stands on each of them
told_once : (ls before after : List (List ℕ)) (l : List ℕ) (f : Fact) → lines_ok ls ≡ true → ls ≡ before ++ l ∷ after → fact_of l ≡ Some f → told_by f.catalogue f.key ls ≡ Some f.decimals
told_once [] before after l f h e q = absurd (among_nil l (before, after, e))
told_once (k ∷ ls) [] after l f h e q =
    let x : Option ℕ = told_by f.catalogue f.key ls in
    ap (λ o. or_else (decimals_if f.catalogue f.key o) x) (ap fact_of (cons_head e) ∙ q) ∙ ap (λ o. or_else o x) (hit f)
told_once (k ∷ ls) (b ∷ before) after l f h e q =
    let (g, a, n, m) = line_fact k ls h in
    let r : told_by f.catalogue f.key ls ≡ Some f.decimals = told_once ls before after l f m (cons_tail e) q in
    ap (λ o. or_else (decimals_if f.catalogue f.key o) (told_by f.catalogue f.key ls)) a ∙ go g n r (decimals_if f.catalogue f.key (Some g)) refl
  where
    go : (g : Fact) → is_some (told_by g.catalogue g.key ls) ≡ false → told_by f.catalogue f.key ls ≡ Some f.decimals → (o : Option ℕ) → decimals_if f.catalogue f.key (Some g) ≡ o → or_else o (told_by f.catalogue f.key ls) ≡ Some f.decimals
    go g n r None y = r
    go g n r (Some d) y =
        let z = hit_is f.catalogue f.key d (Some g) y in
        let w : g ≡ z.0 = let u = z.1 in cc in
        let c : g.catalogue ≡ f.catalogue = ap (λ (x : Fact). x.catalogue) w ∙ z.2.0 in
        let s : g.key ≡ f.key = ap (λ (x : Fact). x.key) w ∙ z.2.1 in
        absurd (both_ways _ n (ap is_some ((λ i. told_by (c i) (s i) ls) ∙ r)))

-- a line of lines in order tells a fact that no later line tells
line_at : (ls before after : List (List ℕ)) (l : List ℕ) → lines_ok ls ≡ true → ls ≡ before ++ l ∷ after → (f : Fact) × (fact_of l ≡ Some f) × (is_some (told_by f.catalogue f.key after) ≡ false)
line_at [] before after l h e = absurd (among_nil l (before, after, e))
line_at (k ∷ ls) [] after l h e =
    let (g, a, n, m) = line_fact k ls h in
    (g, ap fact_of (sym (cons_head e)) ∙ a, ap (λ y. is_some (told_by g.catalogue g.key y)) (sym (cons_tail e)) ∙ n)
line_at (k ∷ ls) (b ∷ before) after l h e = let (g, a, n, m) = line_fact k ls h in line_at ls before after l m (cons_tail e)

-- lines in order are the header and lines of facts
headed_is : (ls : List (List ℕ)) → headed ls ≡ true → (ks : List (List ℕ)) × (ls ≡ header ∷ ks) × (lines_ok ks ≡ true)
headed_is [] h = absurd (false≢true h)
headed_is (l ∷ ks) h = let (u, v) = and_parts (same l header) _ h in (ks, ap (λ y. y ∷ ks) (same_is l header u), v)

-- no two lines in order tell one pair
pair_apart : (ks x y after : List (List ℕ)) (l k : List ℕ) → lines_ok ks ≡ true → header ∷ ks ≡ (x ++ k ∷ y) ++ l ∷ after → SamePair k l → ⊥
pair_apart ks [] y after l k h e p = header_none p.0 p.2 (cons_head e ∙ p.4)
pair_apart ks (w ∷ x) y after l k h e p =
    let (f, a, n) = line_at ks x (y ++ l ∷ after) k h (cons_tail e ∙ append_assoc x (k ∷ y) (l ∷ after)) in
    let q : Some f ≡ Some p.0 = sym a ∙ ap fact_of p.4 ∙ fact_found p.0 p.2 in
    let r : f ≡ p.0 = cc in
    let c : f.catalogue ≡ p.1.catalogue = ap (λ (z : Fact). z.catalogue) r ∙ p.6 in
    let s : f.key ≡ p.1.key = ap (λ (z : Fact). z.key) r ∙ p.7 in
    both_ways _ n (ap is_some (λ i. told_by (c i) (s i) (y ++ l ∷ after)) ∙ told_some l p.1 (ap fact_of p.5 ∙ fact_found p.1 p.3) y after)

-- each line in order after the header tells a fact
fact_there : (ks before after : List (List ℕ)) (l : List ℕ) → lines_ok ks ≡ true → header ∷ ks ≡ before ++ l ∷ after → 0 < length before → (f : Fact) × (fact_ok f ≡ true) × (l ≡ fact_text f)
fact_there ks [] after l h e z = absurd (omega arith)
fact_there ks (b ∷ before) after l h e z = let (f, a, n) = line_at ks before after l h (cons_tail e) in let (u, v) = fact_is l f a in (f, u, v)

module _ (t : List ℕ) where
  -- a text that passes its test has no fault
  no_faults : catalogue_ok t ≡ true → (f : Fault) → CatalogueFinds t f → ⊥
  no_faults h f x =
      let (a, h₁) = and_parts (leb (length t) 65536) _ h in
      let (b, h₂) = and_parts (leb (length (ended_lines t)) 4096) _ h₁ in
      let (c, d) = and_parts (headed (ended_lines t)) _ h₂ in
      go (leb-true _ _ a) (leb-true _ _ b) c (headed_is (ended_lines t) c) (eqb-true _ _ d) f x
    where
      go : length t ≤ 65536 → length (ended_lines t) ≤ 4096 → headed (ended_lines t) ≡ true → (ks : List (List ℕ)) × (ended_lines t ≡ header ∷ ks) × (lines_ok ks ≡ true) → length (unended t) ≡ 0 → (f : Fault) → CatalogueFinds t f → ⊥
      go a b c k d f (too_long x) = omega arith
      go a b c k d f (too_many x) = omega arith
      go a b c k d f (no_header e) = nil_cons _ _ (sym e ∙ k.1)
      go a b c k d f (bad_header l ls e n) = n (cons_head (sym e ∙ k.1))
      go a b c k d f (no_fact l before after e z n) = let (g, u, v) = fact_there k.0 before after l k.2 (sym k.1 ∙ e) z in n g u v
      go a b c k d f (repeats l j before after e m p) = pair_apart k.0 m.0 m.1 after l j k.2 (sym k.1 ∙ e ∙ ap (λ x. x ++ l ∷ after) m.2) p
      go a b c k d f (not_ended x) = omega arith

  module _ (n : (f : Fault) → CatalogueFinds t f → ⊥) where
    -- where nothing is found, each line after the first tells a fact that no later line tells
    fact_once : (k : List ℕ) (ks before : List (List ℕ)) → ended_lines t ≡ before ++ k ∷ ks → 0 < length before → (o : Option Fact) → fact_of k ≡ o → repeated o ks ≡ false
    fact_once k ks before e z None q = absurd (n _ (no_fact k before ks e z (λ f h r. none_some q (ap fact_of r ∙ fact_found f h))))
    fact_once k ks before e z (Some f) q = go (told_by f.catalogue f.key ks) refl
      where
        go : (o : Option ℕ) → told_by f.catalogue f.key ks ≡ o → is_some (told_by f.catalogue f.key ks) ≡ false
        go None x = ap is_some x
        go (Some m) x =
            let (l, g, a, r, w) = told_is f.catalogue f.key m ks x in
            let e' : ended_lines t ≡ (before ++ k ∷ a.0) ++ l ∷ a.1 = e ∙ ap (λ y. before ++ k ∷ y) a.2 ∙ sym (append_assoc before (k ∷ a.0) (l ∷ a.1)) in
            let (u₁, v₁) = fact_is k f q in
            let (u₂, v₂) = fact_is l g r in
            absurd (n _ (repeats l k (before ++ k ∷ a.0) a.1 e' (before, a.0, refl) (f, g, u₁, u₂, v₁, v₂, sym w.0, sym w.1)))

    -- so the lines are in order
    lines_fine : (ks before : List (List ℕ)) → ended_lines t ≡ before ++ ks → 0 < length before → lines_ok ks ≡ true
    lines_fine [] before e z = refl
    lines_fine (k ∷ ks) before e z = and_from _ _ (not_from_false _ (fact_once k ks before e z (fact_of k) refl)) (lines_fine ks (before ++ k ∷ []) (e ∙ sym (append_assoc before (k ∷ []) ks)) (simp length-append (omega arith)))

    -- and the header stands before them
    headed_fine : (ls : List (List ℕ)) → ended_lines t ≡ ls → headed ls ≡ true
    headed_fine [] e = absurd (n _ (no_header e))
    headed_fine (l ∷ ks) e =
        and_from _ _ (⊎_elim (λ x. x) (λ x. absurd (n _ (bad_header l ks e (λ y. both_ways _ x (ap (λ z. same z header) y ∙ same_refl header))))) (cases_Bool (same l header)))
        (lines_fine ks (l ∷ []) e (omega arith))

    -- and the text passes its test
    pub in_order : catalogue_ok t ≡ true
    in_order =
        and_from _ _ (⊎_elim (λ x. x) (λ x. absurd (n _ (too_long (leb-false _ _ x)))) (cases_Bool (leb (length t) 65536)))
        (and_from _ _ (⊎_elim (λ x. x) (λ x. absurd (n _ (too_many (leb-false _ _ x)))) (cases_Bool (leb (length (ended_lines t)) 4096)))
        (and_from _ _ (headed_fine (ended_lines t) refl) (⊎_elim (λ x. eq-eqb _ _ x) (λ x. absurd (n _ (not_ended x))) (nothing (length (unended t))))))
      where
        nothing : (m : ℕ) → (m ≡ 0) ⊎ (0 < m)
        nothing zero = inl refl
        nothing (suc m) = inr (omega arith)

-- what a text in order holds is told
held : (ks x y : List (List ℕ)) (g : Fact) → fact_ok g ≡ true → lines_ok ks ≡ true → header ∷ ks ≡ x ++ fact_text g ∷ y → told_by g.catalogue g.key (header ∷ ks) ≡ Some g.decimals
held ks [] y g o l e = absurd (header_none g o (cons_head e))
held ks (w ∷ x) y g o l e = told_once ks x y (fact_text g) g l (cons_tail e) (fact_found g o)

-- the set of a text knows what the text holds
pub knows_what_it_holds : KnowsWhatItHolds
knows_what_it_holds t c s n = (to, from)
  where
    to : Holds t c s n → facts_of t c s ≡ Some n
    to h =
        let o = in_order t h.0 in
        let k = headed_is (ended_lines t) (headed_fine t h.0 (ended_lines t) refl) in
        let x : List (List ℕ) = h.2.0 in
        let r = held k.0 x h.2.1 h.1 h.3 k.2 (sym k.1 ∙ h.2.2) in
        let p = sym h.4 in
        let q = sym h.5 in
        cond-true (catalogue_ok t) _ _ o ∙ (λ i. told_by (p i) (q i) (k.1 i)) ∙ r ∙ ap Some h.6

    from : facts_of t c s ≡ Some n → Holds t c s n
    from e =
        cond_both (catalogue_ok t) (told_by c s (ended_lines t)) None (λ x. x ≡ Some n → Holds t c s n)
        (λ o x.
        let (l, f, a, q, w) = told_is c s n (ended_lines t) x in
        let (u, v) = fact_is l f q in
        (no_faults t o, f, subst (λ y. Among y (ended_lines t)) v a, u, w.0, w.1, w.2))
        (λ o x. absurd (none_some refl x)) e

-- decimals are at most 6
pub text_bounded : (t : List ℕ) → Bounded (facts_of t)
text_bounded t c s n e = let h = (knows_what_it_holds t c s n).1 e in let d = h.6 in let b = leb-true _ _ (and_parts (code_ok h.1.key) _ h.3).1 in omega arith

-- zero decimals are within bounds, where they are told
small : (b : Bool) (n : ℕ) → when b 0 ≡ Some n → n ≤ 6
small true n e = let q : 0 ≡ n = cc in omega arith
small false n e = absurd (none_some refl e)

-- the forms of the ruled set are bounded
form_bounded : Bounded by_form
form_bounded CodigoPostal s n e = small _ n e
form_bounded ClaveProdServ s n e = small _ n e
form_bounded TipoDeComprobante s n e = small _ n e
form_bounded TipoFactor s n e = small _ n e
form_bounded Moneda s n e = cond_both (one_of s (codes "MXN" ∷ codes "USD" ∷ [])) (Some 2) (when (same s (codes "XXX")) 0) (λ x. x ≡ Some n → n ≤ 6) (λ _ x. let q : 2 ≡ n = some_same refl x in omega arith) (λ _ x. small (same s (codes "XXX")) n x) e
form_bounded FormaPago s n e = small true n e
form_bounded Exportacion s n e = small true n e
form_bounded MetodoPago s n e = small true n e
form_bounded RegimenFiscal s n e = small true n e
form_bounded ResidenciaFiscal s n e = small true n e
form_bounded UsoCFDI s n e = small true n e
form_bounded ClaveUnidad s n e = small true n e
form_bounded ObjetoImp s n e = small true n e
form_bounded Impuesto s n e = small true n e

-- the ruled set is bounded
pub ruled_bounded : Bounded ruled
ruled_bounded c s n e = cond_both (code_ok s) (by_form c s) None (λ x. x ≡ Some n → n ≤ 6) (λ _ x. form_bounded c s n x) (λ _ x. absurd (none_some refl x)) e

-- both sets are bounded
pub sets_bounded : SetsBounded
sets_bounded = record { ruled_set = ruled_bounded; text_set = text_bounded }

-- the test passes exactly when nothing is found
pub test_exact : CatalogueTestExact
test_exact t = (no_faults t, in_order t)
