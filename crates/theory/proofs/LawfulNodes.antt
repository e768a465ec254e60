-- What lawfulness says of the nodes of a document, put positively.
use Rattle.std.proofs.Common.{◌≡◌, ℕ, Bool, true, false, not, ◌&&◌, ◌⊎◌, List, [], ◌∷◌, ◌++◌, Some, None, Option, sym, refl, ap, ◌∙◌, subst, inl, inr, ⊎_elim}
use Rattle.std.proofs.lemmas.Bool.{cond-true, cond-false, and_parts, not-true, or_left, or_from, cases_Bool, both_ways, false≢true}
use Rattle.rules.specs.Bytes.{all, same, Among}
use Rattle.rules.specs.Markup.{some}
use Rattle.rules.specs.Located.{Given}
use Rattle.rules.specs.Kinds.{fixed_text, admits, keep, admitted, catalogue_of}
use Rattle.rules.specs.declared.schema.Kind.{Kind}
use Rattle.rules.specs.declared.schema.Kind.TheVariants.{Fixed, Text, Amount, Positive, DateTime, Digits, Mark, Rfc, Seal, Code}
use Rattle.rules.specs.Schema.{Row, namespaces}
use Rattle.rules.specs.Values.{kept_of}
use Rattle.rules.specs.Texts.{only_text}
use Rattle.rules.specs.Catalogues.{Facts}
use Rattle.rules.specs.Grounds.{rows, row_of, occurs, Standing, NamesFault, missing, ValuesFault, not_admitted, not_in_catalogue}
use Rattle.rules.specs.declared.grounds.Fault.{Fault}
use Rattle.rules.specs.declared.schema.Catalogue.{Catalogue}
use Rattle.rules.specs.declared.schema.Node.{Node}
use Rattle.theory.proofs.Bytes.{same_is, same_refl}
use Rattle.theory.proofs.SchemaLaws.{at_node, rows_distinct}
use Rattle.theory.proofs.KindLaws.{keep_keep}
use Rattle.theory.proofs.ReadBack.{has, distinct, has_after}
use Rattle.theory.proofs.Shorter.{FixedHere}

-- rows by name
row_found : (before after : List Row) (r : Row) → distinct (before ++ r ∷ after) ≡ true → row_of (before ++ r ∷ after) r.name ≡ Some r
row_found [] after r d = cond-true (same r.name r.name) _ _ (same_refl r.name)
row_found (b ∷ before) after r d =
    let (d₁, d₂) = and_parts (not (has b.name (before ++ r ∷ after))) _ d in
    ⊎_elim
    (λ e. absurd (both_ways (has b.name (before ++ r ∷ after)) (not-true _ d₁) (has_after b.name before (r ∷ after) (or_left _ _ e))))
    (λ e. cond-false (same b.name r.name) _ _ e ∙ row_found before after r d₂)
    (cases_Bool (same b.name r.name))

-- a row of a node is found by its name
row_at : (k : Node) (r : Row) → Among r (rows k) → row_of (rows k) r.name ≡ Some r
row_at k r a = let d = ap distinct (sym a.2) ∙ rows_distinct k in ap (λ rs. row_of rs r.name) a.2 ∙ row_found a.0 a.1 r d

-- a row is absent from the attributes given, or is given by one of them
pub given_or_absent : (r : Row) (gs : List Given) → ((kept_of r gs ≡ None) × (occurs r.name gs ≡ false)) ⊎ ((g : Given) × Among g gs × (r.name ≡ g.name) × (kept_of r gs ≡ Some (keep r.kind g.value)))
given_or_absent r [] = inl (refl, refl)
given_or_absent r (g ∷ gs) =
    ⊎_elim
    (λ e. inr (g, ([], gs, refl), same_is r.name g.name e, cond-true (same r.name g.name) _ _ e))
    (λ e. ⊎_elim
    (λ h. inl (cond-false (same r.name g.name) _ _ e ∙ h.0, or_from _ _ e h.1))
    (λ h. inr (h.0, (g ∷ h.1.0, h.1.1, ap (λ l. g ∷ l) h.1.2), h.2, cond-false (same r.name g.name) _ _ e ∙ h.3))
    (given_or_absent r gs))
    (cases_Bool (same r.name g.name))

-- what the rules ask of one attribute's kept form
abbrev pub InCatalogue : Facts → Option Catalogue → List ℕ → Type 0
InCatalogue facts None x = Unit {0}
InCatalogue facts (Some c) x = facts c x ≡ None → ⊥

-- what the rules ask of a slot
abbrev pub SlotOk : Facts → Row → Option (List ℕ) → Type 0
SlotOk facts r None = r.required ≡ false
SlotOk facts r (Some x) = (admits r.kind x ≡ true) × InCatalogue facts (catalogue_of r.kind) x × (keep r.kind x ≡ x)

-- a node has no fault of names or values
abbrev pub Clean : Facts → Standing → Type 0
Clean facts s = ((f : Fault) → NamesFault s f → ⊥) × ((f : Fault) → ValuesFault facts s f → ⊥)

-- the slots of a node without faults keep the rules
pub slot_ok : (facts : Facts) (s : Standing) → Clean facts s → (r : Row) → Among r (rows s.kind) → SlotOk facts r (kept_of r s.givens)
slot_ok facts s c r a = ⊎_elim absent present (given_or_absent r s.givens)
  where
    absent : (kept_of r s.givens ≡ None) × (occurs r.name s.givens ≡ false) → SlotOk facts r (kept_of r s.givens)
    absent h = subst (SlotOk facts r) (sym h.0) (⊎_elim (λ e. absurd (c.0 _ (missing r a e h.1))) (λ e. e) (cases_Bool r.required))

    listed : (g : Given) → Among g s.givens → row_of (rows s.kind) g.name ≡ Some r → admitted r.kind g.value ≡ true → (o : Option Catalogue) → catalogue_of r.kind ≡ o → InCatalogue facts o (keep r.kind g.value)
    listed g b q u None e = tt
    listed g b q u (Some k) e = λ n. c.1 _ (not_in_catalogue g r k b q u e n)

    present : (g : Given) × Among g s.givens × (r.name ≡ g.name) × (kept_of r s.givens ≡ Some (keep r.kind g.value)) → SlotOk facts r (kept_of r s.givens)
    present h =
        let g : Given = h.0 in
        let q : row_of (rows s.kind) g.name ≡ Some r = ap (row_of (rows s.kind)) (sym h.2) ∙ row_at s.kind r a in
        let u : admitted r.kind g.value ≡ true = ⊎_elim (λ e. e) (λ e. absurd (c.1 _ (not_admitted g r h.1 q e))) (cases_Bool (admitted r.kind g.value)) in
        subst (SlotOk facts r) (sym h.3) (u, listed g h.1 q u (catalogue_of r.kind) refl, keep_keep r.kind g.value)

-- a kind that fixes a text admits that one alone
fixed_is : (k : Kind) (x : List ℕ) → some (only_text k) ≡ true → admits k x ≡ true → x ≡ only_text k
fixed_is (Fixed t) x h a = same_is x (fixed_text t) a
fixed_is (Text n) x h a = absurd (false≢true h)
fixed_is Amount x h a = absurd (false≢true h)
fixed_is Positive x h a = absurd (false≢true h)
fixed_is DateTime x h a = absurd (false≢true h)
fixed_is (Digits n) x h a = absurd (false≢true h)
fixed_is Mark x h a = absurd (false≢true h)
fixed_is Rfc x h a = absurd (false≢true h)
fixed_is Seal x h a = absurd (false≢true h)
fixed_is (Code c) x h a = absurd (false≢true h)

-- a row that is required and fixes its text
abbrev fixed_row : Row → Bool
fixed_row r = r.required && some (only_text r.kind)

-- the namespaces are such rows
pub fixed_rows : (k : Node) → all fixed_row (namespaces k) ≡ true
fixed_rows = at_node (λ k. all fixed_row (namespaces k)) refl

-- the slot of such a row is its text
slot_fixed : (facts : Facts) (r : Row) (o : Option (List ℕ)) → fixed_row r ≡ true → SlotOk facts r o → o ≡ Some (only_text r.kind)
slot_fixed facts r None h s = absurd (both_ways r.required s (and_parts _ _ h).0)
slot_fixed facts r (Some x) h s = ap Some (fixed_is r.kind x (and_parts _ _ h).1 s.0)

-- a node without faults has each fixed attribute
pub fixed_here : (facts : Facts) (s : Standing) → Clean facts s → (ns more : List Row) → all fixed_row ns ≡ true → ((r : Row) → Among r (ns ++ more) → SlotOk facts r (kept_of r s.givens)) → FixedHere ns s.givens
fixed_here facts s c [] more h f = tt
fixed_here facts s c (r ∷ ns) more h f =
    let (u, v) = and_parts (fixed_row r) _ h in
    (slot_fixed facts r _ u (f r ([], ns ++ more, refl)), fixed_here facts s c ns more v (λ q a. f q (r ∷ a.0, a.1, ap (λ l. r ∷ l) a.2)))
