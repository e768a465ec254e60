-- The sample invoices are lawful, and their fair copies have their values.
use Rattle.std.proofs.Common.{◌≡◌, ℕ, Bool, true, false, not, ◌&&◌, ◌||◌, leb, List, [], ◌∷◌, length, is_some, Some, None, Option, sym, refl, ap, ⊎_elim}
use lib.Utf8.{encode}
use Rattle.std.specs.Str.{chars}
use Rattle.std.proofs.lemmas.Bool.{and_parts, or_cases, not-true, both_ways, false≢true, leb-true}
use Rattle.rules.specs.Bytes.{all, same}
use Rattle.rules.specs.Kinds.{admits, keep, catalogue_of}
use Rattle.rules.specs.Schema.{Row, attributes, tag}
use Rattle.rules.specs.Values.{Values, no_nodes, node, placed}
use Rattle.rules.specs.Texts.{fair_copy}
use Rattle.rules.specs.Accounts.{rule_e}
use Rattle.rules.specs.Catalogues.{Facts, ruled}
use Rattle.rules.specs.Grounds.{root_rule, decimals}
use Rattle.rules.specs.Examples.{invoice, plain, with_serie, with_folio, with_point}
use Rattle.theory.specs.FairCopy.{Passes}
use Rattle.rules.specs.declared.schema.Catalogue.{Catalogue}
use Rattle.rules.specs.declared.schema.Node.{Node}
use Rattle.theory.proofs.Lists.{Each, all_among}
use Rattle.theory.proofs.Rules.{every_rule, rule_listed}
use Rattle.theory.proofs.Bytes.{same_is}
use Rattle.theory.proofs.ReadBack.{Whole, Conforms, Fits, roots, copy, copy_ok, copy_reads}
use Rattle.theory.proofs.LawfulNodes.{SlotOk, InCatalogue}
use Rattle.theory.proofs.LawfulTree.{Grows}
use Rattle.theory.proofs.CopyNodes.{SlotsOk}
use Rattle.theory.proofs.CopyTree.{KeepsE, Admitted, transfer}
use Rattle.theory.proofs.Spells.{spells, spells_true}
use Rattle.theory.proofs.SpelledCopy.{ValuesSpelled, SlotSpelled}
use Rattle.theory.proofs.LawfulValues.{lawful_from}

-- values that keep the rules, computed
abbrev known : Facts → Option Catalogue → List ℕ → Bool
known facts None x = true
known facts (Some c) x = is_some (facts c x)

-- a slot that keeps the rules of its row
abbrev slot_fine : Facts → Row → Option (List ℕ) → Bool
slot_fine facts r None = not r.required
slot_fine facts r (Some x) = spells x && (admits r.kind x && (known facts (catalogue_of r.kind) x && same (keep r.kind x) x))

-- the same of each slot of a node
abbrev slots_fine : Facts → List Row → List (Option (List ℕ)) → Bool
slots_fine facts [] [] = true
slots_fine facts [] (o ∷ s) = false
slots_fine facts (r ∷ rs) [] = false
slots_fine facts (r ∷ rs) (o ∷ s) = slot_fine facts r o && slots_fine facts rs s

-- the same of each node
abbrev fine : Facts → Values → Bool
fine facts no_nodes = true
fine facts (node k s inside rest) = slots_fine facts (attributes k) s && ((not (transfer k) || rule_e k s) && (fine facts inside && fine facts rest))

known_in : (facts : Facts) (o : Option Catalogue) (x : List ℕ) → known facts o x ≡ true → InCatalogue facts o x
known_in facts None x h = tt
known_in facts (Some c) x h = λ e. both_ways (is_some (facts c x)) (ap is_some e) h

slot_from : (facts : Facts) (r : Row) (o : Option (List ℕ)) → slot_fine facts r o ≡ true → SlotOk facts r o × SlotSpelled o
slot_from facts r None h = (not-true _ h, tt)
slot_from facts r (Some x) h =
    let (a, h₁) = and_parts (spells x) _ h in
    let (b, h₂) = and_parts (admits r.kind x) _ h₁ in
    let (c, d) = and_parts (known facts (catalogue_of r.kind) x) _ h₂ in
    ((b, known_in facts (catalogue_of r.kind) x c, same_is _ _ d), spells_true x a)

slots_from : (facts : Facts) (rs : List Row) (s : List (Option (List ℕ))) → slots_fine facts rs s ≡ true → SlotsOk facts rs s × Each SlotSpelled s
slots_from facts [] [] h = (tt, tt)
slots_from facts [] (o ∷ s) h = absurd (false≢true h)
slots_from facts (r ∷ rs) [] h = absurd (false≢true h)
slots_from facts (r ∷ rs) (o ∷ s) h =
    let (a, b) = and_parts (slot_fine facts r o) _ h in
    let (x, y) = slot_from facts r o a in
    let (z, w) = slots_from facts rs s b in
    ((x, z), (y, w))

fine_from : (facts : Facts) (v : Values) → fine facts v ≡ true → Admitted facts KeepsE v × ValuesSpelled v
fine_from facts no_nodes h = (tt, tt)
fine_from facts (node k s inside rest) h =
    let (a, h₁) = and_parts (slots_fine facts (attributes k) s) _ h in
    let (b, h₂) = and_parts (not (transfer k) || rule_e k s) _ h₁ in
    let (c, d) = and_parts (fine facts inside) _ h₂ in
    let (x, y) = slots_from facts (attributes k) s a in
    let (p, q) = fine_from facts inside c in
    let (u, w) = fine_from facts rest d in
    ((x, (λ t. ⊎_elim (λ n. absurd (both_ways (transfer k) (not-true _ n) t)) (λ e. e) (or_cases _ _ b)), p, u), (y, q, w))

fits_from : (facts : Facts) (rs : List Row) (s : List (Option (List ℕ))) → SlotsOk facts rs s → Fits rs s
fits_from facts [] [] h = tt
fits_from facts [] (o ∷ s) h = h
fits_from facts (r ∷ rs) [] h = h
fits_from facts (r ∷ rs) (None ∷ s) h = fits_from facts rs s h.1
fits_from facts (r ∷ rs) (Some x ∷ s) h = (h.0.2, fits_from facts rs s h.1)

-- each node stands in its place
abbrev Placed : Option Node → Values → Type 0
Placed p no_nodes = Unit {0}
Placed p (node k s inside rest) = (placed p (tag k) ≡ Some k) × Placed (Some k) inside × Placed p rest

conforms_from : (facts : Facts) (v : Values) (p : Option Node) → Placed p v → Admitted facts KeepsE v → Conforms p v
conforms_from facts no_nodes p h a = tt
conforms_from facts (node k s inside rest) p h a = (h.0, fits_from facts (attributes k) s a.0, conforms_from facts inside (Some k) h.1 a.2, conforms_from facts rest p h.2 a.3)

-- the account rules hold
abbrev rules_kept : Facts → Values → Bool
rules_kept facts v = all (λ r. root_rule r (decimals facts v) v) every_rule

passes_from : (v : Values) → (fine ruled v && (rules_kept ruled v && leb (length (fair_copy v)) 65536)) ≡ true → roots v ≡ 1 → Placed None v → Grows None [] v → Passes v
passes_from v h o p g =
    let (a, h₁) = and_parts (fine ruled v) _ h in
    let (b, c) = and_parts (rules_kept ruled v) _ h₁ in
    let (x, y) = fine_from ruled v a in
    let w : Whole v = record { one = o; conforms = conforms_from ruled v None p x } in
    record {
      passes = lawful_from ruled v (record { good = record { whole = w; grows = g; admitted = x; spelled = y; short = leb-true _ _ c }; rules = λ r. all_among (λ q. root_rule q (decimals ruled v) v) every_rule r b (rule_listed r) });
      reads_back = (copy v, (copy_ok v w, refl), sym (copy_reads v w));
    }

module _ (serie folio : Option (List ℕ)) (total : List ℕ) where
  -- one of the sample invoices
  abbrev v : Values
  v = invoice serie folio total

  invoice_passes : (fine ruled v && (rules_kept ruled v && leb (length (fair_copy v)) 65536)) ≡ true → Passes v
  invoice_passes h = passes_from v h refl (refl, (refl, tt, (refl, tt, (refl, (refl, tt, tt), tt))), tt) (refl, (refl, (refl, tt, (refl, tt, (refl, (refl, tt, tt), tt))), tt))

pub plain_passes : Passes plain
unfolding encode chars
plain_passes = invoice_passes _ _ _ refl

pub serie_passes : Passes with_serie
unfolding encode chars
serie_passes = invoice_passes _ _ _ refl

pub folio_passes : Passes with_folio
unfolding encode chars
folio_passes = invoice_passes _ _ _ refl

pub point_passes : Passes with_point
unfolding encode chars
point_passes = invoice_passes _ _ _ refl
