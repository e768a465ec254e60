-- What the slots of a node give to the cadena.
use Rattle.std.proofs.Common.{◌≡◌, ℕ, false, List, [], ◌∷◌, map, length, get_or, drop, None, Option, sym, ap, ◌∙◌, subst, ⊎_elim}
use Rattle.std.proofs.lemmas.Bool.{cond-false, cases_Bool}
use Rattle.rules.specs.Located.{Given}
use Rattle.rules.specs.Schema.{attributes, namespaces, is}
use Rattle.rules.specs.Texts.{own_fields}
use Rattle.rules.specs.Grounds.{rows}
use Rattle.rules.specs.declared.schema.Kind.TheVariants.{Amount}
use Rattle.rules.specs.declared.schema.Node.{Node}
use Rattle.rules.specs.declared.schema.Node.TheVariants.{Impuestos, Traslados}
use Rattle.theory.proofs.SchemaLaws.{is_same}
use Rattle.tags.specs.declared.attributes.Span.{Span}
use Rattle.reader.specs.Slots.{Filled}
use Rattle.original.specs.Joined.{text_in}
use Rattle.original.specs.Totals.{Totals, totals_of, opened_fields, opened_totals}
use Rattle.original.proofs.Rows.{kept_text, own_filled, filled_past}

-- a node of its own fields
module _ (d : List ℕ) (t : Totals) (k : Node) (gs : List Given) (ss : List (Option Span)) (x : is k Impuestos ≡ false) (y : is k Traslados ≡ false) where
  pub opened_own : Filled d (rows k) gs ss → own_fields (attributes k) (map (text_in d) (drop (length (namespaces k)) ss)) ≡ opened_fields t k gs
  opened_own f = own_filled d gs (attributes k) (drop (length (namespaces k)) ss) (filled_past d gs (namespaces k) (attributes k) ss f) ∙ sym (cond-false _ _ _ x ∙ cond-false _ _ _ y)

  pub opened_keeps : t ≡ opened_totals t k gs
  opened_keeps = sym (cond-false _ _ _ x ∙ cond-false _ _ _ y)

two_slots : (d : List ℕ) (gs : List Given) (ss : List (Option Span)) → Filled d (rows Impuestos) gs ss → (text_in d (get_or ss 0 None) ≡ (totals_of gs).retained) × (text_in d (get_or ss 1 None) ≡ (totals_of gs).transferred)
two_slots d gs [] h = absurd h
two_slots d gs (s ∷ []) h = absurd h.1
two_slots d gs (s ∷ u ∷ ss) h = (sym (kept_text d Amount s) ∙ sym h.0.kept, sym (kept_text d Amount u) ∙ sym h.1.0.kept)

-- the invoice's taxes leave their totals
pub opened_taxes : (d : List ℕ) (t : Totals) (k : Node) (gs : List Given) (ss : List (Option Span)) (a b : Option Span) → k ≡ Impuestos → Filled d (rows k) gs ss → a ≡ get_or ss 0 None → b ≡ get_or ss 1 None →
    record { retained = text_in d a; transferred = text_in d b } ≡ opened_totals t k gs
opened_taxes d t k gs ss a b z f p q =
    let (u, v) = two_slots d gs ss (subst (λ j. Filled d (rows j) gs ss) z f) in
    (λ i. record { retained = (ap (text_in d) p ∙ u) i; transferred = (ap (text_in d) q ∙ v) i }) ∙ ap (λ j. opened_totals t j gs) (sym z)

-- a node that is not this one
pub is_other : (k j : Node) → (k ≡ j → ⊥) → is k j ≡ false
is_other k j n = ⊎_elim (λ t. absurd (n (is_same k j t))) (λ f. f) (cases_Bool (is k j))
