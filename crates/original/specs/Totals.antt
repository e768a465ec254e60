-- The fields that each node met gives, where each total of the invoice's taxes follows the taxes that it adds up.
use Rattle.std.specs.Prelude.{ℕ, ◌<◌, true, cond, List, [], ◌++◌, None, codes, Option}
use Rattle.rules.specs.Schema.{attributes, is}
use Rattle.rules.specs.Located.{Given}
use Rattle.rules.specs.Values.{slots, field}
use Rattle.rules.specs.Texts.{field_if, own_fields}
use Rattle.rules.specs.Grounds.{NamesFault}
use Rattle.rules.specs.declared.grounds.Fault.{Fault}
use Rattle.rules.specs.declared.schema.Node.{Node}
use Rattle.rules.specs.declared.schema.Node.TheVariants.{Impuestos, Traslados}
use Rattle.reader.specs.Slots.{standing_of}
use Rattle.walk.specs.Events.{Occurrence, opened, closed, Tagged}

-- the totals of the invoice's taxes that are still to be written
pub record Totals : Type 0 where
  pub retained : Option (List ℕ)
  pub transferred : Option (List ℕ)

-- no total is to be written
abbrev pub no_totals : Totals
no_totals = record { retained = None; transferred = None }

-- the totals that the invoice's Impuestos gives
abbrev pub totals_of : List Given → Totals
totals_of gs = record {
  retained = field Impuestos (codes "TotalImpuestosRetenidos") (slots (attributes Impuestos) gs);
  transferred = field Impuestos (codes "TotalImpuestosTrasladados") (slots (attributes Impuestos) gs);
}

-- the fields where a node is opened: none of Impuestos, the total of the retained taxes before Traslados, else the node's own
abbrev pub opened_fields : Totals → Node → List Given → List (List ℕ)
opened_fields t k gs = cond (is k Impuestos) [] (cond (is k Traslados) (field_if true t.retained) (own_fields (attributes k) (slots (attributes k) gs)))

-- the totals that are left then
abbrev pub opened_totals : Totals → Node → List Given → Totals
opened_totals t k gs = cond (is k Impuestos) (totals_of gs) (cond (is k Traslados) (record { retained = None; transferred = t.transferred }) t)

-- the fields where a node is closed: the totals that are left, where it is Impuestos
abbrev pub closed_fields : Totals → Node → List (List ℕ)
closed_fields t k = cond (is k Impuestos) (field_if true t.retained ++ field_if true t.transferred) []

-- the totals that are left then
abbrev pub closed_totals : Totals → Node → Totals
closed_totals t k = cond (is k Impuestos) no_totals t

-- the fields of what is met
abbrev pub met_fields : Totals → Occurrence → List (List ℕ)
met_fields t (opened s) = opened_fields t s.node s.givens
met_fields t (closed k) = closed_fields t k

-- the totals that are left after it
abbrev pub met_totals : Totals → Occurrence → Totals
met_totals t (opened s) = opened_totals t s.node s.givens
met_totals t (closed k) = closed_totals t k

-- a node whose attributes stand after its '<' and have no fault in their names
pub record Sound (d : List ℕ) (k : Node) (place at : ℕ) (gs : List Given) : Type 0 where
  pub tagged : Tagged d at gs
  pub after : place < at
  pub named : (f : Fault) → NamesFault (standing_of k place gs) f → ⊥

-- what is met is sound
abbrev pub SoundAt : List ℕ → Occurrence → Type 0
SoundAt d (opened s) = Sound d s.node s.place s.attributes s.givens
SoundAt d (closed k) = Unit {0}
