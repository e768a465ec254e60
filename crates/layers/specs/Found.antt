-- What names and values find in a document, and what values find at one attribute.
use Rattle.std.specs.Prelude.{◌≡◌, ℕ, true, false, List, Some, None, Option}
use Rattle.rules.specs.Kept.{resolved}
use Rattle.rules.specs.Kinds.{keep, admitted, catalogue_of}
use Rattle.rules.specs.Schema.{Row}
use Rattle.rules.specs.Catalogues.{Facts}
use Rattle.rules.specs.Located.{Given, elements_of}
use Rattle.rules.specs.Markup.{Document}
use Rattle.rules.specs.Grounds.{rows, row_of, standing, NamesFault, ValuesFault}
use Rattle.rules.specs.declared.grounds.Fault.{Fault}
use Rattle.rules.specs.declared.grounds.Fault.TheVariants.{NotAdmitted, NotInCatalogue}
use Rattle.rules.specs.declared.schema.Catalogue.{Catalogue}
use Rattle.rules.specs.declared.schema.Kind.{Kind}
use Rattle.rules.specs.declared.schema.Node.{Node}
use Rattle.theory.specs.Grounds.{Some_of}
use Rattle.values.specs.declared.judgement.ValueFault.{ValueFault}
use Rattle.values.specs.declared.judgement.ValueFault.TheVariants as why
use Rattle.tags.specs.Spans.{part}
use Rattle.tags.specs.declared.attributes.AttributeSpan.{AttributeSpan}

-- a fault of names at some node of a document
abbrev pub NamesFound : Document → Fault → Type 0
NamesFound m = Some_of NamesFault (standing (elements_of m))

-- a fault of values at some node of a document
abbrev pub ValuesFound : Facts → Document → Fault → Type 0
ValuesFound facts m = Some_of (ValuesFault facts) (standing (elements_of m))

-- the kind of a row, if there is one
abbrev pub kind_in : Option Row → Option Kind
kind_in None = None
kind_in (Some r) = Some r.kind

-- the kind that the attribute of a name has
abbrev pub kind_named : List Row → List ℕ → Option Kind
kind_named rs n = kind_in (row_of rs n)

-- the attribute that stands in a document where some spans say
abbrev pub given_in : List ℕ → AttributeSpan → Given
given_in d a = record { name = part d a.name; name_at = a.name.start; value = resolved (part d a.value); value_at = a.value.start }

-- at one attribute of a node: its kind does not admit its value, or admits it and the catalogue does not have it
pub data ValueFinds (facts : Facts) (k : Node) (g : Given) : Fault → Type 0 where
  unadmitted : (q : Kind) → kind_named (rows k) g.name ≡ Some q → admitted q g.value ≡ false → ValueFinds facts k g (NotAdmitted g.value_at)
  unlisted : (q : Kind) (c : Catalogue) → kind_named (rows k) g.name ≡ Some q → admitted q g.value ≡ true → catalogue_of q ≡ Some c → facts c (keep q g.value) ≡ None →
      ValueFinds facts k g (NotInCatalogue g.value_at)

-- the fault of a value that begins at a place
abbrev pub fault_at : ValueFault → ℕ → Fault
fault_at why.NotAdmitted p = NotAdmitted p
fault_at (why.NotInCatalogue f) p = NotInCatalogue p
