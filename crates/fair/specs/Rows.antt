-- The values that the fair copy has for the rows of a node.
use Rattle.std.specs.Prelude.{ℕ, List, [], ◌∷◌, Some, None, Option}
use Rattle.std.specs.Option.{option_or, option_map}
use Rattle.rules.specs.Kept.{resolved}
use Rattle.rules.specs.Kinds.{fixed_text, keep}
use Rattle.rules.specs.Markup.{attribute_text}
use Rattle.rules.specs.Schema.{Row}
use Rattle.rules.specs.Texts.{fair_attribute}
use Rattle.rules.specs.declared.schema.FixedText.{FixedText}
use Rattle.rules.specs.declared.schema.FixedText.TheVariants.{Version, CfdiNamespace, XsiNamespace, SchemaLocation}
use Rattle.rules.specs.declared.schema.Kind.{Kind}
use Rattle.rules.specs.declared.schema.Kind.TheVariants.{Fixed, Text, Amount, Positive, DateTime, Digits, Mark, Rfc, Seal, Code}
use Rattle.reader.specs.Slots.{kept_in}
use Rattle.tags.specs.declared.attributes.Span.{Span}

-- every fixed text but the version fixes a namespace
abbrev pub fixes : FixedText → Option (List ℕ)
fixes Version = None
fixes CfdiNamespace = Some (fixed_text CfdiNamespace)
fixes XsiNamespace = Some (fixed_text XsiNamespace)
fixes SchemaLocation = Some (fixed_text SchemaLocation)

-- the text of the namespace that a kind fixes
abbrev pub namespace_text : Kind → Option (List ℕ)
namespace_text (Fixed t) = fixes t
namespace_text (Text n) = None
namespace_text Amount = None
namespace_text Positive = None
namespace_text DateTime = None
namespace_text (Digits n) = None
namespace_text Mark = None
namespace_text Rfc = None
namespace_text Seal = None
namespace_text (Code c) = None

-- a row has the text of its namespace, or the kept form of what its slot holds
abbrev pub row_value : List ℕ → Row → Option Span → Option (List ℕ)
row_value d r s = option_or (namespace_text r.kind) (kept_in d r.kind s)

-- a row has the text of its namespace, or the kept form of the raw value that it is given
abbrev pub given_value : Row → Option (List ℕ) → Option (List ℕ)
given_value r raw = option_or (namespace_text r.kind) (option_map (λ t. keep r.kind (resolved t)) raw)

-- the values of rows, each by its slot, if it has one
abbrev pub row_values : List ℕ → List Row → List (Option Span) → List (Option (List ℕ))
row_values d [] ss = []
row_values d (r ∷ rs) [] = row_value d r None ∷ row_values d rs []
row_values d (r ∷ rs) (s ∷ ss) = row_value d r s ∷ row_values d rs ss

-- how a row is written, if it has a value
abbrev pub row_text : Row → Option (List ℕ) → List ℕ
row_text r None = []
row_text r (Some v) = attribute_text (fair_attribute r.name v)
