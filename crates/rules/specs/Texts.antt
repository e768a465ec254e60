-- The cadena original and the fair copy of values.
use Rattle.std.specs.Prelude.{ℕ, Bool, true, cond, List, [], ◌∷◌, ◌++◌, Some, None, codes, Option, ◌==◌}
use Rattle.rules.specs.Kinds.{fixed_text}
use Rattle.rules.specs.Markup.{Piece, plain, escaped, amp, lt, gt, quot, apos, double, Attribute, Tag, Content, end, empty, full, text}
use Rattle.rules.specs.Schema.{Row, attributes, namespaces, tag, is}
use Rattle.rules.specs.Values.{Values, no_nodes, node, field}
use Rattle.rules.specs.declared.schema.Kind.{Kind}
use Rattle.rules.specs.declared.schema.Kind.TheVariants.{Fixed, Text, Amount, Positive, DateTime, Digits, Mark, Rfc, Seal, Code}
use Rattle.rules.specs.declared.schema.Node.{Node}
use Rattle.rules.specs.declared.schema.Node.TheVariants.{Impuestos, Retenciones, Traslados}

-- a kept form is a field of the cadena where its row is part of it; an absent attribute leaves no mark
abbrev pub field_if : Bool → Option (List ℕ) → List (List ℕ)
field_if b None = []
field_if b (Some v) = cond b (v ∷ []) []

-- the fields that a node's own attributes give, in table order
abbrev pub own_fields : List Row → List (Option (List ℕ)) → List (List ℕ)
own_fields [] s = []
own_fields (r ∷ rs) [] = []
own_fields (r ∷ rs) (v ∷ vs) = field_if r.in_cadena v ++ own_fields rs vs

-- the parts of what a node gives to the cadena
pub data Part : Type 0 where
  own_attributes : Part
  all_children : Part
  attribute : List ℕ → Part
  children_of : Node → Part

-- its attributes, then its children; but in the invoice's own taxes each total follows the taxes that it adds up
abbrev pub parts : Node → List Part
parts k =
    cond (is k Impuestos)
    (children_of Retenciones
    ∷ attribute (codes "TotalImpuestosRetenidos")
    ∷ children_of Traslados
    ∷ attribute (codes "TotalImpuestosTrasladados")
    ∷ [])
    (own_attributes ∷ all_children ∷ [])

-- the fields of a node's parts, where its children give inside
abbrev pub part_fields : Node → List (Option (List ℕ)) → ((Node → Bool) → List (List ℕ)) → List Part → List (List ℕ)
part_fields k s inside [] = []
part_fields k s inside (own_attributes ∷ more) = own_fields (attributes k) s ++ part_fields k s inside more
part_fields k s inside (all_children ∷ more) = inside (λ j. true) ++ part_fields k s inside more
part_fields k s inside (attribute n ∷ more) = field_if true (field k n s) ++ part_fields k s inside more
part_fields k s inside (children_of j ∷ more) = inside (λ i. is i j) ++ part_fields k s inside more

-- the fields of the nodes that pass a test, in order
abbrev pub fields : (Node → Bool) → Values → List (List ℕ)
fields p no_nodes = []
fields p (node k s inside rest) = cond (p k) (part_fields k s (λ q. fields q inside) (parts k)) [] ++ fields p rest

-- fields with '|' between them
abbrev pub joined : List (List ℕ) → List ℕ
joined [] = []
joined (x ∷ []) = x
joined (x ∷ y ∷ more) = x ++ 124 ∷ joined (y ∷ more)

-- the cadena: '||', the fields joined by '|', '||'
abbrev pub cadena : Values → List ℕ
cadena v = 124 ∷ 124 ∷ joined (fields (λ k. true) v) ++ 124 ∷ 124 ∷ []

-- a byte as it is written in a value: the five characters by their escapes
abbrev pub piece : ℕ → Piece
piece b =
    cond (b == 38) (escaped amp)
    (cond (b == 60) (escaped lt)
    (cond (b == 62) (escaped gt)
    (cond (b == 34) (escaped quot)
    (cond (b == 39) (escaped apos)
    (plain b)))))

-- a text as it is written in a value
abbrev pub pieces : List ℕ → List Piece
pieces [] = []
pieces (b ∷ bs) = piece b ∷ pieces bs

-- an attribute of the fair copy: one space before it, double quotes, no other blanks
abbrev pub fair_attribute : List ℕ → List ℕ → Attribute
fair_attribute n v = record { before = 32 ∷ []; name = n; left = []; right = []; quote = double; value = pieces v }

-- the attributes present, in table order
abbrev pub fair_attributes : List Row → List (Option (List ℕ)) → List Attribute
fair_attributes [] s = []
fair_attributes (r ∷ rs) [] = []
fair_attributes (r ∷ rs) (None ∷ s) = fair_attributes rs s
fair_attributes (r ∷ rs) (Some v ∷ s) = fair_attribute r.name v ∷ fair_attributes rs s

-- the text that a kind fixes
abbrev pub only_text : Kind → List ℕ
only_text (Fixed t) = fixed_text t
only_text (Text n) = []
only_text Amount = []
only_text Positive = []
only_text DateTime = []
only_text (Digits n) = []
only_text Mark = []
only_text Rfc = []
only_text Seal = []
only_text (Code c) = []

-- the attributes whose text is fixed
abbrev pub fixed_attributes : List Row → List Attribute
fixed_attributes [] = []
fixed_attributes (r ∷ rs) = fair_attribute r.name (only_text r.kind) ∷ fixed_attributes rs

-- a node's tag: the namespaces first, then its attributes
abbrev pub fair_tag : Node → List (Option (List ℕ)) → Tag
fair_tag k s = record { name = tag k; attributes = fixed_attributes (namespaces k) ++ fair_attributes (attributes k) s; gap = [] }

-- one tag for a childless node, else a pair of tags
abbrev pub enclosed : Tag → Values → Content → Content → Content
enclosed t no_nodes inside after = empty [] t after
enclosed t (node k s i r) inside after = full [] t inside [] after

-- the markup of the fair copy: no blanks but one before each attribute, double quotes, one tag for a childless node
abbrev pub fair : Values → Content
fair no_nodes = end []
fair (node k s inside rest) = enclosed (fair_tag k s) inside (fair inside) (fair rest)

-- the fair copy of values, without a declaration
abbrev pub fair_copy : Values → List ℕ
fair_copy v = text (fair v)
