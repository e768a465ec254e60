-- The laws of the schema.
use Rattle.std.specs.Prelude.{◌≡◌, ℕ, true, cond, List, [], ◌∷◌, ◌++◌, replicate, Some, None, Option, ◌≢◌}
use Rattle.rules.specs.Bytes.{all, no_bar, Among}
use Rattle.rules.specs.Markup.{pieces_text, name_ok}
use Rattle.rules.specs.Kept.{kept}
use Rattle.rules.specs.Kinds.{fixed_text, admits}
use Rattle.rules.specs.Schema.{Row, Child, tag, needs_child}
use Rattle.rules.specs.Values.{under}
use Rattle.rules.specs.Texts.{pieces}
use Rattle.rules.specs.Grounds.{rows, complete, Begins}
use Rattle.rules.specs.declared.schema.FixedText.{FixedText}
use Rattle.rules.specs.declared.schema.Kind.TheVariants.{Fixed}
use Rattle.rules.specs.declared.schema.Node.{Node}
use Rattle.rules.specs.declared.schema.Node.TheVariants.{Comprobante, Emisor, Receptor, Conceptos, Concepto, ConceptoImpuestos, ConceptoTraslados, ConceptoTraslado, ConceptoRetenciones, ConceptoRetencion, Impuestos, Retenciones, Retencion, Traslados, Traslado}

-- no two attributes of a node have one name
abbrev pub AttributesApart : Type 0
AttributesApart =
    (k : Node) (before after : List Row) (r q : Row) → rows k ≡ before ++ r ∷ after → Among q after → r.name ≢ q.name

-- no two children that may stand under a node have one tag
abbrev pub ChildrenApart : Type 0
ChildrenApart =
    (p : Option Node) (before after : List Child) (c e : Child) → under p ≡ before ++ c ∷ after → Among e after → tag c.node ≢ tag e.node

-- a text is written without escapes, and is its own kept form
pub record AsItself (s : List ℕ) : Type 0 where
  pub unescaped : pieces_text (pieces s) ≡ s
  pub unchanged : kept s ≡ s

-- a text is a name, and is written and kept as itself
pub record NameLaw (n : List ℕ) : Type 0 where
  pub is_name : name_ok n ≡ true
  pub as_itself : AsItself n

-- a fixed text is written and kept as itself, has no '|', and is admitted by its kind
pub record FixedLaw (t : FixedText) : Type 0 where
  pub as_itself : AsItself (fixed_text t)
  pub without_bar : all no_bar (fixed_text t) ≡ true
  pub admitted_so : admits (Fixed t) (fixed_text t) ≡ true

-- this holds of each tag, each attribute's name and each fixed text
pub record NamesPlain : Type 0 where
  pub tags : (k : Node) → NameLaw (tag k)
  pub attribute_names : (k : Node) (r : Row) → Among r (rows k) → NameLaw r.name
  pub fixed_texts : (t : FixedText) → FixedLaw t

-- the nodes of some children, each as often as it must stand
abbrev pub least_of : List Child → List Node
least_of [] = []
least_of (c ∷ cs) = replicate c.least c.node ++ least_of cs

-- the first of some children, once
abbrev pub one_of : List Child → List Node
one_of [] = []
one_of (c ∷ cs) = c.node ∷ []

-- the fewest children that may stand under a node
abbrev pub fewest : Option Node → List Node
fewest None = least_of (under None)
fewest (Some k) = cond (needs_child k) (one_of (under (Some k))) (least_of (under (Some k)))

-- every beginning of a complete list of children begins an allowed list, and some list is complete
pub record Reachable (p : Option Node) : Type 0 where
  pub every_beginning : (ks more : List Node) → complete p (ks ++ more) ≡ true → Begins p ks
  pub some_complete : complete p (fewest p) ≡ true

-- this holds under every node and at the document's own level
abbrev pub ChildrenReachable : Type 0
ChildrenReachable = (p : Option Node) → Reachable p

-- the node that a node stands under; the root stands under none
abbrev pub parent : Node → Option Node
parent Comprobante = None
parent Emisor = Some Comprobante
parent Receptor = Some Comprobante
parent Conceptos = Some Comprobante
parent Concepto = Some Conceptos
parent ConceptoImpuestos = Some Concepto
parent ConceptoTraslados = Some ConceptoImpuestos
parent ConceptoTraslado = Some ConceptoTraslados
parent ConceptoRetenciones = Some ConceptoImpuestos
parent ConceptoRetencion = Some ConceptoRetenciones
parent Impuestos = Some Comprobante
parent Retenciones = Some Impuestos
parent Retencion = Some Retenciones
parent Traslados = Some Impuestos
parent Traslado = Some Traslados

-- each node is a child of its parent, and of no other; the root alone is none's
pub record OneParent : Type 0 where
  pub its_own : (k : Node) → (c : Child) × Among c (under (parent k)) × (c.node ≡ k)
  pub no_other : (p : Option Node) (c : Child) → Among c (under p) → parent c.node ≡ p
  pub root_alone : (k : Node) → parent k ≡ None → k ≡ Comprobante
