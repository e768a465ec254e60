-- The values of a document: its tree of nodes and, at each, the attributes present with their kept forms.
use Rattle.std.specs.Prelude.{ℕ, cond, List, [], ◌∷◌, ◌++◌, Some, None, Option}
use Rattle.rules.specs.Bytes.{same}
use Rattle.rules.specs.Kinds.{keep}
use Rattle.rules.specs.Schema.{Row, Child, child, attributes, children, tag, is}
use Rattle.rules.specs.Located.{Given, Elements, none, element}
use Rattle.rules.specs.declared.schema.Node.{Node}
use Rattle.rules.specs.declared.schema.Node.TheVariants.{Comprobante}

-- nodes side by side: each with the kept forms of its attributes in table order, what is inside it, and what follows it
pub data Values : Type 0 where
  no_nodes : Values
  node : Node → List (Option (List ℕ)) → Values → Values → Values

-- the kept form of the attribute that a row names, if it is given
abbrev pub kept_of : Row → List Given → Option (List ℕ)
kept_of r [] = None
kept_of r (g ∷ gs) = cond (same r.name g.name) (Some (keep r.kind g.value)) (kept_of r gs)

-- the kept forms of a node's attributes, one slot for each row
abbrev pub slots : List Row → List Given → List (Option (List ℕ))
slots [] gs = []
slots (r ∷ rs) gs = kept_of r gs ∷ slots rs gs

-- which of some children carries a name
abbrev pub named : List Child → List ℕ → Option Node
named [] n = None
named (c ∷ cs) n = cond (same (tag c.node) n) (Some c.node) (named cs n)

-- the children that may stand under a node; the document's own level is None, and has one root
abbrev pub under : Option Node → List Child
under None = child Comprobante 1 1 ∷ []
under (Some k) = children k

-- the node that a name means under p
abbrev pub placed : Option Node → List ℕ → Option Node
placed p n = named (under p) n

-- a node, if there is one, before those that follow
abbrev pub with_node : Option Node → List Given → (Node → Values) → Values → Values
with_node None gs inside more = more
with_node (Some k) gs inside more = node k (slots (attributes k) gs) (inside k) more

-- the values of the elements that stand under p
abbrev pub values_under : Option Node → Elements → Values
values_under p none = no_nodes
values_under p (element n i gs inside e rest) = with_node (placed p n) gs (λ k. values_under (Some k) inside) (values_under p rest)

-- the values of a document's elements
abbrev pub values_of : Elements → Values
values_of es = values_under None es

-- the slots of each node of one kind, in document order
abbrev pub all_of : Node → Values → List (List (Option (List ℕ)))
all_of k no_nodes = []
all_of k (node j s inside rest) = cond (is j k) (s ∷ []) [] ++ all_of k inside ++ all_of k rest

-- the slot of the row that has a name
abbrev pub field_in : List Row → List ℕ → List (Option (List ℕ)) → Option (List ℕ)
field_in [] n s = None
field_in (r ∷ rs) n [] = None
field_in (r ∷ rs) n (v ∷ vs) = cond (same r.name n) v (field_in rs n vs)

-- the kept form of a node's attribute by its name
abbrev pub field : Node → List ℕ → List (Option (List ℕ)) → Option (List ℕ)
field k n s = field_in (attributes k) n s
