-- What is met in a document, in document order: a node is opened, then what is inside it, then it is closed.
use Rattle.std.specs.Prelude.{◌≡◌, ℕ, ◌+◌, Bool, true, false, List, [], ◌∷◌, ◌++◌, length, drop, Some, None, Option}
use Rattle.rules.specs.Bytes.{blank, all}
use Rattle.rules.specs.Markup.{Attribute, attribute_ok, Document}
use Rattle.rules.specs.Located.{Given, givens, Elements, none, element, elements_of}
use Rattle.rules.specs.Values.{placed}
use Rattle.rules.specs.Grounds.{Standing, standing}
use Rattle.rules.specs.declared.schema.Node.{Node}
use Rattle.theory.specs.On.{attributes_on, closes}
use Rattle.walk.specs.declared.event.Event.{Event}
use Rattle.walk.specs.declared.event.Event.TheVariants.{Opened, Closed}

-- a node that is opened: the place of its '<', where its attributes begin, its attributes as given, and whether no element stands inside it
pub record Start : Type 0 where
  pub node : Node
  pub place : ℕ
  pub attributes : ℕ
  pub givens : List Given
  pub childless : Bool

-- what is met: a node that is opened, or one that is closed
pub data Occurrence : Type 0 where
  opened : Start → Occurrence
  closed : Node → Occurrence

-- no element stands there
abbrev pub no_element : Elements → Bool
no_element none = true
no_element (element n i gs inside e rest) = false

-- the start of a node whose name is n, whose '<' stands at i, and which has these attributes and elements
abbrev pub start : Node → List ℕ → ℕ → List Given → Elements → Start
start k n i gs inside = record { node = k; place = i; attributes = i + 1 + length n; givens = gs; childless = no_element inside }

-- what is met at a node, if there is one, before more
abbrev pub met_at : Option Node → (Node → List Occurrence) → List Occurrence → List Occurrence
met_at None here more = more
met_at (Some k) here more = here k

-- what is met in the elements under p, and then more
abbrev pub met_under : Option Node → Elements → List Occurrence → List Occurrence
met_under p none more = more
met_under p (element n i gs inside e rest) more =
    met_at (placed p n) (λ k. opened (start k n i gs inside) ∷ met_under (Some k) inside (closed k ∷ met_under p rest more)) (met_under p rest more)

-- what is met in a document
abbrev pub met : Document → List Occurrence
met m = met_under None (elements_of m) []

-- the event that tells of what is met
abbrev pub told : Occurrence → Event
told (opened s) = Opened (record { node = s.node; place = s.place; attributes = s.attributes; childless = s.childless })
told (closed k) = Closed k

-- attributes that stand in a tag from a place on, up to its end
pub record Tagged (d : List ℕ) (at : ℕ) (gs : List Given) : Type 0 where
  pub list : List Attribute
  pub gap : List ℕ
  pub more : List ℕ
  pub good : all attribute_ok list ≡ true
  pub blanks : all blank gap ≡ true
  pub shut : closes more ≡ true
  pub shown : drop at d ≡ attributes_on list (gap ++ more)
  pub are : gs ≡ givens at list

-- the attributes of what is met stand where it says
abbrev pub Found : List ℕ → Occurrence → Type 0
Found d (opened s) = Tagged d s.attributes s.givens
Found d (closed k) = Unit {0}

-- the nodes that are opened, with their places and attributes
abbrev pub standings : List Occurrence → List Standing
standings [] = []
standings (opened s ∷ os) = record { kind = s.node; at = s.place; givens = s.givens } ∷ standings os
standings (closed k ∷ os) = standings os

-- the nodes that are opened are those that stand in the document, each once and in its order
abbrev pub OpensEachNode : Type 0
OpensEachNode = (m : Document) → standings (met m) ≡ standing (elements_of m)
