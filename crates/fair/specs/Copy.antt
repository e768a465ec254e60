-- What each thing that is met in a document gives to its fair copy.
use Rattle.std.specs.Prelude.{ℕ, ◌<◌, Bool, false, cond, List, [], ◌∷◌, ◌++◌}
use Rattle.rules.specs.Bytes.{Among}
use Rattle.rules.specs.Grounds.{Standing, standing, NamesFault}
use Rattle.rules.specs.Located.{Given, elements_of}
use Rattle.rules.specs.Markup.{Document, tag_text}
use Rattle.rules.specs.Schema.{attributes, tag}
use Rattle.rules.specs.Texts.{fair_tag}
use Rattle.rules.specs.Values.{slots}
use Rattle.rules.specs.declared.grounds.Fault.{Fault}
use Rattle.rules.specs.declared.schema.Node.{Node}
use Rattle.reader.specs.Slots.{standing_of}
use Rattle.walk.specs.Events.{Occurrence, opened, closed}

-- the names of a node's attributes are lawful
abbrev pub WellNamed : Standing → Type 0
WellNamed s = (f : Fault) → NamesFault s f → ⊥

-- the names of the attributes of each node are lawful
abbrev pub AllNamed : Document → Type 0
AllNamed m = (s : Standing) → Among s (standing (elements_of m)) → WellNamed s

-- the start tag of a node, which is its only tag where it is childless
abbrev pub start_text : Node → List Given → Bool → List ℕ
start_text k gs childless = tag_text (fair_tag k (slots (attributes k) gs)) ++ cond childless (47 ∷ 62 ∷ []) (62 ∷ [])

-- the end tag of a node
abbrev pub end_text : Node → List ℕ
end_text k = 60 ∷ 47 ∷ tag k ++ 62 ∷ []

-- what is written where a node is opened or closed; a node that was childless has no end tag
abbrev pub occurrence_text : Bool → Occurrence → List ℕ
occurrence_text childless (opened s) = start_text s.node s.givens s.childless
occurrence_text childless (closed k) = cond childless [] (end_text k)

-- a childless node is opened
abbrev pub opens_childless : Occurrence → Bool
opens_childless (opened s) = s.childless
opens_childless (closed k) = false

-- what is written of what is met, where a childless node was opened last or not
abbrev pub copy : Bool → List Occurrence → List ℕ
copy childless [] = []
copy childless (o ∷ os) = occurrence_text childless o ++ copy (opens_childless o) os

-- the attributes of a node that is opened follow its place, and their names are lawful
abbrev pub Fine : Occurrence → Type 0
Fine (opened s) = (s.place < s.attributes) × WellNamed (standing_of s.node s.place s.givens)
Fine (closed k) = Unit {0}
