-- What is still to come of a document from a place in it.
use Rattle.std.specs.Prelude.{◌≡◌, ℕ, ◌+◌, ◌-◌, Bool, true, false, ◌&&◌, ◌||◌, List, [], ◌∷◌, ◌++◌, length, drop, ◌<◌, ◌≤◌, Some, None, Option, IfSome, MatchOption, ◌==◌}
use Rattle.rules.specs.Bytes.{all}
use Rattle.rules.specs.Markup.{Content, content_ok, text, Document}
use Rattle.rules.specs.Located.{Elements, none, element, located, elements_of}
use Rattle.rules.specs.Values.{placed}
use Rattle.rules.specs.Grounds.{TreeFault}
use Rattle.rules.specs.declared.grounds.Fault.{Fault}
use Rattle.rules.specs.declared.schema.Node.{Node}
use Rattle.theory.specs.On.{content_on}
use Rattle.theory.specs.Schema.{parent}
use Rattle.tags.specs.Scan.{ended}
use Rattle.byte_classes.specs.Runs.{other}
use Rattle.walk.specs.Events.{Occurrence, closed, met_under, told, Found}
use Rattle.walk.specs.declared.event.Event.{Event}
use Rattle.walk.specs.declared.cursor.Walk.{Walk}

-- every element under p has a node
abbrev pub Placed : Option Node → Elements → Type 0
Placed p none = Unit {0}
Placed p (element n i gs inside e rest) = (k : Node) × (placed p n ≡ Some k) × Placed (Some k) inside × Placed p rest

-- what ends an element, up to its '>': the '/' of its own tag, or an end tag
abbrev pub ending : List ℕ → Bool
ending [] = false
ending (b ∷ []) = b == 47
ending (b ∷ c ∷ r) = b == 47 || (b == 60 && c == 47)

-- what follows the content of p, which ends at a place, and what is met there
pub data Follows : Option Node → ℕ → List ℕ → List Occurrence → Type 0 where
  -- the document ends
  nothing : {p : Option Node} {stop : ℕ} {rest : List ℕ} {os : List Occurrence} → p ≡ None → rest ≡ [] → os ≡ [] → Follows p stop rest os
  -- the node k ends, and content of its parent q follows from a place on
  ends : {p : Option Node} {stop : ℕ} {rest : List ℕ} {os : List Occurrence} (k : Node) (q : Option Node) (shut : List ℕ) (depth place : ℕ) (c : Content) (after : List ℕ) (more : List Occurrence) →
      p ≡ Some k → parent k ≡ q → ending shut ≡ true → all (other 62) shut ≡ true → content_ok depth c ≡ true → rest ≡ shut ++ 62 ∷ content_on c after →
      place ≡ stop + length shut + 1 → Placed q (located place c) → os ≡ closed k ∷ met_under q (located place c) more →
      Follows q (place + length (text c)) after more → Follows p stop rest os

-- from a place in the content of p on, this is still to be met
pub record Coming (d : List ℕ) (at : ℕ) (p : Option Node) (os : List Occurrence) : Type 0 where
  pub depth : ℕ
  pub content : Content
  pub rest : List ℕ
  pub more : List Occurrence
  pub good : content_ok depth content ≡ true
  pub shown : drop at d ≡ content_on content rest
  pub nodes : Placed p (located at content)
  pub are : os ≡ met_under p (located at content) more
  pub follows : Follows p (at + length (text content)) rest more

-- no element begins with these bytes: an element or the document ends
abbrev pub shuts : List ℕ → Bool
shuts [] = true
shuts (b ∷ bs) = b == 47 || ended (b ∷ bs)

-- what a walk is still to meet
abbrev pub Comes : Walk → List Occurrence → Type 0
Comes w os = Coming w.document.now w.at w.«open» os

-- a walk meets the first of what is to come, if there is any, and then the others
abbrev pub Gives : List Occurrence → List ℕ → Option Event → Walk → Type 0
Gives [] d r w = (r ≡ None) × Comes w []
Gives (o ∷ os) d r w = (r ≡ Some (told o)) × Found d o × Comes w os

-- how many bytes a walk has before it
abbrev pub left : Walk → ℕ
left w = length w.document.now - w.at

-- one call: the walk stays over its document, goes on within it and has less of it before it where it meets anything and else does not move,
-- and meets the first of what was to come
pub record Meets (old : Walk) (r : Option Event) (new : Walk) : Type 0 where
  pub same : new.document.now ≡ old.document.now
  pub falls : MatchOption r (new ≡ old) (λ _. left new < left old)
  pub within : IfSome r (λ _. (old.at < new.at) × (new.at ≤ length new.document.now))
  pub gives : (os : List Occurrence) → Comes old os → Gives os old.document.now r new

-- no node is misplaced or unfinished
abbrev pub InOrder : List ℕ → Document → Type 0
InOrder d m = (f : Fault) → TreeFault None [] (length d) (elements_of m) f → ⊥
