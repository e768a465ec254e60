-- What the slots of a node hold of the attributes that its tag gives.
use Rattle.std.specs.Prelude.{◌≡◌, ℕ, ◌<◌, ◌≤◌, cond, List, [], ◌∷◌, length, Some, None, Option}
use Rattle.std.specs.Borrow.{Bor}
use Rattle.rules.specs.Bytes.{same}
use Rattle.rules.specs.Kept.{resolved}
use Rattle.rules.specs.Kinds.{keep}
use Rattle.rules.specs.Schema.{Row}
use Rattle.rules.specs.Located.{Given}
use Rattle.rules.specs.Values.{kept_of}
use Rattle.rules.specs.Grounds.{Standing}
use Rattle.rules.specs.declared.schema.Kind.{Kind}
use Rattle.rules.specs.declared.schema.Node.{Node}
use Rattle.tags.specs.Spans.{part}
use Rattle.tags.specs.declared.attributes.Span.{Span}

-- a node with the place of its '<' and its attributes as given
abbrev pub standing_of : Node → ℕ → List Given → Standing
standing_of k i gs = record { kind = k; at = i; givens = gs }

-- the first attribute of a name, if one is given
abbrev pub given_as : List ℕ → List Given → Option Given
given_as n [] = None
given_as n (g ∷ gs) = cond (same n g.name) (Some g) (given_as n gs)

-- a span shows an attribute: it begins where the value begins, and its raw bytes resolve to the value
pub record Shows (d : List ℕ) (g : Given) (s : Span) : Type 0 where
  pub begins : s.start ≡ g.value_at
  pub ordered : s.start ≤ s.end
  pub within : s.end < length d
  pub reads : resolved (part d s) ≡ g.value

-- a slot has a span exactly where an attribute is given, and the span shows it
abbrev pub Shown : List ℕ → Option Given → Option Span → Type 0
Shown d None None = Unit {0}
Shown d None (Some s) = ⊥
Shown d (Some g) None = ⊥
Shown d (Some g) (Some s) = Shows d g s

-- the raw bytes that a slot's span holds
abbrev pub raw_in : List ℕ → Option Span → Option (List ℕ)
raw_in d None = None
raw_in d (Some s) = Some (part d s)

-- the bytes that are lent, if any are
abbrev pub lent : Option (Bor (List ℕ)) → Option (List ℕ)
lent None = None
lent (Some r) = Some r.now

-- the kept form of the raw value that a slot's span holds
abbrev pub kept_in : List ℕ → Kind → Option Span → Option (List ℕ)
kept_in d k None = None
kept_in d k (Some s) = Some (keep k (resolved (part d s)))

-- a slot holds the attribute that a row names, and so gives its kept form
pub record Holds (d : List ℕ) (r : Row) (gs : List Given) (s : Option Span) : Type 0 where
  pub shown : Shown d (given_as r.name gs) s
  pub kept : kept_of r gs ≡ kept_in d r.kind s

-- each row has its slot, in order, and the slots past the rows are empty
abbrev pub Filled : List ℕ → List Row → List Given → List (Option Span) → Type 0
Filled d [] gs [] = Unit {0}
Filled d [] gs (s ∷ ss) = (s ≡ None) × Filled d [] gs ss
Filled d (r ∷ rs) gs [] = ⊥
Filled d (r ∷ rs) gs (s ∷ ss) = Holds d r gs s × Filled d rs gs ss
