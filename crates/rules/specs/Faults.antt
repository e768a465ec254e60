-- The faults: their numbers, layers and places, and which of two counts.
use Rattle.std.specs.Prelude.{◌≡◌, ℕ, Bool, true, cond, List, ◌∷◌, ◌++◌, Some, None, Ok, Err, codes, decimal, Option, Result, ◌==◌, nat_le}
use Rattle.rules.specs.declared.grounds.Layer.{Layer}
use Rattle.rules.specs.declared.grounds.Layer.TheVariants as lay
use Rattle.rules.specs.declared.grounds.Rule.{Rule}
use Rattle.rules.specs.declared.grounds.Rule.TheVariants as rule
use Rattle.rules.specs.declared.grounds.Fault.{Fault}
use Rattle.rules.specs.declared.grounds.Fault.TheVariants.{TooLong, BadLetter, NotWellMarked, Misplaced, Unfinished, AttributeRefused, AttributeMissing, NotAdmitted, NotInCatalogue, AccountBroken, AlreadyEntered, Full, NoRoom, NoEntry, Stopped, BadCatalogue, BadCatalogueLine}

-- the number of a fault
abbrev pub number_of : Fault → ℕ
number_of TooLong = 1
number_of (BadLetter p) = 2
number_of (NotWellMarked p) = 3
number_of (Misplaced p) = 4
number_of (Unfinished p) = 5
number_of (AttributeRefused p) = 6
number_of (AttributeMissing p) = 7
number_of (NotAdmitted p) = 8
number_of (NotInCatalogue p) = 9
number_of (AccountBroken r p) = 10
number_of (AlreadyEntered e) = 11
number_of Full = 12
number_of NoRoom = 13
number_of NoEntry = 14
number_of (Stopped n) = 15
number_of BadCatalogue = 16
number_of (BadCatalogueLine p) = 17

-- the place of a fault, in bytes from the start
abbrev pub place_of : Fault → ℕ
place_of TooLong = 65536
place_of (BadLetter p) = p
place_of (NotWellMarked p) = p
place_of (Misplaced p) = p
place_of (Unfinished p) = p
place_of (AttributeRefused p) = p
place_of (AttributeMissing p) = p
place_of (NotAdmitted p) = p
place_of (NotInCatalogue p) = p
place_of (AccountBroken r p) = p
place_of (AlreadyEntered e) = 0
place_of Full = 0
place_of NoRoom = 0
place_of NoEntry = 0
place_of (Stopped n) = n
place_of BadCatalogue = 0
place_of (BadCatalogueLine p) = p

-- the layer that a fault belongs to
abbrev pub layer_of : Fault → Layer
layer_of TooLong = lay.Letters
layer_of (BadLetter p) = lay.Letters
layer_of (NotWellMarked p) = lay.Markup
layer_of (Misplaced p) = lay.Tree
layer_of (Unfinished p) = lay.Tree
layer_of (AttributeRefused p) = lay.Names
layer_of (AttributeMissing p) = lay.Names
layer_of (NotAdmitted p) = lay.Values
layer_of (NotInCatalogue p) = lay.Values
layer_of (AccountBroken r p) = lay.Accounts
layer_of (AlreadyEntered e) = lay.Register
layer_of Full = lay.Register
layer_of NoRoom = lay.Register
layer_of NoEntry = lay.Register
layer_of (Stopped n) = lay.Sink
layer_of BadCatalogue = lay.Catalogue
layer_of (BadCatalogueLine p) = lay.Catalogue

-- the order in which the layers are judged
abbrev pub order : Layer → ℕ
order lay.Letters = 1
order lay.Markup = 2
order lay.Tree = 3
order lay.Names = 4
order lay.Values = 5
order lay.Accounts = 6
order lay.Register = 7
order lay.Sink = 8
order lay.Catalogue = 9

-- the name that a layer prints
abbrev pub layer_name : Layer → List ℕ
layer_name lay.Letters = codes "letters"
layer_name lay.Markup = codes "markup"
layer_name lay.Tree = codes "tree"
layer_name lay.Names = codes "names"
layer_name lay.Values = codes "values"
layer_name lay.Accounts = codes "accounts"
layer_name lay.Register = codes "register"
layer_name lay.Sink = codes "sink"
layer_name lay.Catalogue = codes "catalogue"

-- how a fault is printed: its number, its layer and its place, parted by spaces
abbrev pub fault_line : Fault → List ℕ
fault_line f = decimal (number_of f) ++ (32 ∷ (layer_name (layer_of f) ++ (32 ∷ decimal (place_of f))))

-- the letter of an account rule, as its character
abbrev pub letter_of : Rule → ℕ
letter_of rule.A = 65
letter_of rule.B = 66
letter_of rule.C = 67
letter_of rule.D = 68
letter_of rule.E = 69
letter_of rule.F = 70
letter_of rule.G = 71

-- what decides which of two faults counts: the layer, then the place and the number, or for accounts the letter and the place
pub record Rank : Type 0 where
  pub layer : ℕ
  pub major : ℕ
  pub minor : ℕ

-- a rank in the layer of a fault
abbrev pub rank_by : ℕ → ℕ → Fault → Rank
rank_by a i f = record { layer = order (layer_of f); major = a; minor = i }

-- a document that is too long is told before all else
abbrev pub rank : Fault → Rank
rank TooLong = rank_by 0 1 TooLong
rank (BadLetter p) = rank_by p 2 (BadLetter p)
rank (NotWellMarked p) = rank_by p 3 (NotWellMarked p)
rank (Misplaced p) = rank_by p 4 (Misplaced p)
rank (Unfinished p) = rank_by p 5 (Unfinished p)
rank (AttributeRefused p) = rank_by p 6 (AttributeRefused p)
rank (AttributeMissing p) = rank_by p 7 (AttributeMissing p)
rank (NotAdmitted p) = rank_by p 8 (NotAdmitted p)
rank (NotInCatalogue p) = rank_by p 9 (NotInCatalogue p)
rank (AccountBroken r p) = rank_by (letter_of r) p (AccountBroken r p)
rank (AlreadyEntered e) = rank_by 0 11 (AlreadyEntered e)
rank Full = rank_by 0 12 Full
rank NoRoom = rank_by 0 13 NoRoom
rank NoEntry = rank_by 0 14 NoEntry
rank (Stopped n) = rank_by n 15 (Stopped n)
rank BadCatalogue = rank_by 0 16 BadCatalogue
rank (BadCatalogueLine p) = rank_by p 17 (BadCatalogueLine p)

-- a counts before b, or has the same rank
abbrev pub not_after : Rank → Rank → Bool
not_after a b =
    cond (a.layer == b.layer)
    (cond (a.major == b.major) (nat_le a.minor b.minor) (nat_le a.major b.major))
    (nat_le a.layer b.layer)

-- f is found, and none that is found counts before it
abbrev pub FirstOf : (Fault → Type 0) → Fault → Type 0
FirstOf Found f = Found f × ((g : Fault) → Found g → not_after (rank f) (rank g) ≡ true)

-- what a judgement must answer: nothing where nothing is found, else the first of what is found
abbrev pub Judgement : (Fault → Type 0) → Option Fault → Type 0
Judgement Found None = (f : Fault) → Found f → ⊥
Judgement Found (Some f) = FirstOf Found f

-- the fault of an answer, if it is one
abbrev pub fault_of : {X : Type 0} → Result X Fault → Option Fault
fault_of (Ok x) = None
fault_of (Err f) = Some f
