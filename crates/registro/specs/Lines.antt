-- The line that tells what became of a file.
use Rattle.std.specs.Prelude.{ℕ, List, [], ◌∷◌, ◌++◌, Ok, Err, decimal, Result}
use Rattle.rules.specs.Faults.{fault_line, letter_of}
use Rattle.rules.specs.declared.grounds.Fault.{Fault}
use Rattle.rules.specs.declared.grounds.Fault.TheVariants.{TooLong, BadLetter, NotWellMarked, Misplaced, Unfinished, AttributeRefused, AttributeMissing, NotAdmitted, NotInCatalogue, AccountBroken, AlreadyEntered, Full, NoRoom, NoEntry, Stopped, BadCatalogue, BadCatalogueLine}

-- what a fault tells beside its number, layer and place: the letter of a rule, or an entry
abbrev pub beside : Fault → List ℕ
beside TooLong = []
beside (BadLetter p) = []
beside (NotWellMarked p) = []
beside (Misplaced p) = []
beside (Unfinished p) = []
beside (AttributeRefused p) = []
beside (AttributeMissing p) = []
beside (NotAdmitted p) = []
beside (NotInCatalogue p) = []
beside (AccountBroken r p) = 32 ∷ letter_of r ∷ []
beside (AlreadyEntered e) = 32 ∷ decimal e
beside Full = []
beside NoRoom = []
beside NoEntry = []
beside (Stopped n) = []
beside BadCatalogue = []
beside (BadCatalogueLine p) = []

-- the number of the entry, or the fault with what it tells beside
abbrev pub outcome : Result ℕ Fault → List ℕ
outcome (Ok n) = decimal n
outcome (Err f) = fault_line f ++ beside f

-- the name of the file, a colon, a space, and what became of it
abbrev pub line_of : List ℕ → Result ℕ Fault → List ℕ
line_of name answer = name ++ (58 ∷ 32 ∷ outcome answer)
