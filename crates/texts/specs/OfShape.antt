-- What a call answers on a document that was read for its shape, with the fault that was found.
use Rattle.std.specs.Prelude.{◌≡◌, ℕ, List, length, Some, None, Ok, Err, Option, Result}
use Rattle.rules.specs.Values.{Values}
use Rattle.rules.specs.Texts.{fair_copy}
use Rattle.rules.specs.Grounds.{Shaped, HasValues}
use Rattle.rules.specs.declared.grounds.Fault.{Fault}
use Rattle.sinks.specs.Sending.{SentTo}
use Rattle.sinks.specs.declared.sink.Sink.{Ghosts}
use Rattle.theory.specs.Shape.{ShapeCopied}

-- the fault, and the sink is as it was; or there is none, the document has its shape, and the text of its values is sent
pub data ShapeAnswered {S : Type 0} (sink : Ghosts S) (d : List ℕ) (fault : Option Fault) (text : Values → List ℕ) (s : S) (r : Result (Unit {0}) Fault) (s' : S) : Type 0 where
  refused : (f : Fault) → fault ≡ Some f → r ≡ Err f → s' ≡ s → ShapeAnswered sink d fault text s r s'
  sent : (v : Values) → fault ≡ None → Shaped d → HasValues d v → SentTo sink s (text v) r s' → ShapeAnswered sink d fault text s r s'

-- the fault; or there is none, the document has its shape, and this is the length of the fair copy of its values
pub data ShapeLength (d : List ℕ) (fault : Option Fault) (r : Result ℕ Fault) : Type 0 where
  refused : (f : Fault) → fault ≡ Some f → r ≡ Err f → ShapeLength d fault r
  counted : (v : Values) → fault ≡ None → Shaped d → HasValues d v → r ≡ Ok (length (fair_copy v)) → ShapeLength d fault r

-- the fair copy of a document keeps its shape and reads back to its values, where the document has its shape
abbrev pub ShapeCopyLaw : List ℕ → Type 0
ShapeCopyLaw d = (v : Values) → Shaped d → HasValues d v → ShapeCopied d v
