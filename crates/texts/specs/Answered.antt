-- What a call answers that sends a text of a document to a sink, or tells the length of its fair copy.
use Rattle.std.specs.Prelude.{◌≡◌, ℕ, ◌≤◌, List, length, Ok, Err, Result}
use Rattle.rules.specs.Values.{Values}
use Rattle.rules.specs.Texts.{fair_copy}
use Rattle.rules.specs.Catalogues.{Facts}
use Rattle.rules.specs.Grounds.{First, Lawful, HasValues}
use Rattle.rules.specs.declared.grounds.Fault.{Fault}
use Rattle.sinks.specs.Sending.{SentTo}
use Rattle.sinks.specs.declared.sink.Sink.{Ghosts}
use Rattle.theory.specs.FairCopy.{ReadsBack}

-- the first fault of the document, and the sink is as it was; or the document is lawful, and the text of its values is sent
pub data Answered {S : Type 0} (sink : Ghosts S) (facts : Facts) (d : List ℕ) (text : Values → List ℕ) (s : S) (r : Result (Unit {0}) Fault) (s' : S) : Type 0 where
  refused : (f : Fault) → First facts d f → r ≡ Err f → s' ≡ s → Answered sink facts d text s r s'
  sent : (v : Values) → Lawful facts d → HasValues d v → SentTo sink s (text v) r s' → Answered sink facts d text s r s'

-- the first fault of the document; or the document is lawful, and this is the length of the fair copy of its values
pub data LengthAnswered (facts : Facts) (d : List ℕ) (r : Result ℕ Fault) : Type 0 where
  refused : (f : Fault) → First facts d f → r ≡ Err f → LengthAnswered facts d r
  counted : (v : Values) → Lawful facts d → HasValues d v → r ≡ Ok (length (fair_copy v)) → LengthAnswered facts d r

-- what is sent of a lawful document reads back to its values, with the same cadena and the same fair copy; it is lawful under the set, and never longer
pub record CopyHolds (facts : Facts) (d : List ℕ) (v : Values) : Type 0 where
  pub reads_back : ReadsBack v
  pub stays_lawful : Lawful facts (fair_copy v)
  pub never_longer : length (fair_copy v) ≤ length d

-- this holds of the fair copy of a document, where it is lawful
abbrev pub CopyLaw : Facts → List ℕ → Type 0
CopyLaw facts d = (v : Values) → Lawful facts d → HasValues d v → CopyHolds facts d v
