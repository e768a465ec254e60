-- What the layers up to values answer together.
use Rattle.std.specs.Prelude.{◌≡◌, ℕ, ◌≤◌, List, Ok, Err, Result}
use Rattle.rules.specs.Catalogues.{Facts}
use Rattle.rules.specs.Faults.{rank, FirstOf}
use Rattle.rules.specs.Grounds.{LettersFault, decimals, Finds}
use Rattle.rules.specs.Located.{elements_of}
use Rattle.rules.specs.Markup.{Document, Marks, WellMarked}
use Rattle.rules.specs.Values.{values_of}
use Rattle.rules.specs.declared.grounds.Fault.{Fault}
use Rattle.walk.specs.Coming.{InOrder}
use Rattle.layers.specs.Found.{NamesFound, ValuesFound}

-- nothing is found in the letters, the tree, the names and the values of a document, and n are the decimals of its Moneda
pub record Passed (facts : Facts) (d : List ℕ) (m : Document) (n : ℕ) : Type 0 where
  pub letters : (f : Fault) → LettersFault d f → ⊥
  pub tree : InOrder d m
  pub names : (f : Fault) → NamesFound m f → ⊥
  pub values : (f : Fault) → ValuesFound facts m f → ⊥
  pub has_decimals : n ≡ decimals facts (values_of (elements_of m))

-- the first fault of the document, or a document that passes the layers up to values
abbrev pub LayersJudged : Facts → List ℕ → Result ℕ Fault → Type 0
LayersJudged facts d (Ok n) = WellMarked d × ((m : Document) → Marks d m → Passed facts d m n)
LayersJudged facts d (Err f) = FirstOf (Finds facts d) f

-- a fault, if there is one, is of a layer up to values
abbrev pub EarlyFault : Result ℕ Fault → Type 0
EarlyFault (Ok n) = Unit {0}
EarlyFault (Err f) = (rank f).layer ≤ 5
