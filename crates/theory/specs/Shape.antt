-- The laws of the shape of a document.
use Rattle.std.specs.Prelude.{ℕ, ◌≤◌, List, length, Some}
use Rattle.rules.specs.Values.{Values}
use Rattle.rules.specs.Texts.{fair_copy}
use Rattle.rules.specs.Catalogues.{Facts}
use Rattle.rules.specs.Grounds.{HasValues, Lawful, Shaped}
use Rattle.theory.specs.FairCopy.{ReadsBack}

-- the set that knows every code, without decimals
abbrev pub every_code : Facts
every_code c code = Some 0

-- a document has its shape, and has values
pub record HasShape (d : List ℕ) : Type 0 where
  pub shaped : Shaped d
  pub values : Values
  pub has_values : HasValues d values

-- a document that is lawful under some set has its shape
abbrev pub LawfulHasShape : Type 0
LawfulHasShape = (facts : Facts) (d : List ℕ) → Lawful facts d → Shaped d

-- the fair copy of a document reads back, has its shape, and is never longer than the document
pub record ShapeCopied (d : List ℕ) (v : Values) : Type 0 where
  pub reads_back : ReadsBack v
  pub keeps_shape : Shaped (fair_copy v)
  pub never_longer : length (fair_copy v) ≤ length d

-- this holds of every document that has its shape
abbrev pub FairCopyKeepsShape : Type 0
FairCopyKeepsShape = (d : List ℕ) (v : Values) → Shaped d → HasValues d v → ShapeCopied d v
