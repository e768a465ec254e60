-- The laws of the fair copy.
use Rattle.std.specs.Prelude.{◌≡◌, ℕ, ◌≤◌, ◌↔◌, List, length}
use Rattle.rules.specs.Markup.{WellMarked}
use Rattle.rules.specs.Values.{Values}
use Rattle.rules.specs.Texts.{cadena, fair_copy}
use Rattle.rules.specs.Catalogues.{Facts, ruled}
use Rattle.rules.specs.Grounds.{HasValues, Lawful}
use Rattle.rules.specs.Examples.{plain, with_serie, with_folio, with_point}

-- a fair copy is well-marked, has the values that it was made of and no others, and so has their cadena and is its own fair copy
pub record ReadsBack (v : Values) : Type 0 where
  pub well_marked : WellMarked (fair_copy v)
  pub has_values : HasValues (fair_copy v) v
  pub no_others : (w : Values) → HasValues (fair_copy v) w → w ≡ v
  pub same_cadena : (w : Values) → HasValues (fair_copy v) w → cadena w ≡ cadena v
  pub own_copy : (w : Values) → HasValues (fair_copy v) w → fair_copy w ≡ fair_copy v

-- the fair copy of a lawful document reads back
abbrev pub FairCopyReadsBack : Type 0
FairCopyReadsBack = (facts : Facts) (d : List ℕ) (v : Values) → Lawful facts d → HasValues d v → ReadsBack v

-- the fair copy is lawful under every set under which the document is
abbrev pub FairCopyStaysLawful : Type 0
FairCopyStaysLawful = (d : List ℕ) (v : Values) → HasValues d v → (facts : Facts) → Lawful facts d → Lawful facts (fair_copy v)

-- the fair copy of a lawful document is never longer than the document
abbrev pub FairCopyNeverLonger : Type 0
FairCopyNeverLonger = (facts : Facts) (d : List ℕ) (v : Values) → Lawful facts d → HasValues d v → length (fair_copy v) ≤ length d

-- two values have equal fair copies exactly when they are equal, and then they have equal cadenas
pub record SameCopy (v w : Values) : Type 0 where
  pub exactly : (fair_copy v ≡ fair_copy w) ↔ (v ≡ w)
  pub same_cadena : fair_copy v ≡ fair_copy w → cadena v ≡ cadena w

-- this holds of the values of two lawful documents, each under a set of its own
abbrev pub FairCopyTellsValues : Type 0
FairCopyTellsValues =
    (facts more : Facts) (c d : List ℕ) (v w : Values) → Lawful facts c → HasValues c v → Lawful more d → HasValues d w → SameCopy v w

-- the fair copy of these values is lawful under the ruled set, and has them
pub record Passes (v : Values) : Type 0 where
  pub passes : Lawful ruled (fair_copy v)
  pub reads_back : HasValues (fair_copy v) v

-- the worked examples are lawful
pub record ExamplesPass : Type 0 where
  pub plain_passes : Passes plain
  pub serie_passes : Passes with_serie
  pub folio_passes : Passes with_folio
  pub point_passes : Passes with_point
