-- What a check says of a document that passes.
use Rattle.std.specs.Prelude.{ℕ, List}
use Rattle.rules.specs.Values.{Values}
use Rattle.rules.specs.Catalogues.{Facts}
use Rattle.rules.specs.Grounds.{Lawful, HasValues}
use Rattle.accounts.specs.Judged.{Tells}
use Rattle.accounts.specs.declared.summaries.Summary.{Summary}

-- the document is lawful under the set, has values, and the summary tells what a check of them gives
pub record Passes (facts : Facts) (d : List ℕ) (s : Summary) : Type 0 where
  pub lawful : Lawful facts d
  pub values : Values
  pub has_values : HasValues d values
  pub tells : Tells d values s
