-- The cadenas of texts, as far as they are known.
use Rattle.std.specs.Prelude.{◌≡◌, ℕ, List}
use Rattle.rules.specs.Values.{Values}
use Rattle.rules.specs.Grounds.{HasValues}
use Rattle.rules.specs.Register.{Pairwise, lines}

-- this text is the cadenas of documents that have values, in order, each with a line feed
pub record CadenasOf (documents : List (List ℕ)) (text : List ℕ) : Type 0 where
  pub values : List Values
  pub have_values : Pairwise HasValues documents values
  pub is : text ≡ lines values
