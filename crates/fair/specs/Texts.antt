-- The fair copy of a document, as far as it is known.
use Rattle.std.specs.Prelude.{◌≡◌, ℕ, List}
use Rattle.rules.specs.Located.{elements_of}
use Rattle.rules.specs.Markup.{Document, Marks}
use Rattle.rules.specs.Texts.{fair_copy}
use Rattle.rules.specs.Values.{values_of}
use Rattle.walk.specs.Coming.{InOrder}
use Rattle.fair.specs.Copy.{AllNamed}

-- this text is the fair copy of a document whose nodes are in order and whose attributes have lawful names
pub record FairCopyOf (d text : List ℕ) : Type 0 where
  pub document : Document
  pub marks : Marks d document
  pub in_order : InOrder d document
  pub all_named : AllNamed document
  pub is : text ≡ fair_copy (values_of (elements_of document))
