-- The cadena of a document, as far as it is known.
use Rattle.std.specs.Prelude.{◌≡◌, ℕ, List}
use Rattle.rules.specs.Located.{elements_of}
use Rattle.rules.specs.Markup.{Document, Marks}
use Rattle.rules.specs.Texts.{cadena}
use Rattle.rules.specs.Values.{values_of}
use Rattle.walk.specs.Coming.{InOrder}
use Rattle.original.specs.Wrote.{WellNamed}

-- this text is the cadena of a document whose nodes are in order and whose attributes have no fault in their names
pub record CadenaOf (d text : List ℕ) : Type 0 where
  pub document : Document
  pub marks : Marks d document
  pub in_order : InOrder d document
  pub well_named : WellNamed document
  pub is : text ≡ cadena (values_of (elements_of document))
