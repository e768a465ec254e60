-- The fair copy of a document, as what compares and stores it needs it.
use Rattle.std.specs.Prelude.{◌≡◌, ℕ, ◌^◌, ◌<◌, List, length}
use Rattle.rules.specs.Markup.{Document, Marks}
use Rattle.rules.specs.Located.{elements_of}
use Rattle.rules.specs.Values.{values_of}
use Rattle.rules.specs.Texts.{fair_copy}
use Rattle.walk.specs.Coming.{InOrder}
use Rattle.fair.specs.Copy.{AllNamed}

-- a text is the fair copy of a document whose nodes are in order and whose attributes have lawful names; its length fits four bytes
pub record CopyOf (d c : List ℕ) : Type 0 where
  pub document : Document
  pub marks : Marks d document
  pub in_order : InOrder d document
  pub named : AllNamed document
  pub copy_is : fair_copy (values_of (elements_of document)) ≡ c
  pub short : length c < 2 ^ 32
