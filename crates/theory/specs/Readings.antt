-- The laws of reading a text: it has one tree, and each escape is resolved.
use Rattle.std.specs.Prelude.{◌≡◌, ℕ, true, List}
use Rattle.rules.specs.Bytes.{all}
use Rattle.rules.specs.Markup.{Piece, piece_ok, pieces_text, pieces_bytes, Document, Marks}
use Rattle.rules.specs.Located.{elements_of}
use Rattle.rules.specs.Kept.{resolved}
use Rattle.rules.specs.Values.{Values}
use Rattle.rules.specs.Grounds.{HasValues}

-- a text has one tree at most, so its elements have one place each, and it has one set of values
pub record OneReading (d : List ℕ) : Type 0 where
  pub one_tree : (m n : Document) → Marks d m → Marks d n → m ≡ n
  pub same_elements : (m n : Document) → Marks d m → Marks d n → elements_of m ≡ elements_of n
  pub same_values : (v w : Values) → HasValues d v → HasValues d w → v ≡ w

-- this holds of every text
abbrev pub OneReadingAtMost : Type 0
OneReadingAtMost = (d : List ℕ) → OneReading d

-- a value as it is written, with each escape resolved, is the text that its pieces mean
abbrev pub EscapesResolved : Type 0
EscapesResolved = (ps : List Piece) → all piece_ok ps ≡ true → resolved (pieces_text ps) ≡ pieces_bytes ps
