-- What a well-marked document is: the text of a tree of markup, in which every blank and quote is recorded.
use Rattle.std.specs.Prelude.{◌≡◌, ℕ, zero, suc, ◌≤◌, Bool, true, false, cond, not, ◌&&◌, List, [], ◌∷◌, ◌++◌, length, take, codes, ◌==◌}
use Rattle.rules.specs.Bytes.{blank, name_byte, all}

-- the five escapes
pub data Escape : Type 0 where
  amp : Escape
  lt : Escape
  gt : Escape
  quot : Escape
  apos : Escape

-- how an escape is written
abbrev pub escape_text : Escape → List ℕ
escape_text amp = codes "&amp;"
escape_text lt = codes "&lt;"
escape_text gt = codes "&gt;"
escape_text quot = codes "&quot;"
escape_text apos = codes "&apos;"

-- the character that an escape stands for
abbrev pub escape_byte : Escape → ℕ
escape_byte amp = 38
escape_byte lt = 60
escape_byte gt = 62
escape_byte quot = 34
escape_byte apos = 39

-- a value is written by plain bytes and escapes
pub data Piece : Type 0 where
  plain : ℕ → Piece
  escaped : Escape → Piece

-- a byte that stands in a value as itself
abbrev pub plain_byte : ℕ → Bool
plain_byte b = not (b == 38) && (not (b == 60) && (not (b == 62) && (not (b == 34) && not (b == 39))))

-- a piece is a plain byte or an escape
abbrev pub piece_ok : Piece → Bool
piece_ok (plain b) = plain_byte b
piece_ok (escaped e) = true

-- how a piece is written
abbrev pub piece_text : Piece → List ℕ
piece_text (plain b) = b ∷ []
piece_text (escaped e) = escape_text e

-- the byte that a piece means
abbrev pub piece_byte : Piece → ℕ
piece_byte (plain b) = b
piece_byte (escaped e) = escape_byte e

-- how a value is written between its quotes
abbrev pub pieces_text : List Piece → List ℕ
pieces_text [] = []
pieces_text (p ∷ ps) = piece_text p ++ pieces_text ps

-- the text of a value with its escapes resolved
abbrev pub pieces_bytes : List Piece → List ℕ
pieces_bytes [] = []
pieces_bytes (p ∷ ps) = piece_byte p ∷ pieces_bytes ps

-- the quotes around a value
pub data Quote : Type 0 where
  single : Quote
  double : Quote

-- single or double quotes
abbrev pub quote_byte : Quote → ℕ
quote_byte single = 39
quote_byte double = 34

-- blanks, name, blanks, '=', blanks, a quoted value
pub record Attribute : Type 0 where
  pub before : List ℕ
  pub name : List ℕ
  pub left : List ℕ
  pub right : List ℕ
  pub quote : Quote
  pub value : List Piece

-- at least one byte
abbrev pub some : List ℕ → Bool
some [] = false
some (b ∷ bs) = true

-- a name is one or more bytes of names
abbrev pub name_ok : List ℕ → Bool
name_ok n = some n && all name_byte n

-- one or more blanks before it, and blanks alone around its '='
abbrev pub attribute_ok : Attribute → Bool
attribute_ok a =
    (some a.before && all blank a.before)
    && (name_ok a.name && (all blank a.left && (all blank a.right && all piece_ok a.value)))

-- how an attribute is written
abbrev pub attribute_text : Attribute → List ℕ
attribute_text a =
    a.before ++ a.name ++ a.left ++ 61 ∷ a.right
    ++ quote_byte a.quote ∷ pieces_text a.value ++ quote_byte a.quote ∷ []

-- how the attributes of a tag are written
abbrev pub attributes_text : List Attribute → List ℕ
attributes_text [] = []
attributes_text (a ∷ more) = attribute_text a ++ attributes_text more

-- a start tag up to its '>' or '/>'
pub record Tag : Type 0 where
  pub name : List ℕ
  pub attributes : List Attribute
  pub gap : List ℕ

-- a start tag has a name, attributes, and blanks alone at its end
abbrev pub tag_ok : Tag → Bool
tag_ok t = name_ok t.name && (all attribute_ok t.attributes && all blank t.gap)

-- how a start tag is written up to its '>' or '/>'
abbrev pub tag_text : Tag → List ℕ
tag_text t = 60 ∷ t.name ++ attributes_text t.attributes ++ t.gap

-- what stands between two tags, or in a whole document: elements with blanks around them
pub data Content : Type 0 where
  -- the last blanks
  end : List ℕ → Content
  -- blanks, an element that is one tag, and what follows it
  empty : List ℕ → Tag → Content → Content
  -- blanks, a start tag, what is inside, the blanks in the end tag, and what follows it
  full : List ℕ → Tag → Content → List ℕ → Content → Content

-- how content is written: an end tag repeats its element's name
abbrev pub text : Content → List ℕ
text (end b) = b
text (empty b t after) = b ++ tag_text t ++ 47 ∷ 62 ∷ text after
text (full b t inside c after) = b ++ tag_text t ++ 62 ∷ text inside ++ 60 ∷ 47 ∷ t.name ++ c ++ 62 ∷ text after

-- elements stand at most n deep
abbrev pub content_ok : ℕ → Content → Bool
content_ok n (end b) = all blank b
content_ok zero (empty b t after) = false
content_ok (suc n) (empty b t after) = all blank b && (tag_ok t && content_ok (suc n) after)
content_ok zero (full b t inside c after) = false
content_ok (suc n) (full b t inside c after) =
    all blank b && (tag_ok t && (content_ok n inside && (all blank c && content_ok (suc n) after)))

-- how many elements stand side by side
abbrev pub elements : Content → ℕ
elements (end b) = 0
elements (empty b t after) = suc (elements after)
elements (full b t inside c after) = suc (elements after)

-- the one declaration that a document may begin with
abbrev pub declaration : List ℕ
declaration = codes "<?xml version=\"1.0\" encoding=\"UTF-8\"?>"

-- at most one declaration, then one element with blanks around it, at most six deep
pub record Document : Type 0 where
  pub declared : Bool
  pub content : Content

-- what stands before the content
abbrev pub head : Document → List ℕ
head m = cond m.declared declaration []

-- how a document is written
abbrev pub document_text : Document → List ℕ
document_text m = head m ++ text m.content

-- one element, at most six deep
abbrev pub document_ok : Document → Bool
document_ok m = content_ok 6 m.content && elements m.content == 1

-- d is the text of the document m
abbrev pub Marks : List ℕ → Document → Type 0
Marks d m = (document_ok m ≡ true) × (document_text m ≡ d)

-- d is the text of some document
abbrev pub WellMarked : List ℕ → Type 0
WellMarked d = (m : Document) × Marks d m

-- a beginning of some well-marked document, of any size
abbrev pub Viable : List ℕ → Type 0
Viable p = (w : List ℕ) × WellMarked (p ++ w)

-- n is the length of the longest beginning of d that is viable
pub record LongestViable (d : List ℕ) (n : ℕ) : Type 0 where
  pub within : n ≤ length d
  pub viable : Viable (take n d)
  pub longest : (k : ℕ) → k ≤ length d → Viable (take k d) → k ≤ n
