-- The texts of markup with what follows them in a document.
use Rattle.std.specs.Prelude.{ℕ, Bool, true, false, not, ◌&&◌, ◌||◌, List, [], ◌∷◌, ◌++◌, ◌==◌}
use Rattle.rules.specs.Markup.{Piece, piece_text, quote_byte, Attribute, Tag, Content, end, empty, full}

-- a value up to its closing quote, and what follows
abbrev pub pieces_on : List Piece → List ℕ → List ℕ
pieces_on [] r = r
pieces_on (p ∷ ps) r = piece_text p ++ pieces_on ps r

-- an attribute, and what follows
abbrev pub attribute_on : Attribute → List ℕ → List ℕ
attribute_on a r = a.before ++ (a.name ++ (a.left ++ 61 ∷ (a.right ++ quote_byte a.quote ∷ pieces_on a.value (quote_byte a.quote ∷ r))))

-- the attributes of a tag, and what follows
abbrev pub attributes_on : List Attribute → List ℕ → List ℕ
attributes_on [] r = r
attributes_on (a ∷ l) r = attribute_on a (attributes_on l r)

-- a start tag up to its '>' or '/>', and what follows
abbrev pub tag_on : Tag → List ℕ → List ℕ
tag_on t r = 60 ∷ (t.name ++ attributes_on t.attributes (t.gap ++ r))

-- content, and what follows
abbrev pub content_on : Content → List ℕ → List ℕ
content_on (end b) r = b ++ r
content_on (empty b t after) r = b ++ tag_on t (47 ∷ 62 ∷ content_on after r)
content_on (full b t inside c after) r = b ++ tag_on t (62 ∷ content_on inside (60 ∷ 47 ∷ (t.name ++ (c ++ 62 ∷ content_on after r))))

-- a tag ends with '/>' or '>'
abbrev pub closes : List ℕ → Bool
closes [] = false
closes (b ∷ bs) = b == 47 || b == 62

-- what may follow content: nothing, or an end tag
abbrev pub ends : List ℕ → Bool
ends [] = true
ends (b ∷ []) = false
ends (b ∷ c ∷ r) = b == 60 && c == 47

-- a run of bytes that pass a test ends here
abbrev pub stops : (ℕ → Bool) → List ℕ → Bool
stops p [] = true
stops p (b ∷ bs) = not (p b)
