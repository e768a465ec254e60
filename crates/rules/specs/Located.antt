-- The elements of a well-marked document with their places, without the blanks and quotes between them.
use Rattle.std.specs.Prelude.{ℕ, ◌+◌, List, [], ◌∷◌, length}
use Rattle.rules.specs.Markup.{Attribute, Content, Document, end, empty, full, text, head, tag_text, attribute_text, pieces_bytes}

-- an attribute as given: its name and the text of its value with the escapes resolved, and the places of both
pub record Given : Type 0 where
  pub name : List ℕ
  pub name_at : ℕ
  pub value : List ℕ
  pub value_at : ℕ

-- the attribute whose text begins at i
abbrev pub given : ℕ → Attribute → Given
given i a = record {
  name = a.name;
  name_at = i + length a.before;
  value = pieces_bytes a.value;
  value_at = i + length a.before + length a.name + length a.left + 1 + length a.right + 1;
}

-- the attributes of a tag, whose texts begin at i
abbrev pub givens : ℕ → List Attribute → List Given
givens i [] = []
givens i (a ∷ more) = given i a ∷ givens (i + length (attribute_text a)) more

-- elements side by side: each with its name, the place of its '<', its attributes, what is inside it,
-- and the place where it ends: the '<' of its end tag, or its own where it has none
pub data Elements : Type 0 where
  none : Elements
  element : List ℕ → ℕ → List Given → Elements → ℕ → Elements → Elements

-- the elements of content whose text begins at i
abbrev pub located : ℕ → Content → Elements
located i (end b) = none
located i (empty b t after) =
    element t.name (i + length b) (givens (i + length b + 1 + length t.name) t.attributes) none (i + length b)
    (located (i + length b + length (tag_text t) + 2) after)
located i (full b t inside c after) =
    element t.name (i + length b) (givens (i + length b + 1 + length t.name) t.attributes)
    (located (i + length b + length (tag_text t) + 1) inside)
    (i + length b + length (tag_text t) + 1 + length (text inside))
    (located (i + length b + length (tag_text t) + 1 + length (text inside) + 2 + length t.name + length c + 1) after)

-- the elements of a document, with their places in its text
abbrev pub elements_of : Document → Elements
elements_of m = located (length (head m)) m.content
