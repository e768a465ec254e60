-- The attributes of a tag, read one after another.
use Rattle.std.specs.Prelude.{◌≡◌, ℕ, ◌+◌, ◌-◌, true, List, ◌++◌, length, drop, IfSome, MatchOption, Some, None, Option}
use Rattle.rules.specs.Bytes.{blank, all}
use Rattle.rules.specs.Markup.{Attribute, attribute_ok}
use Rattle.theory.specs.On.{attribute_on, closes}
use Rattle.tags.specs.Spans.{spans, Inside}
use Rattle.tags.specs.declared.attributes.AttributeSpan.{AttributeSpan}
use Rattle.tags.specs.declared.attributes.Attributes.{Attributes}

-- what is read at a place: the attribute that stands there, or none where the tag ends after blanks
pub record Reads (d : List ℕ) (at : ℕ) (r : Option AttributeSpan) : Type 0 where
  pub within : IfSome r (λ a. Inside at (length d) a)
  pub attribute : (a : Attribute) (rest : List ℕ) → attribute_ok a ≡ true → drop at d ≡ attribute_on a rest → r ≡ Some (spans at a)
  pub none : (g z : List ℕ) → all blank g ≡ true → closes z ≡ true → drop at d ≡ g ++ z → r ≡ None

-- how many bytes are left from where the next attribute is read
abbrev pub left : Attributes → ℕ
left w = length w.document.now - w.at

-- one call: r is what is read at the place of w, and the next place is after the closing quote of its value
pub record Gives (w : Attributes) (r : Option AttributeSpan) (w' : Attributes) : Type 0 where
  pub same : w'.document.now ≡ w.document.now
  pub reads : Reads w.document.now w.at r
  pub next : MatchOption r (w'.at ≡ w.at) (λ a. w'.at ≡ a.value.end + 1)
