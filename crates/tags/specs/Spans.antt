-- Where the parts of an attribute stand.
use Rattle.std.specs.Prelude.{ℕ, ◌+◌, ◌-◌, ◌<◌, ◌≤◌, List, length, take, drop}
use Rattle.rules.specs.Markup.{Attribute, pieces_text}
use Rattle.tags.specs.declared.attributes.Span.{Span}
use Rattle.tags.specs.declared.attributes.AttributeSpan.{AttributeSpan}

-- the bytes of a part of a text
abbrev pub part : List ℕ → Span → List ℕ
part d s = take (s.end - s.start) (drop s.start d)

-- so many bytes from a place on
abbrev pub span : ℕ → ℕ → Span
span i n = record { start = i; end = i + n }

-- where the name of an attribute stands whose text begins at i
abbrev pub name_span : ℕ → Attribute → Span
name_span i a = span (i + length a.before) (length a.name)

-- where its raw value stands
abbrev pub value_span : ℕ → Attribute → Span
value_span i a = span (i + length a.before + length a.name + length a.left + 1 + length a.right + 1) (length (pieces_text a.value))

-- where both stand
abbrev pub spans : ℕ → Attribute → AttributeSpan
spans i a = record { name = name_span i a; value = value_span i a }

-- the spans of an attribute lie in order, from a place on and before the end of the document
pub record Inside (at size : ℕ) (a : AttributeSpan) : Type 0 where
  pub begins : at ≤ a.name.start
  pub named : a.name.start ≤ a.name.end
  pub apart : a.name.end < a.value.start
  pub valued : a.value.start ≤ a.value.end
  pub ends : a.value.end < size
