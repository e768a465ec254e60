-- One pass over the attributes of a tag: the slots that it fills, and the first attribute that it refuses.
use Rattle.std.specs.Prelude.{ℕ, ◌+◌, Bool, true, false, cond, not, ◌&&◌, ◌||◌, List, [], ◌∷◌, length, is_some, Some, None, Option, slice_index_or, slice_set}
use Rattle.rules.specs.Bytes.{same}
use Rattle.rules.specs.Schema.{Row}
use Rattle.rules.specs.Markup.{Attribute, attribute_text}
use Rattle.rules.specs.declared.grounds.Fault.{Fault}
use Rattle.rules.specs.declared.grounds.Fault.TheVariants.{AttributeRefused}
use Rattle.tags.specs.Spans.{name_span, value_span}
use Rattle.tags.specs.declared.attributes.Span.{Span}

-- the first row, counted from i, that has a name
abbrev pub row_at : List Row → ℕ → List ℕ → Option ℕ
row_at [] i n = None
row_at (r ∷ rs) i n = cond (same r.name n) (Some i) (row_at rs (i + 1) n)

-- there is no row, or its slot is full
abbrev pub taken : Option ℕ → List (Option Span) → Bool
taken None s = true
taken (Some j) s = is_some (slice_index_or s j None)

-- the slots with a span in a row, unless it is taken
abbrev pub with_span : Option ℕ → List (Option Span) → Span → List (Option Span)
with_span None s v = s
with_span (Some j) s v = cond (is_some (slice_index_or s j None)) s (slice_set s j (Some v))

-- the slots after the attributes whose texts begin at i
abbrev pub filled : List Row → List (Option Span) → ℕ → List Attribute → List (Option Span)
filled rs s i [] = s
filled rs s i (a ∷ l) = filled rs (with_span (row_at rs 0 a.name) s (value_span i a)) (i + length (attribute_text a)) l

-- the place of the first of them that no row names or that was given before
abbrev pub refusal : List Row → List (Option Span) → ℕ → List Attribute → Option ℕ
refusal rs s i [] = None
refusal rs s i (a ∷ l) =
    cond (taken (row_at rs 0 a.name) s) (Some (name_span i a).start)
    (refusal rs (with_span (row_at rs 0 a.name) s (value_span i a)) (i + length (attribute_text a)) l)

-- some required row, counted from i, has an empty slot
abbrev pub lacks : List Row → ℕ → List (Option Span) → Bool
lacks [] i s = false
lacks (r ∷ rs) i s = (r.required && not (is_some (slice_index_or s i None))) || lacks rs (i + 1) s

-- the fault of a refused attribute
abbrev pub refusing : Option ℕ → Option Fault
refusing None = None
refusing (Some p) = Some (AttributeRefused p)
