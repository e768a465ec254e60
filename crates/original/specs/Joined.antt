-- Fields that are written one after another, with '|' between them.
use Rattle.std.specs.Prelude.{ℕ, Bool, true, cond, List, [], ◌∷◌, ◌++◌, Some, None, Option}
use Rattle.rules.specs.Kept.{resolved, kept}
use Rattle.tags.specs.Spans.{part}
use Rattle.tags.specs.declared.attributes.Span.{Span}

-- what is written of more fields, where some were written before or none was
abbrev pub joined_on : Bool → List (List ℕ) → List ℕ
joined_on b [] = []
joined_on b (f ∷ fs) = cond b (124 ∷ []) [] ++ f ++ joined_on true fs

-- whether a field is written by then
abbrev pub begun_by : Bool → List (List ℕ) → Bool
begun_by b [] = b
begun_by b (f ∷ fs) = true

-- the kept form of the raw value that a span holds, if there is one
abbrev pub text_in : List ℕ → Option Span → Option (List ℕ)
text_in d None = None
text_in d (Some s) = Some (kept (resolved (part d s)))
