-- A text without the blanks at its ends.
use Rattle.std.specs.Prelude.{ℕ, Bool, cond, not, ◌&&◌, List, [], ◌∷◌}
use Rattle.rules.specs.Bytes.{blank, all}
use Rattle.rules.specs.Markup.{plain_byte}

-- a text without the blanks that it begins with
abbrev pub past_blanks : List ℕ → List ℕ
past_blanks [] = []
past_blanks (b ∷ bs) = cond (blank b) (past_blanks bs) (b ∷ bs)

-- a text without the blanks that it ends with
abbrev pub before_blanks : List ℕ → List ℕ
before_blanks [] = []
before_blanks (b ∷ bs) = cond (all blank (b ∷ bs)) [] (b ∷ before_blanks bs)

-- a text without the blanks at its ends
abbrev pub trimmed : List ℕ → List ℕ
trimmed s = before_blanks (past_blanks s)

-- a byte that is no blank and none of & < > " '
abbrev pub solid : ℕ → Bool
solid b = not (blank b) && plain_byte b
