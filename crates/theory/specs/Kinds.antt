-- The laws of kinds and of kept forms.
use Rattle.std.specs.Prelude.{◌≡◌, ℕ, true, false, ◌↔◌, List, [], ◌∷◌, ◌++◌}
use Rattle.rules.specs.Bytes.{blank}
use Rattle.rules.specs.Kept.{kept}
use Rattle.rules.specs.Kinds.{KindLaw}
use Rattle.rules.specs.declared.schema.Kind.{Kind}

-- the law of kinds holds of every kind and every text
abbrev pub EveryKindLawful : Type 0
EveryKindLawful = (k : Kind) (s : List ℕ) → KindLaw k s

-- a text has no tab or line end, no blank beside another, and none at an end
pub record Tidy (s : List ℕ) : Type 0 where
  pub spaces : (before after : List ℕ) (b : ℕ) → s ≡ before ++ b ∷ after → blank b ≡ true → b ≡ 32
  pub single : (before after : List ℕ) (b c : ℕ) → s ≡ before ++ b ∷ c ∷ after → blank b ≡ true → blank c ≡ false
  pub first : (after : List ℕ) (b : ℕ) → s ≡ b ∷ after → blank b ≡ false
  pub last : (before : List ℕ) (b : ℕ) → s ≡ before ++ b ∷ [] → blank b ≡ false

-- the kept form of a text is tidy, and is the text itself exactly when that is tidy
pub record KeptLaw (s : List ℕ) : Type 0 where
  pub is_tidy : Tidy (kept s)
  pub exactly : (kept s ≡ s) ↔ Tidy s

-- this holds of every text
abbrev pub KeptFormsTidy : Type 0
KeptFormsTidy = (s : List ℕ) → KeptLaw s
