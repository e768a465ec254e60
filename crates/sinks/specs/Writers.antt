-- Writers: what a text is written to byte by byte.
use Rattle.std.specs.Prelude.{◌≡◌, ℕ, Bool, List, [], ◌++◌, length, take, ◌==◌}
use Rattle.rules.specs.Sinks.{Longest}

-- what a writer means: whether it allows a byte after a text, and how it is after it has taken a text
pub record Writing (W : Type 0) : Type 1 where
  pub allows : W → List ℕ → ℕ → Bool
  pub took : W → List ℕ → W → Type 0
  pub nothing : (a : W) → took a [] a
  pub both : (a b c : W) (xs ys : List ℕ) → took a xs b → took b ys c → took a (xs ++ ys) c
  pub allows_after : (a b : W) (xs ys : List ℕ) (byte : ℕ) → took a xs b → allows b ys byte ≡ allows a (xs ++ ys) byte

-- a text was written: the writer has taken the longest beginning that it allows, and tells whether that is all
pub record Written {W : Type 0} (w : Writing W) (a : W) (text : List ℕ) (all : Bool) (b : W) : Type 0 where
  pub count : ℕ
  pub longest : Longest (w.allows a) [] text count
  pub taken : w.took a (take count text) b
  pub answered : all ≡ (count == length text)
