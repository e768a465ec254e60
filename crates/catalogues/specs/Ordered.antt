-- An index of the lines of a catalogue text, ordered by their keys.
use Rattle.std.specs.Prelude.{◌≡◌, ℕ, ◌+◌, ◌<◌, ◌≤◌, Bool, true, false, cond, List, [], ◌∷◌, length, take, Ok, Err, Result, ◌==◌, ◌≢◌, nat_lt, slice_index, slice_index_or}
use Rattle.rules.specs.Catalogues.{ended_lines}
use Rattle.catalogues.specs.Lines.{key_at, Within}

-- a text comes before another, by the first byte in which they differ
abbrev pub below : List ℕ → List ℕ → Bool
below [] [] = false
below [] (y ∷ ys) = true
below (x ∷ xs) [] = false
below (x ∷ xs) (y ∷ ys) = cond (x == y) (below xs ys) (nat_lt x y)

-- the key of the line that an index has at a place
abbrev pub key_in : List ℕ → List ℕ → ℕ → List ℕ
key_in t index i = key_at t (slice_index index i)

-- the first n places of an index are in the order of their keys
abbrev pub Ascends : List ℕ → List ℕ → ℕ → Type 0
Ascends t index n = (i j : ℕ) → (i < j) × (j < n) → below (key_in t index i) (key_in t index j) ≡ true

-- the first n places of an index are lines before a place
abbrev pub Lists : List ℕ → ℕ → List ℕ → ℕ → Type 0
Lists t at index n = (i : ℕ) → i < n → Within t at (slice_index index i)

-- no line before a place is missing in the first n places of an index
abbrev pub Covers : List ℕ → ℕ → List ℕ → ℕ → Type 0
Covers t at index n = (p : ℕ) → Within t at p → ((i : ℕ) → i < n → slice_index index i ≢ p) → ⊥

-- the first n places of an index are the lines before a place, in the order of their keys
pub record Indexed (t : List ℕ) (at : ℕ) (index : List ℕ) (n : ℕ) : Type 0 where
  pub counted : n + 1 ≡ length (ended_lines (take at t))
  pub lists : Lists t at index n
  pub covers : Covers t at index n
  pub ascends : Ascends t index n

-- what a search for a key in an index finds: its place, or the place where it would stand
abbrev pub Sought : List ℕ → List ℕ → ℕ → List ℕ → Result ℕ ℕ → Type 0
Sought t index n k (Ok i) = (i < n) × (key_in t index i ≡ k)
Sought t index n k (Err i) = (i ≤ n) × ((j : ℕ) → j < i → below (key_in t index j) k ≡ true) × ((j : ℕ) → i ≤ j → j < n → below k (key_in t index j) ≡ true)

-- a value was put into the first n places of an index at i, and those from i on moved up by one
pub record Inserted (n i v : ℕ) (was is : List ℕ) : Type 0 where
  pub before : (k : ℕ) → k < i → slice_index is k ≡ slice_index was k
  pub here : slice_index_or is i 0 ≡ v
  pub after : (k : ℕ) → i ≤ k → k < n → slice_index is (k + 1) ≡ slice_index was k
