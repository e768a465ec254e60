-- Parts of a text.
use Rattle.std.specs.Prelude.{ℕ, List, slice_range}

-- the bytes of d from i up to j
abbrev pub cut : List ℕ → ℕ → ℕ → List ℕ
cut d i j = slice_range d i j
