-- The lines of a catalogue text by the places where they begin.
use Rattle.std.specs.Prelude.{◌≡◌, ℕ, ◌-◌, ◌<◌, ◌≤◌, Bool, true, cond, ◌&&◌, List, [], ◌∷◌, ◌++◌, length, take, drop, is_some, ◌==◌, ◌≢◌, nat_le, nat_lt, slice_index}
use Rattle.std.specs.Int.{is_in_range}
use Rattle.rules.specs.Bytes.{same}
use Rattle.rules.specs.Kinds.{code_ok}
use Rattle.rules.specs.Catalogues.{catalogue_name, header, ended_lines, unended, before_bar, after_bar, catalogues, named_among}
use Rattle.rules.specs.declared.schema.Catalogue.{Catalogue}

-- a text up to the first of a byte
abbrev pub until : ℕ → List ℕ → List ℕ
until q [] = []
until q (b ∷ bs) = cond (b == q) [] (b ∷ until q bs)

-- a text up to its first line feed
abbrev pub before_feed : List ℕ → List ℕ
before_feed s = until 10 s

-- the line that begins at a place
abbrev pub line_at : List ℕ → ℕ → List ℕ
line_at t p = before_feed (drop p t)

-- a line without its last two bytes, which in the line of a fact are '|' and a digit
abbrev pub key_of : List ℕ → List ℕ
key_of l = take (length l - 2) l

-- the key of the line that begins at a place
abbrev pub key_at : List ℕ → ℕ → List ℕ
key_at t p = key_of (line_at t p)

-- the key of the line that tells of a catalogue and a code
abbrev pub asked : Catalogue → List ℕ → List ℕ
asked c s = catalogue_name c ++ 124 ∷ s

-- the last byte of a line
abbrev pub last_of : List ℕ → ℕ
last_of l = slice_index l (length l - 1)

-- a text is the name of a catalogue
unfoldable pub is_named : List ℕ → Bool
is_named n = is_some (named_among catalogues n)

-- a key is the name of a catalogue, '|' and a code
abbrev pub pair_ok : List ℕ → Bool
pair_ok k = is_named (before_bar k) && code_ok (after_bar k)

-- a line tells a fact: a key, '|' and a digit 0 to 6
abbrev pub fact_line : List ℕ → Bool
fact_line l = nat_le 2 (length l) && (slice_index l (length l - 2) == 124 && (is_in_range 48 54 (last_of l) && pair_ok (key_of l)))

-- the first line is ended, and is the header
abbrev pub header_there : List ℕ → Bool
header_there t = nat_lt (length (line_at t 0)) (length t) && same (line_at t 0) header

-- a line begins at a place
abbrev pub Begins : List ℕ → ℕ → Type 0
Begins t p = unended (take p t) ≡ []

-- a line of a text that begins at a place after the header and before another
abbrev pub Within : List ℕ → ℕ → ℕ → Type 0
Within t at p = Begins t p × (25 ≤ p) × (p < at)

-- a text has no fault before a place, where a line begins
pub record InOrder (t : List ℕ) (at : ℕ) : Type 0 where
  pub short : length t ≤ 65536
  pub few : length (ended_lines t) ≤ 4096
  pub headed : header_there t ≡ true
  pub past_header : 25 ≤ at
  pub inside : at ≤ length t
  pub begins : Begins t at
  pub facts : (p : ℕ) → Within t at p → fact_line (line_at t p) ≡ true
  pub apart : (p q : ℕ) → Within t at p → Within t at q → p < q → key_at t p ≢ key_at t q
