-- How the entries of a register lie in its memory.
use Rattle.std.specs.Prelude.{◌≡◌, ℕ, zero, suc, ◌+◌, ◌-◌, ◌*◌, ◌≤◌, Bool, ◌&&◌, List, [], ◌∷◌, ◌++◌, length, take, drop, Some, ◌==◌, nat_le, slice_index}
use Rattle.rules.specs.Bytes.{same}
use Rattle.rules.specs.Values.{Values}
use Rattle.rules.specs.Texts.{fair_copy}
use Rattle.rules.specs.Catalogues.{Facts}
use Rattle.rules.specs.Grounds.{Lawful, HasValues}
use Rattle.rules.specs.Register.{nth, packed, room, Phase, State}

-- the number that the first four bytes write, most significant first
abbrev pub number : List ℕ → ℕ
number m = ((slice_index m 0 * 256 + slice_index m 1) * 256 + slice_index m 2) * 256 + slice_index m 3

-- the first n texts that a memory holds, each after the four bytes of its length
abbrev pub decoded : ℕ → List ℕ → List (List ℕ)
decoded zero m = []
decoded (suc n) m = take (number m) (drop 4 m) ∷ decoded n (drop (4 + number m) m)

-- the place in memory at which the n-th entry begins, counted from 1
abbrev pub place_of_entry : List (List ℕ) → ℕ → ℕ
place_of_entry cs n = length (packed (take (n - 1) cs))

-- a memory holds so many entries, these, in its first used bytes
pub record Holds (m : List ℕ) (used count : ℕ) (cs : List (List ℕ)) : Type 0 where
  pub whole : m ≡ packed cs ++ drop used m
  pub used_is : used ≡ length (packed cs)
  pub count_is : count ≡ length cs
  pub few : count ≤ 256
  pub fits : used ≤ room m

-- whether a memory holds so many entries in its first used bytes
unfoldable pub holds : List ℕ → ℕ → ℕ → Bool
holds m used count =
    nat_le count 256 && (nat_le used (room m) && (used == length (packed (decoded count m)) && same (take used m) (packed (decoded count m))))

-- the register that a memory, its used bytes and its count of entries mean
abbrev pub state_at : Phase → List ℕ → ℕ → ℕ → State
state_at p m used count = record { phase = p; entries = decoded count m; rest = drop used m }

-- a text is a lawful document under some set, and the fair copy of its own values
pub record IsCopy (c : List ℕ) : Type 0 where
  pub facts : Facts
  pub passes : Lawful facts c
  pub values : Values
  pub reads_back : HasValues c values
  pub copy_is : c ≡ fair_copy values

-- each of some texts is a lawful fair copy
pub record AllCopies (cs : List (List ℕ)) : Type 0 where
  pub each : (n : ℕ) (c : List ℕ) → nth cs n ≡ Some c → IsCopy c
