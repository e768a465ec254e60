-- What the functions for C answer.
use Rattle.std.specs.Prelude.{◌≡◌, ℕ, min, List, ◌++◌, length, take, drop}
use Rattle.rules.specs.Values.{Values}
use Rattle.rules.specs.Catalogues.{Facts}
use Rattle.rules.specs.Faults.{number_of}
use Rattle.rules.specs.Grounds.{First, Lawful, HasValues}
use Rattle.rules.specs.declared.grounds.Fault.{Fault}

-- a verdict as a number: 0 where the document is lawful, else the number of its first fault
pub data Told (facts : Facts) (d : List ℕ) (n : ℕ) : Type 0 where
  lawful : Lawful facts d → n ≡ 0 → Told facts d n
  refused : (f : Fault) → First facts d f → n ≡ number_of f → Told facts d n

-- n bytes of a text are at the front of a room: all of them, or as many as the room has, and every other byte of the room is as it was
pub record Filled (text room : List ℕ) (n : ℕ) (room' : List ℕ) : Type 0 where
  pub count : n ≡ min (length text) (length room)
  pub bytes : room' ≡ take n text ++ drop n room

-- nothing is put where the document has a fault; else the text of its values is put at the front of the room
pub data Put (facts : Facts) (d : List ℕ) (text : Values → List ℕ) (room : List ℕ) (n : ℕ) (room' : List ℕ) : Type 0 where
  nothing : (f : Fault) → First facts d f → n ≡ 0 → room' ≡ room → Put facts d text room n room'
  filled : (v : Values) → Lawful facts d → HasValues d v → Filled (text v) room n room' → Put facts d text room n room'
