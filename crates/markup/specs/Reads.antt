-- Where the reader stands in a text, for the contracts of the functions that read one.
use Rattle.std.specs.Prelude.{◌≡◌, ℕ, ◌<◌, ◌≤◌, false, cond, ◌⊎◌, List, length, take, Some, None, Result, MatchResult, slice_index}
use Rattle.rules.specs.declared.grounds.Fault.{Fault}
use Rattle.rules.specs.declared.grounds.Fault.TheVariants.{NotWellMarked}
use Rattle.markup.specs.declared.document.Opened.{Opened}
use Rattle.markup.specs.declared.reader.Reader.{Reader}
use Rattle.markup.specs.Machine.{Stack, Place, fresh, start, inside, closed, awaits, step, run, finished}

-- the reader stands at p after the first i bytes of d
pub record At (d : List ℕ) (i : ℕ) (p : Place) : Type 0 where
  pub within : i ≤ length d
  pub runs : run fresh (take i d) ≡ Some p

-- after the first i bytes of d the reader goes on as from p
pub record Like (d : List ℕ) (i : ℕ) (p : Place) : Type 0 where
  pub place : Place
  pub at : At d i place
  pub goes : i < length d → step place (slice_index d i) ≡ step p (slice_index d i)
  pub ends : finished place ≡ finished p

-- the reader stops at i: it cannot go on there, or the text ends there too early
pub record Stops (d : List ℕ) (i : ℕ) : Type 0 where
  pub place : Place
  pub at : At d i place
  pub stuck : ((i < length d) × (step place (slice_index d i) ≡ None)) ⊎ ((i ≡ length d) × (finished place ≡ false))

-- a fault tells where the reader stops
pub record Refused (d : List ℕ) (f : Fault) : Type 0 where
  pub place : ℕ
  pub is : f ≡ NotWellMarked place
  pub stops : Stops d place

-- blanks change nothing at p, and then only the byte c leads on, to q
pub record Awaits (p : Place) (c : ℕ) (q : Place) : Type 0 where
  pub steps : (b : ℕ) → step p b ≡ awaits p c q b
  pub unfinished : finished p ≡ false

-- the reader goes on as from p
abbrev pub GoesOn : Reader → Place → Type 0
GoesOn r p = Like r.doc.now r.at p

-- an element may begin where the reader stands, which has read its '<'
abbrev pub Begun : Reader → Stack → Type 0
Begun r s = GoesOn r (start s)

-- what is read comes to p, or else the reader stops
abbrev pub Comes : Reader → Result (Unit {0}) Fault → Place → Type 0
Comes r x p = MatchResult x (λ _. GoesOn r p) (Refused r.doc.now)

-- where a start tag leads
abbrev pub opened : Stack → Opened → Place
opened s o = cond o.lone (closed s) (inside o.name.now s)

-- a start tag is read to its end, or else the reader stops
abbrev pub Opens : Reader → Stack → Result Opened Fault → Type 0
Opens r s x = MatchResult x (λ o. GoesOn r (opened s o)) (Refused r.doc.now)
