-- A register of invoices: what it holds, what each call answers and leaves, and its entries by the history of calls.
use Rattle.std.specs.Prelude.{◌≡◌, ℕ, zero, suc, ◌+◌, ◌-◌, ◌/◌, ◌%◌, ◌<◌, ◌≤◌, min, List, [], ◌∷◌, ◌++◌, length, drop, Some, None, Ok, Err, Option, Result}
use Rattle.rules.specs.Values.{Values}
use Rattle.rules.specs.Texts.{cadena, fair_copy}
use Rattle.rules.specs.Catalogues.{Facts}
use Rattle.rules.specs.Grounds.{First, Lawful, HasValues}
use Rattle.rules.specs.Sinks.{Sink, taken_after, send_answer}
use Rattle.rules.specs.declared.grounds.Fault.{Fault}
use Rattle.rules.specs.declared.grounds.Fault.TheVariants.{AlreadyEntered, Full, NoRoom, NoEntry}

-- the n-th of a list, counted from 1
abbrev pub nth : {A : Type 0} → List A → ℕ → Option A
nth [] n = None
nth (x ∷ xs) zero = None
nth (x ∷ xs) (suc zero) = Some x
nth (x ∷ xs) (suc (suc n)) = nth xs (suc n)

-- a length below 2^32 as four bytes, most significant first
abbrev pub four_bytes : ℕ → List ℕ
four_bytes n = n / 16777216 ∷ n / 65536 % 256 ∷ n / 256 % 256 ∷ n % 256 ∷ []

-- fair copies as they are stored: one after the other, each after the four bytes of its length
abbrev pub packed : List (List ℕ) → List ℕ
packed [] = []
packed (c ∷ cs) = (four_bytes (length c) ++ c) ++ packed cs

-- the room of a memory: its first 1,048,576 bytes, or all where there are fewer
abbrev pub room : List ℕ → ℕ
room m = min (length m) 1048576

-- a register is open, then closed, then used up by its reading out
pub data Phase : Type 0 where
  opened : Phase
  closed : Phase
  used_up : Phase

-- a register: the fair copies of its entries in the order entered, and the bytes of its memory after them
pub record State : Type 0 where
  pub phase : Phase
  pub entries : List (List ℕ)
  pub rest : List ℕ

-- the memory of a register: its entries packed from the first byte, then the other bytes
abbrev pub memory : State → List ℕ
memory s = packed s.entries ++ s.rest

-- what is free: the room less the bytes that the entries take
abbrev pub free : State → ℕ
free s = room (memory s) - length (packed s.entries)

-- a register just opened on a memory: it is new and has no entry
abbrev pub new : List ℕ → State
new m = record { phase = opened; entries = []; rest = m }

-- a register with one entry more, which takes the bytes that follow the others
abbrev pub with_entry : State → List ℕ → State
with_entry s c = record { phase = s.phase; entries = s.entries ++ c ∷ []; rest = drop (length c + 4) s.rest }

-- a register in a phase, else as it was
abbrev pub in_phase : Phase → State → State
in_phase p s = record { phase = p; entries = s.entries; rest = s.rest }

-- the calls on a register: an entering names its set and its document, a question its entry; what is sent goes to a sink
pub data Call : Type 0 where
  enter : Facts → List ℕ → Call
  close : Call
  read_out : Sink → Call
  ask_cadena : ℕ → Sink → Call
  ask_fair_copy : ℕ → Sink → Call
  ask_count : Call

-- the answers: to an entering the entry's number or a fault; to what sends, that all was sent or a fault, with what the sink has then
pub data Answer : Type 0 where
  entering : Result ℕ Fault → Answer
  closing : Answer
  sending : Result (Unit {0}) Fault → List ℕ → Answer
  counting : ℕ → Answer

-- no entry has this fair copy
abbrev pub Absent : List ℕ → List (List ℕ) → Type 0
Absent c cs = (n : ℕ) → nth cs n ≡ Some c → ⊥

-- what entering a lawful document with this fair copy answers, and what it leaves
pub data Judges (s : State) (c : List ℕ) (a : Answer) (t : State) : Type 0 where
  already : (n : ℕ) → nth s.entries n ≡ Some c → a ≡ entering (Err (AlreadyEntered n)) → t ≡ s → Judges s c a t
  full : Absent c s.entries → 256 ≤ length s.entries → a ≡ entering (Err Full) → t ≡ s → Judges s c a t
  no_room : Absent c s.entries → length s.entries < 256 → free s < length c + 4 → a ≡ entering (Err NoRoom) → t ≡ s → Judges s c a t
  granted : Absent c s.entries → length s.entries < 256 → length c + 4 ≤ free s → a ≡ entering (Ok (suc (length s.entries))) → t ≡ with_entry s c → Judges s c a t

-- what entering a document answers, and what it leaves: the first fault of an unlawful one, else as the register judges its fair copy
pub data Enters (s : State) (facts : Facts) (d : List ℕ) (a : Answer) (t : State) : Type 0 where
  unlawful : (f : Fault) → First facts d f → a ≡ entering (Err f) → t ≡ s → Enters s facts d a t
  lawful : (v : Values) → Lawful facts d → HasValues d v → Judges s (fair_copy v) a t → Enters s facts d a t

-- a text is sent to a sink, and this is answered
abbrev pub sends : Sink → List ℕ → Answer
sends k t = sending (send_answer k.allows k.taken t) (taken_after k.allows k.taken t)

-- what a question for a text of the n-th entry answers: the text of its values is sent; where there is no such entry, the sink is not asked
pub data Gives (text : Values → List ℕ) (s : State) (n : ℕ) (k : Sink) (a : Answer) : Type 0 where
  no_entry : nth s.entries n ≡ None → a ≡ sending (Err NoEntry) k.taken → Gives text s n k a
  gives : (c : List ℕ) → nth s.entries n ≡ Some c → ((v : Values) → HasValues c v → a ≡ sends k (text v)) → Gives text s n k a

-- two lists are as long as each other, and a relation holds at each place
pub data Pairwise {A B : Type 0} (R : A → B → Type 0) : List A → List B → Type 0 where
  none_left : Pairwise R [] []
  one_more : {x : A} {xs : List A} {y : B} {ys : List B} → R x y → Pairwise R xs ys → Pairwise R (x ∷ xs) (y ∷ ys)

-- the fair copies of values, in order
abbrev pub copies : List Values → List (List ℕ)
copies [] = []
copies (v ∷ vs) = fair_copy v ∷ copies vs

-- the cadenas of values, in order, each with a line feed
abbrev pub lines : List Values → List ℕ
lines [] = []
lines (v ∷ vs) = cadena v ++ 10 ∷ lines vs

-- what a reading out answers: the cadenas of all entries are sent
abbrev pub ReadsOut : State → Sink → Answer → Type 0
ReadsOut s k a = (vs : List Values) → Pairwise HasValues s.entries vs → a ≡ sends k (lines vs)

-- a call that is not refused before running
abbrev pub Allowed : State → Call → Type 0
Allowed s (enter facts d) = s.phase ≡ opened
Allowed s close = s.phase ≡ opened
Allowed s (read_out k) = s.phase ≡ closed
Allowed s (ask_cadena n k) = s.phase ≡ used_up → ⊥
Allowed s (ask_fair_copy n k) = s.phase ≡ used_up → ⊥
Allowed s ask_count = s.phase ≡ used_up → ⊥

-- what a call answers, and what it leaves
abbrev pub Does : State → Call → Answer → State → Type 0
Does s (enter facts d) a t = Enters s facts d a t
Does s close a t = (a ≡ closing) × (t ≡ in_phase closed s)
Does s (read_out k) a t = ReadsOut s k a × (t ≡ in_phase used_up s)
Does s (ask_cadena n k) a t = Gives cadena s n k a × (t ≡ s)
Does s (ask_fair_copy n k) a t = Gives fair_copy s n k a × (t ≡ s)
Does s ask_count a t = (a ≡ counting (length s.entries)) × (t ≡ s)

-- one call: the register before it, the call, its answer, and the register after it
abbrev pub Step : State → Call → Answer → State → Type 0
Step s c a t = Allowed s c × Does s c a t

-- a call has this answer and leaves this register, unless it is refused before running, and has and leaves no other
abbrev pub Answers : State → Call → Answer → State → Type 0
Answers s c a t = (Allowed s c → Step s c a t) × ((b : Answer) (u : State) → Step s c b u → (b ≡ a) × (u ≡ t))

-- a call and its answer
pub record Event : Type 0 where
  pub call : Call
  pub answer : Answer

-- the phase that a call leaves: a closing closes, and a reading out uses up
abbrev pub phase_after : Phase → Call → Phase
phase_after p (enter facts d) = p
phase_after p close = closed
phase_after p (read_out k) = used_up
phase_after p (ask_cadena n k) = p
phase_after p (ask_fair_copy n k) = p
phase_after p ask_count = p

-- the phase after a history of calls
abbrev pub phase_of : Phase → List Event → Phase
phase_of p [] = p
phase_of p (e ∷ h) = phase_of (phase_after p e.call) h

-- a history of calls leads from one register to another
abbrev pub Run : State → List Event → State → Type 0
Run s [] u = u ≡ s
Run s (e ∷ h) u = (t : State) × Step s e.call e.answer t × Run t h u

-- an entry: a document whose entering was granted, and the set that passed it
pub record Entry : Type 0 where
  pub facts : Facts
  pub document : List ℕ

-- the entry that an entering makes, if it was granted
abbrev pub made_by : Facts → List ℕ → Result ℕ Fault → List Entry
made_by facts d (Ok n) = record { facts = facts; document = d } ∷ []
made_by facts d (Err f) = []

-- the entry that a call makes, if it is an entering and was granted
abbrev pub made : Call → Answer → List Entry
made (enter facts d) (entering r) = made_by facts d r
made (enter facts d) closing = []
made (enter facts d) (sending r t) = []
made (enter facts d) (counting n) = []
made close a = []
made (read_out k) a = []
made (ask_cadena n k) a = []
made (ask_fair_copy n k) a = []
made ask_count a = []

-- the entries that a history tells of, in the order entered
abbrev pub entered : List Event → List Entry
entered [] = []
entered (e ∷ h) = made e.call e.answer ++ entered h
