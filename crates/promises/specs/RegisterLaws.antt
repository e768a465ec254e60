-- What a register promises after every list of calls on a new one, for every memory, set and sink, by the history alone.
use Rattle.std.specs.Prelude.{◌≡◌, ℕ, suc, ◌+◌, ◌<◌, ◌≤◌, Bool, ◌⊎◌, ◌↔◌, List, [], ◌∷◌, ◌++◌, length, drop, Some, None, Ok, Err}
use Rattle.rules.specs.Values.{Values}
use Rattle.rules.specs.Texts.{cadena, fair_copy}
use Rattle.rules.specs.Catalogues.{Facts, ruled}
use Rattle.rules.specs.Grounds.{First, Lawful, HasValues}
use Rattle.rules.specs.Sinks.{Sink, passed, Longest}
use Rattle.rules.specs.Register.{nth, packed, room, opened, used_up, State, memory, new, in_phase, Call, enter, read_out, ask_cadena, ask_fair_copy, ask_count, Answer, entering, sending, counting, sends, Pairwise, copies, lines, Step, Answers, Event, phase_of, Run, Entry, entered}
use Rattle.rules.specs.Examples.{with_serie, with_folio}
use Rattle.rules.specs.declared.grounds.Fault.{Fault}
use Rattle.rules.specs.declared.grounds.Fault.TheVariants.{AlreadyEntered, Full, NoRoom, NoEntry}

-- two documents have the same values
abbrev pub SameValues : List ℕ → List ℕ → Type 0
SameValues d e = (v : Values) × HasValues d v × HasValues e v

-- an entry's document has these values
abbrev pub EntryHas : Entry → Values → Type 0
EntryHas e v = HasValues e.document v

-- the n-th entry of a history has the values of a document
abbrev pub EntryLike : List Event → ℕ → List ℕ → Type 0
EntryLike h n d = (e : Entry) × (nth (entered h) n ≡ Some e) × SameValues d e.document

-- the bytes that the entries of a history take in the memory
abbrev pub Takes : List Event → ℕ → Type 0
Takes h used = (vs : List Values) × Pairwise EntryHas (entered h) vs × (used ≡ length (packed (copies vs)))

-- the register is open until a closing, and closed until a reading out
abbrev pub PhaseFollows : List Event → State → Type 0
PhaseFollows h s = s.phase ≡ phase_of opened h

-- every call that is not refused before running has exactly one answer and leaves one register
abbrev pub OneAnswer : State → Type 0
OneAnswer s = (c : Call) → (a : Answer) × (t : State) × Answers s c a t

-- a lawful document is turned away as already entered exactly when an entry has the same values, and is told which
abbrev pub TellsRepeats : List Event → State → Type 0
TellsRepeats h s =
    (facts : Facts) (d : List ℕ) (a : Answer) (t : State) → Step s (enter facts d) a t → Lawful facts d →
    (n : ℕ) → (a ≡ entering (Err (AlreadyEntered n))) ↔ EntryLike h n d

-- any other lawful document is entered under the next number, unless there are 256 entries, or its fair copy and four bytes exceed what is free
abbrev pub EntersOthers : List ℕ → List Event → State → Type 0
EntersOthers m h s =
    (facts : Facts) (d : List ℕ) (a : Answer) (t : State) → Step s (enter facts d) a t → Lawful facts d → ((n : ℕ) → EntryLike h n d → ⊥) →
    (v : Values) × HasValues d v × (used : ℕ) × Takes h used
    × (((a ≡ entering (Ok (suc (length (entered h))))) × (length (entered h) < 256) × (used + (length (fair_copy v) + 4) ≤ room m))
    ⊎ ((a ≡ entering (Err Full)) × (length (entered h) ≡ 256))
    ⊎ ((a ≡ entering (Err NoRoom)) × (length (entered h) < 256) × (room m < used + (length (fair_copy v) + 4))))

-- an unlawful document is answered by its first fault, and changes nothing
abbrev pub TellsFirstFault : State → Type 0
TellsFirstFault s = (facts : Facts) (d : List ℕ) (f : Fault) → First facts d f → Answers s (enter facts d) (entering (Err f)) s

-- only lawful documents are entered
abbrev pub EntriesLawful : List Event → Type 0
EntriesLawful h = (n : ℕ) (e : Entry) → nth (entered h) n ≡ Some e → Lawful e.facts e.document

-- an entering that is refused changes nothing
abbrev pub RefusalsChangeNothing : State → Type 0
RefusalsChangeNothing s = (facts : Facts) (d : List ℕ) (f : Fault) (t : State) → Step s (enter facts d) (entering (Err f)) t → t ≡ s

-- the questions for the texts of an entry that has these values
abbrev pub GivesTextsOf : State → ℕ → Values → Type 0
GivesTextsOf s n v = (k : Sink) → Answers s (ask_cadena n k) (sends k (cadena v)) s × Answers s (ask_fair_copy n k) (sends k (fair_copy v)) s

-- an entry gives every sink the cadena, or the fair copy, of the document entered, up to the first byte that the sink refuses
abbrev pub GivesTexts : List Event → State → Type 0
GivesTexts h s = (n : ℕ) (e : Entry) → nth (entered h) n ≡ Some e → (v : Values) × EntryHas e v × GivesTextsOf s n v

-- where there is no such entry, that is answered and the sink is not asked
abbrev pub TellsNoEntry : List Event → State → Type 0
TellsNoEntry h s =
    (n : ℕ) → nth (entered h) n ≡ None → (k : Sink) →
    Answers s (ask_cadena n k) (sending (Err NoEntry) k.taken) s × Answers s (ask_fair_copy n k) (sending (Err NoEntry) k.taken) s

-- the count is the number of documents granted
abbrev pub CountsEntries : List Event → State → Type 0
CountsEntries h s = Answers s ask_count (counting (length (entered h))) s

-- reading out gives every sink the cadenas of all entries, in the order entered, each with a line feed, up to the first byte that the sink refuses
abbrev pub ReadsAllOut : List Event → State → Type 0
ReadsAllOut h s =
    (vs : List Values) × Pairwise EntryHas (entered h) vs × ((k : Sink) → Answers s (read_out k) (sends k (lines vs)) (in_phase used_up s))

-- two entries, of this register or of this and another, have equal fair copies exactly when their values are equal, and then equal cadenas
abbrev pub OneCopyEach : List Event → Type 0
OneCopyEach h₁ =
    (m₂ : List ℕ) (h₂ : List Event) (s₂ : State) → Run (new m₂) h₂ s₂ → (n₁ n₂ : ℕ) (e₁ e₂ : Entry) → nth (entered h₁) n₁ ≡ Some e₁ → nth (entered h₂) n₂ ≡ Some e₂ →
    (v₁ : Values) × EntryHas e₁ v₁ × (v₂ : Values) × EntryHas e₂ v₂ × ((fair_copy v₁ ≡ fair_copy v₂) ↔ (v₁ ≡ v₂)) × (v₁ ≡ v₂ → cadena v₁ ≡ cadena v₂)

-- an entry's fair copy, brought to a new register of enough memory under the set that passed it, is entered as 1, and that entry gives the same texts
abbrev pub CopyReturns : List Event → Type 0
CopyReturns h =
    (n : ℕ) (e : Entry) → nth (entered h) n ≡ Some e →
    (v : Values) × EntryHas e v × ((m : List ℕ) → length (fair_copy v) + 4 ≤ room m →
    (t : State) × Answers (new m) (enter e.facts (fair_copy v)) (entering (Ok 1)) t × GivesTextsOf t 1 v)

-- the memory holds the fair copies of the entries from its first byte, at most 256 and within its room, and its other bytes as they were
abbrev pub Stores : List ℕ → List Event → State → Type 0
Stores m h s =
    (vs : List Values) × Pairwise EntryHas (entered h) vs × (memory s ≡ packed (copies vs) ++ drop (length (packed (copies vs))) m)
    × (length (packed (copies vs)) ≤ room m) × (length vs ≤ 256)

-- a register just opened has no entry, whatever its memory holds
abbrev pub OpensEmpty : List ℕ → Type 0
OpensEmpty m = Answers (new m) ask_count (counting 0) (new m) × (memory (new m) ≡ m)

-- whatever calls follow, an entry's number keeps meaning the same document
abbrev pub EntriesStay : List ℕ → List Event → State → Type 0
EntriesStay m h s =
    (more : List Event) (t : State) → Run s more t →
    Run (new m) (h ++ more) t × ((n : ℕ) (e : Entry) → nth (entered h) n ≡ Some e → nth (entered (h ++ more)) n ≡ Some e)

-- the number that an entering answers is that of its document
abbrev pub NumbersEntry : List Event → State → Type 0
NumbersEntry h s =
    (facts : Facts) (d : List ℕ) (n : ℕ) (t : State) → Step s (enter facts d) (entering (Ok n)) t →
    (n ≡ suc (length (entered h)))
    × (nth (entered (h ++ record { call = enter facts d; answer = entering (Ok n) } ∷ [])) n ≡ Some (record { facts = facts; document = d }))

-- what holds of a register after a history of calls on a memory
pub record Promises (m : List ℕ) (h : List Event) (s : State) : Type 0 where
  pub phase_follows : PhaseFollows h s
  pub one_answer : OneAnswer s
  pub tells_repeats : TellsRepeats h s
  pub enters_others : EntersOthers m h s
  pub tells_first_fault : TellsFirstFault s
  pub entries_lawful : EntriesLawful h
  pub refusals_change_nothing : RefusalsChangeNothing s
  pub gives_texts : GivesTexts h s
  pub tells_no_entry : TellsNoEntry h s
  pub counts_entries : CountsEntries h s
  pub reads_all_out : ReadsAllOut h s
  pub one_copy_each : OneCopyEach h
  pub copy_returns : CopyReturns h
  pub stores : Stores m h s
  pub opens_empty : OpensEmpty m
  pub entries_stay : EntriesStay m h s
  pub numbers_entry : NumbersEntry h s

-- the promises hold after every list of calls on a new register, granted or refused
abbrev pub History : Type 0
History = (m : List ℕ) (h : List Event) (s : State) → Run (new m) h s → Promises m h s

-- Serie "A" without Folio and Folio "A" without Serie have one cadena, and become entries 1 and 2 of a register of at least 4,096 bytes
abbrev pub TwoEntries : Type 0
TwoEntries =
    (cadena with_serie ≡ cadena with_folio)
    × ((m : List ℕ) → 4096 ≤ length m →
    (s : State) × Run (new m)
    (record { call = enter ruled (fair_copy with_serie); answer = entering (Ok 1) }
    ∷ record { call = enter ruled (fair_copy with_folio); answer = entering (Ok 2) }
    ∷ []) s)

-- the cadenas of all entries with their line feeds are together no longer than the room, after every list of calls on a new register
abbrev pub ReadingOutFits : Type 0
ReadingOutFits =
    (m : List ℕ) (h : List Event) (s : State) → Run (new m) h s →
    (vs : List Values) × Pairwise EntryHas (entered h) vs × (length (lines vs) ≤ room m)

-- how many bytes of a text pass is the longest beginning that the rule allows byte by byte, and no other number is
abbrev pub PassedExactly : Type 0
PassedExactly = (rule : List ℕ → ℕ → Bool) (taken text : List ℕ) (n : ℕ) → Longest rule taken text n ↔ (n ≡ passed rule taken text)
