-- The reader of markup, byte by byte, as a function: where it stands after each byte.
use Rattle.std.specs.Prelude.{ℕ, Bool, true, false, cond, List, [], ◌∷◌, ◌++◌, length, drop, Some, None, Option, ◌==◌, nat_lt}
use Rattle.rules.specs.Bytes.{blank, name_byte}
use Rattle.rules.specs.Markup.{declaration}
use Rattle.markup.specs.declared.tag.State.{State}
use Rattle.markup.specs.Tags.{Move, to, opens, closes, stuck, ends, next}

-- the names of the elements that are open, the innermost first
abbrev pub Stack : Type 0
Stack = List (List ℕ)

-- where the reader stands
pub data Place : Type 0 where
  -- at the start of the text
  fresh : Place
  -- after a '<' at the start of the text
  angled : Place
  -- in the declaration: its next byte, and what is left after it
  declaring : ℕ → List ℕ → Place
  -- before the root
  before : Place
  -- after the '<' of a start tag: what is open around it
  start : Stack → Place
  -- in the name of a start tag: the name so far
  name : List ℕ → Stack → Place
  -- in a start tag after its name
  tag : State → List ℕ → Stack → Place
  -- between the tags of an element
  inside : List ℕ → Stack → Place
  -- after a '<' there
  angle : List ℕ → Stack → Place
  -- in an end tag: what is left of its name
  ending : List ℕ → Stack → Place
  -- after the root
  after : Place

-- after an element: inside the one around it, or after the root
abbrev pub closed : Stack → Place
closed [] = after
closed (n ∷ s) = inside n s

-- where m is left of the declaration
abbrev pub declared : List ℕ → Place
declared [] = before
declared (c ∷ m) = declaring c m

-- where a move leads in the start tag of an element x
abbrev pub land : Move → List ℕ → Stack → Option Place
land (to t) x s = Some (tag t x s)
land opens x s = Some (inside x s)
land closes x s = Some (closed s)
land stuck x s = None

-- the first byte of a name
abbrev pub begins : Stack → ℕ → Option Place
begins s b = cond (name_byte b) (Some (name (b ∷ []) s)) None

-- blanks may stand at p, and then the byte c, which leads to q
abbrev pub awaits : Place → ℕ → Place → ℕ → Option Place
awaits p c q b = cond (blank b) (Some p) (cond (b == c) (Some q) None)

-- one byte read; elements stand at most six deep
abbrev pub step : Place → ℕ → Option Place
step fresh b = cond (blank b) (Some before) (cond (b == 60) (Some angled) None)
step angled b = cond (b == 63) (Some (declared (drop 2 declaration))) (begins [] b)
step (declaring c m) b = cond (b == c) (Some (declared m)) None
step before b = awaits before 60 (start []) b
step (start s) b = begins s b
step (name x s) b = cond (name_byte b) (Some (name (x ++ b ∷ []) s)) (land (ends b) x s)
step (tag t x s) b = land (next t b) x s
step (inside n s) b = awaits (inside n s) 60 (angle n s) b
step (angle n s) b = cond (b == 47) (Some (ending n s)) (cond (nat_lt (length s) 5) (begins (n ∷ s) b) None)
step (ending (c ∷ m) s) b = cond (b == c) (Some (ending m s)) None
step (ending [] s) b = awaits (ending [] s) 62 (closed s) b
step after b = cond (blank b) (Some after) None

-- a place, if there is one, and then another
abbrev pub bind : {X Y : Type 0} → Option X → (X → Option Y) → Option Y
bind None f = None
bind (Some x) f = f x

-- a text read from p on
abbrev pub run : Place → List ℕ → Option Place
run p [] = Some p
run p (b ∷ w) = bind (step p b) (λ q. run q w)

-- a document may end here
abbrev pub finished : Place → Bool
finished fresh = false
finished angled = false
finished (declaring c m) = false
finished before = false
finished (start s) = false
finished (name x s) = false
finished (tag t x s) = false
finished (inside n s) = false
finished (angle n s) = false
finished (ending m s) = false
finished after = true
