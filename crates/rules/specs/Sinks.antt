-- Sinks: what a sink means, what it is to send a text to it and what that answers, and the rules of a buffer and of a matcher.
use Rattle.std.specs.Prelude.{◌≡◌, ℕ, suc, ◌<◌, ◌≤◌, Bool, true, false, cond, ◌&&◌, List, [], ◌∷◌, ◌++◌, length, take, Ok, Err, Result, ◌==◌, nat_lt, slice_index}
use Rattle.rules.specs.declared.grounds.Fault.{Fault}
use Rattle.rules.specs.declared.grounds.Fault.TheVariants.{Stopped}

-- a sink means the bytes that it has taken and a rule, fixed for its life, telling which byte may follow
pub record Sink : Type 0 where
  pub allows : List ℕ → ℕ → Bool
  pub taken : List ℕ

-- a buffer of a size allows bytes until it is full
abbrev pub buffer_rule : ℕ → List ℕ → ℕ → Bool
buffer_rule size taken byte = nat_lt (length taken) size

-- a matcher allows only the next expected byte
abbrev pub matcher_rule : List ℕ → List ℕ → ℕ → Bool
matcher_rule expected taken byte = nat_lt (length taken) (length expected) && slice_index expected (length taken) == byte

-- how many bytes of a text a rule lets pass, after those taken, up to the first that it refuses
abbrev pub passed : (List ℕ → ℕ → Bool) → List ℕ → List ℕ → ℕ
passed allows taken [] = 0
passed allows taken (b ∷ bs) = cond (allows taken b) (suc (passed allows (taken ++ b ∷ []) bs)) 0

-- the bytes that a sink has once a text was sent to it
abbrev pub taken_after : (List ℕ → ℕ → Bool) → List ℕ → List ℕ → List ℕ
taken_after allows taken text = taken ++ take (passed allows taken text) text

-- what is answered where n bytes of a text of m were taken: done where that is all, else stopped with the bytes taken in this call
abbrev pub sent_answer : ℕ → ℕ → Result (Unit {0}) Fault
sent_answer n m = cond (n == m) (Ok tt) (Err (Stopped n))

-- what sending a text answers
abbrev pub send_answer : (List ℕ → ℕ → Bool) → List ℕ → List ℕ → Result (Unit {0}) Fault
send_answer allows taken text = sent_answer (passed allows taken text) (length text)

-- what a rule says of byte k of a text, where the bytes before it are taken
abbrev pub allows_at : (List ℕ → ℕ → Bool) → List ℕ → List ℕ → ℕ → Bool
allows_at rule taken text k = rule (taken ++ take k text) (slice_index text k)

-- n bytes are the longest beginning of a text that a rule allows one after another
pub record Longest (rule : List ℕ → ℕ → Bool) (taken text : List ℕ) (n : ℕ) : Type 0 where
  pub within : n ≤ length text
  pub allowed : (k : ℕ) → k < n → allows_at rule taken text k ≡ true
  pub stops : n < length text → allows_at rule taken text n ≡ false

-- a text was sent to a sink: it has taken the longest beginning that its rule allows, the rule is as it was, and the answer tells
pub record Sent (rule : List ℕ → ℕ → Bool) (taken text : List ℕ) (answer : Result (Unit {0}) Fault) (rule' : List ℕ → ℕ → Bool) (taken' : List ℕ) : Type 0 where
  pub count : ℕ
  pub longest : Longest rule taken text count
  pub grown : taken' ≡ taken ++ take count text
  pub same_rule : rule' ≡ rule
  pub answered : answer ≡ sent_answer count (length text)
