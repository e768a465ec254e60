-- The kept form of a value: its escapes are resolved, tabs and line ends are spaces, each run of spaces is one, and none stands at an end.
use Rattle.std.specs.Prelude.{ℕ, zero, suc, ◌-◌, Bool, true, false, cond, ◌&&◌, List, [], ◌∷◌, length, Some, None, Option, ◌==◌}
use Rattle.rules.specs.Bytes.{blank}
use Rattle.rules.specs.Markup.{Escape, amp, lt, gt, quot, apos, escape_text, escape_byte}

-- a text begins with another
abbrev pub starts : List ℕ → List ℕ → Bool
starts [] bs = true
starts (n ∷ ns) [] = false
starts (n ∷ ns) (b ∷ bs) = n == b && starts ns bs

-- which of some escapes a text begins with
abbrev pub escape_among : List Escape → List ℕ → Option Escape
escape_among [] bs = None
escape_among (e ∷ es) bs = cond (starts (escape_text e) bs) (Some e) (escape_among es bs)

-- the escape that a text begins with
abbrev pub escape_at : List ℕ → Option Escape
escape_at bs = escape_among (amp ∷ lt ∷ gt ∷ quot ∷ apos ∷ []) bs

-- the byte that an escape stands for, or the byte itself
abbrev pub meant : Option Escape → ℕ → ℕ
meant None b = b
meant (Some e) b = escape_byte e

-- how many bytes follow the first one of an escape
abbrev pub tail_size : Option Escape → ℕ
tail_size None = 0
tail_size (Some e) = length (escape_text e) - 1

-- a raw value with its escapes resolved, where its first k bytes are passed over
abbrev pub resolved_past : ℕ → List ℕ → List ℕ
resolved_past k [] = []
resolved_past zero (b ∷ bs) = meant (escape_at (b ∷ bs)) b ∷ resolved_past (tail_size (escape_at (b ∷ bs))) bs
resolved_past (suc k) (b ∷ bs) = resolved_past k bs

-- a raw value, as it stands between its quotes, with each escape resolved
abbrev pub resolved : List ℕ → List ℕ
resolved raw = resolved_past 0 raw

-- what is kept after a byte that is kept
abbrev mutual
  -- what is kept of a text that follows a kept byte
  pub kept_on : List ℕ → List ℕ
  kept_on [] = []
  kept_on (b ∷ bs) = cond (blank b) (kept_gap bs) (b ∷ kept_on bs)

  -- what is kept of a text that follows a kept byte and then a blank
  pub kept_gap : List ℕ → List ℕ
  kept_gap [] = []
  kept_gap (b ∷ bs) = cond (blank b) (kept_gap bs) (32 ∷ b ∷ kept_on bs)

-- the kept form of a text, whose escapes are resolved
abbrev pub kept : List ℕ → List ℕ
kept [] = []
kept (b ∷ bs) = cond (blank b) (kept bs) (b ∷ kept_on bs)
