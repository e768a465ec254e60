-- The start tag of an element after its name: what one more byte makes of it.
use Rattle.std.specs.Prelude.{◌≡◌, ℕ, ◌<◌, ◌≤◌, cond, List, length, Some, None, Option, ◌==◌, slice_index}
use Rattle.markup.specs.declared.tag.Quote.{Quote}
use Rattle.markup.specs.declared.tag.Quote.TheVariants.{Single, Double}
use Rattle.markup.specs.declared.tag.Spelling.{Spelling}
use Rattle.markup.specs.declared.tag.Spelling.TheVariants.{Begun, A, Am, Ap, Apo, Angle, Q, Qu, Quo, Whole}
use Rattle.markup.specs.declared.tag.State.{State}
use Rattle.markup.specs.declared.tag.State.TheVariants as st
use Rattle.markup.specs.declared.tag.Turn.{Turn}
use Rattle.markup.specs.declared.tag.Turn.TheVariants.{Goes, Opens, Closes, Refuses}
use Rattle.rules.specs.Bytes.{blank, name_byte}
use Rattle.rules.specs.Markup.{plain_byte, quote_byte, Quote as Mark, single, double}

-- a quote of the code, as the tree of markup has it
abbrev pub quoted : Quote → Mark
quoted Single = single
quoted Double = double

-- the byte of a quote
abbrev pub mark : Quote → ℕ
mark q = quote_byte (quoted q)

-- at the byte c an escape is spelled as far as e, and at another it goes on as told
abbrev on : ℕ → ℕ → Spelling → Option Spelling → Option Spelling
on b c e other = cond (b == c) (Some e) other

-- an escape with one byte more, before its ';'
abbrev pub spell : Spelling → ℕ → Option Spelling
spell Begun b = on b 97 A (on b 108 Angle (on b 103 Angle (on b 113 Q None)))
spell A b = on b 109 Am (on b 112 Ap None)
spell Am b = on b 112 Whole None
spell Ap b = on b 111 Apo None
spell Apo b = on b 115 Whole None
spell Angle b = on b 116 Whole None
spell Q b = on b 117 Qu None
spell Qu b = on b 111 Quo None
spell Quo b = on b 116 Whole None
spell Whole b = None

-- what one more byte makes of a start tag: another state, its end by '>', its end by '/>', or nothing
pub data Move : Type 0 where
  to : State → Move
  opens : Move
  closes : Move
  stuck : Move

-- the move that a turn of the machine makes, where its state is then t
abbrev pub moved : Turn → State → Move
moved Goes t = to t
moved Opens t = opens
moved Closes t = closes
moved Refuses t = stuck

-- after a part of the tag: a blank, a slash or the end
abbrev pub ends : ℕ → Move
ends b = cond (blank b) (to st.Gap) (cond (b == 47) (to st.Slash) (cond (b == 62) opens stuck))

-- after the name of an attribute: a blank or its '='
abbrev pub named : ℕ → Move
named b = cond (blank b) (to st.Named) (cond (b == 61) (to st.Equals) stuck)

-- an escape goes on, or there is none like it
abbrev pub spelt : Quote → Option Spelling → Move
spelt q None = stuck
spelt q (Some e) = to (st.Escape q e)

-- one byte more in an escape: the ';' of a whole one, else a letter
abbrev pub escape : Quote → Spelling → ℕ → Move
escape q Whole b = cond (b == 59) (to (st.Value q)) stuck
escape q Begun b = spelt q (spell Begun b)
escape q A b = spelt q (spell A b)
escape q Am b = spelt q (spell Am b)
escape q Ap b = spelt q (spell Ap b)
escape q Apo b = spelt q (spell Apo b)
escape q Angle b = spelt q (spell Angle b)
escape q Q b = spelt q (spell Q b)
escape q Qu b = spelt q (spell Qu b)
escape q Quo b = spelt q (spell Quo b)

-- one byte more in a start tag, by its state
abbrev pub next : State → ℕ → Move
next st.Part b = ends b
next st.Gap b = cond (name_byte b) (to st.Attribute) (ends b)
next st.Attribute b = cond (name_byte b) (to st.Attribute) (named b)
next st.Named b = named b
next st.Equals b = cond (blank b) (to st.Equals) (cond (b == 34) (to (st.Value Double)) (cond (b == 39) (to (st.Value Single)) stuck))
next (st.Value q) b = cond (b == mark q) (to st.Part) (cond (b == 38) (to (st.Escape q Begun)) (cond (plain_byte b) (to (st.Value q)) stuck))
next (st.Escape q e) b = escape q e b
next st.Slash b = cond (b == 62) closes stuck

-- the bytes of d from i up to j leave a start tag in the state t
pub record Stays (t : State) (d : List ℕ) (i j : ℕ) : Type 0 where
  pub from : i ≤ j
  pub within : j ≤ length d
  pub each : (k : ℕ) → i ≤ k → k < j → next t (slice_index d k) ≡ to t
