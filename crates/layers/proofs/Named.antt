-- The names of the attributes of a node that is met.
use Rattle.std.proofs.Common.{◌≡◌, ℕ, ◌<◌, true, List, ◌++◌, drop, Option, sym, subst, arith}
use Rattle.rules.specs.Bytes.{blank, all}
use Rattle.rules.specs.Faults.{Judgement}
use Rattle.rules.specs.Grounds.{NamesFault}
use Rattle.rules.specs.Located.{givens}
use Rattle.rules.specs.Markup.{Attribute, attribute_ok}
use Rattle.rules.specs.declared.grounds.Fault.{Fault}
use Rattle.theory.specs.On.{attributes_on, closes}
use Rattle.reader.specs.Slots.{standing_of}
use Rattle.walk.specs.Events.{Start, Occurrence, opened, closed, told, Found}
use Rattle.walk.specs.declared.event.Event.TheVariants as event
use Rattle.walk.specs.declared.event.Opened.{Opened}
use Rattle.layers.specs.Meeting.{Met, Starts}

-- the event's own record of a node that is opened
abbrev pub told_of : Start → Opened
told_of s = record { node = s.node; place = s.place; attributes = s.attributes; childless = s.childless }

-- a judgement of the names of a tag, at the places that an event tells
abbrev pub NamesJudged : List ℕ → Opened → Option Fault → Type 0
NamesJudged d x r =
    (l : List Attribute) (g z : List ℕ) → all attribute_ok l ≡ true → all blank g ≡ true → closes z ≡ true → drop x.attributes d ≡ attributes_on l (g ++ z) → x.place < x.attributes →
    Judgement (NamesFault (standing_of x.node x.place (givens x.attributes l))) r

-- is one of the node that is met
pub names_met : (d : List ℕ) (x : Opened) (r : Option Fault) → NamesJudged d x r → (o : Occurrence) → event.Opened x ≡ told o → Found d o → Starts o → Judgement (Met NamesFault o) r
names_met d x r h (opened s) e t u =
    let q : x ≡ told_of s = cc in
    let k : NamesJudged d (told_of s) r = subst (λ y. NamesJudged d y r) q h in
    subst (λ gs. Judgement (NamesFault (standing_of s.node s.place gs)) r) (sym t.are) (k t.list t.gap t.more t.good t.blanks t.shut t.shown u)
names_met d x r h (closed k) e t u = let z : ◌≡◌ {A = ℕ} 0 1 = cc in absurd (omega arith)
