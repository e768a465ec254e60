-- The walk through a document with the fields that are written on the way.
use Rattle.std.proofs.Common.{◌≡◌, ℕ, ◌+◌, ◌<◌, Bool, true, false, List, [], ◌∷◌, ◌++◌, length, Some, None, Ok, Err, Option, sym, refl, ap, ◌∙◌, subst, arith}
use Rattle.rules.specs.Located.{Elements, none, element, elements_of}
use Rattle.rules.specs.Markup.{Document}
use Rattle.rules.specs.Texts.{fields}
use Rattle.rules.specs.Values.{placed, values_of}
use Rattle.rules.specs.Grounds.{Standing, standing_here, standing_under, standing, NamesFault}
use Rattle.rules.specs.declared.grounds.Fault.{Fault}
use Rattle.rules.specs.declared.schema.Node.{Node}
use Rattle.theory.proofs.Lists.{Each, each_from, each_split}
use Rattle.reader.specs.Slots.{standing_of}
use Rattle.sinks.specs.Writers.{Writing, Written}
use Rattle.sinks.specs.declared.writer.Refused.{Refused}
use Rattle.walk.specs.Events.{start, Occurrence, opened, closed, met_at, met_under, met, told, Found}
use Rattle.walk.specs.Coming.{Comes, Gives, InOrder}
use Rattle.walk.specs.declared.event.Event.{Event}
use Rattle.walk.specs.declared.cursor.Walk.{Walk}
use Rattle.original.specs.Joined.{joined_on}
use Rattle.original.specs.Totals.{no_totals, SoundAt, met_fields, met_totals}
use Rattle.original.specs.Wrote.{owed, Wrote, WellNamed}
use Rattle.original.specs.declared.fields.Fields.{Fields}
use Rattle.original.proofs.Joining.{Partly, none_yet, same_left, told_as, some_more, no_more, all_done}
use Rattle.original.proofs.Walked.{all_fields, fields_met}

-- no fault in the names of a node's attributes
abbrev Named : Standing → Type 0
Named s = (f : Fault) → NamesFault s f → ⊥

-- a node that is opened has its attributes after its '<', and no fault in their names
abbrev pub NoFault : Occurrence → Type 0
NoFault (opened s) = (s.place < s.attributes) × Named (standing_of s.node s.place s.givens)
NoFault (closed k) = Unit {0}

faultless : (es : Elements) (p : Option Node) (more : List Occurrence) → Each Named (standing_under p es) → Each NoFault more → Each NoFault (met_under p es more)
faultless none p more h m = m
faultless (element n i gs inside e rest) p more h m = go (placed p n) (λ k. faultless inside (Some k) (closed k ∷ met_under p rest more)) (λ a. faultless rest p more a m) h
  where
    go : (o : Option Node) → ((k : Node) → Each Named (standing_under (Some k) inside) → Each NoFault (closed k ∷ met_under p rest more) → Each NoFault (met_under (Some k) inside (closed k ∷ met_under p rest more))) →
        (Each Named (standing_under p rest) → Each NoFault (met_under p rest more)) →
        Each Named (standing_here o i gs (λ k. standing_under (Some k) inside) ++ standing_under p rest) →
        Each NoFault (met_at o (λ k. opened (start k n i gs inside) ∷ met_under (Some k) inside (closed k ∷ met_under p rest more)) (met_under p rest more))
    go None f g h = g h
    go (Some k) f g h =
        let (a, b) = each_split Named (standing_under (Some k) inside) (standing_under p rest) h.1 in
        let low : i < i + 1 + length n = omega arith in
        ((low, h.0), f k a (tt, g b))

-- all that is met in a well-named document
pub faultless_met : (m : Document) → WellNamed m → Each NoFault (met m)
faultless_met m h = faultless (elements_of m) None [] (each_from Named (standing (elements_of m)) (λ s a f n. h s f a n)) tt

sound_at : (d : List ℕ) (o : Occurrence) → Found d o → NoFault o → SoundAt d o
sound_at d (opened s) f n = record { tagged = f; after = n.0; named = n.1 }
sound_at d (closed k) f n = tt

module _ {W : Type 0} (w : Writing W) (d : List ℕ) (m : Document) (a : W) (b : Bool) where
  -- the fields of the values
  abbrev whole : List (List ℕ)
  whole = fields (λ k. true) (values_of (elements_of m))

  -- some fields are written, and those of what the walk is still to meet are left
  abbrev pub Underway : Walk → Fields W → Type 0
  Underway v p = (os : List Occurrence) × Comes v os × Each NoFault os × Partly w a b whole (all_fields (owed p) os) p.begun p.to.now

  -- at the start
  pub starts : (v : Walk) (p : Fields W) → p.begun ≡ b → p.to.now ≡ a → owed p ≡ no_totals → InOrder d m → WellNamed m → Comes v (met m) → Underway v p
  starts v p begun to owes good named c = (
    met m,
    c,
    faultless_met m named,
    told_as (same_left none_yet (sym (fields_met d m good) ∙ ap (λ t. all_fields t (met m)) (sym owes))) begun to,
  )

  module _ (v v' : Walk) (p p' : Fields W) (same : v.document.now ≡ d) (over : p.document.now ≡ d) (under : Underway v p) (e : Event) where
    -- one event more
    pub goes_on : ((os : List Occurrence) → Comes v os → Gives os v.document.now (Some e) v') →
        ((o : Occurrence) → e ≡ told o → SoundAt p.document.now o → Wrote w p (met_fields (owed p) o) (met_totals (owed p) o) (Ok tt) p') → Underway v' p'
    goes_on gives wrote = go under.0 under.2 under.3 (gives under.0 under.1)
      where
        go : (os : List Occurrence) → Each NoFault os → Partly w a b whole (all_fields (owed p) os) p.begun p.to.now → Gives os v.document.now (Some e) v' → Underway v' p'
        go [] n q g = let x = g.0 in let z : ◌≡◌ {A = ℕ} 0 1 = cc in absurd (omega arith)
        go (o ∷ os) n q (g, f, come) =
            let one : e ≡ told o = cc in
            let done = wrote o one (subst (λ x. SoundAt x o) (sym over) (sound_at d o (subst (λ x. Found x o) same f) n.0)) in
            (os, come, n.1, same_left (some_more q (met_fields (owed p) o) (all_fields (met_totals (owed p) o) os) refl done.text done.begun) (ap (λ t. all_fields t os) (sym done.owes)))

    -- a byte is refused
    pub stops : (r : Refused) → ((os : List Occurrence) → Comes v os → Gives os v.document.now (Some e) v') →
        ((o : Occurrence) → e ≡ told o → SoundAt p.document.now o → Wrote w p (met_fields (owed p) o) (met_totals (owed p) o) (Err r) p') → Written w a (joined_on b whole) false p'.to.now
    stops r gives wrote = go under.0 under.2 under.3 (gives under.0 under.1)
      where
        go : (os : List Occurrence) → Each NoFault os → Partly w a b whole (all_fields (owed p) os) p.begun p.to.now → Gives os v.document.now (Some e) v' → Written w a (joined_on b whole) false p'.to.now
        go [] n q g = let x = g.0 in let z : ◌≡◌ {A = ℕ} 0 1 = cc in absurd (omega arith)
        go (o ∷ os) n q (g, f, come) =
            let one : e ≡ told o = cc in
            let done = wrote o one (subst (λ x. SoundAt x o) (sym over) (sound_at d o (subst (λ x. Found x o) same f) n.0)) in
            no_more q (met_fields (owed p) o) (all_fields (met_totals (owed p) o) os) refl done.text

  -- the document ends
  pub ends : (v v' : Walk) (p : Fields W) → Underway v p → ((os : List Occurrence) → Comes v os → Gives os v.document.now None v') → Written w a (joined_on b whole) true p.to.now
  ends v v' p under gives = go under.0 under.3 (gives under.0 under.1)
    where
      go : (os : List Occurrence) → Partly w a b whole (all_fields (owed p) os) p.begun p.to.now → Gives os v.document.now None v' → Written w a (joined_on b whole) true p.to.now
      go [] q g = (all_done q refl).0
      go (o ∷ os) q (g, f, come) = let z : ◌≡◌ {A = ℕ} 0 1 = cc in absurd (omega arith)
