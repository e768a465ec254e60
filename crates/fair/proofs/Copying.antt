-- A fair copy that is being written while the document is walked through.
use Rattle.std.proofs.Common.{◌≡◌, ℕ, Bool, true, false, List, [], ◌∷◌, Some, None, Option, sym, ap, subst, arith}
use Rattle.theory.proofs.Lists.{Each}
use Rattle.walk.specs.Coming.{Comes, Gives}
use Rattle.walk.specs.Events.{Occurrence, told, Found}
use Rattle.walk.specs.declared.cursor.Walk.{Walk}
use Rattle.walk.specs.declared.event.Event.{Event}
use Rattle.sinks.specs.Writers.{Writing, Written}
use Rattle.fair.specs.Copy.{occurrence_text, opens_childless, copy, Fine}
use Rattle.fair.proofs.Progress.{Left, left_as, more_written, refused, none_left}

-- what a walk is still to meet is left of a whole text
pub record Copying {W : Type 0} (w : Writing W) (a : W) (whole : List ℕ) (walk : Walk) (childless : Bool) (b : W) : Type 0 where
  pub coming : List Occurrence
  pub comes : Comes walk coming
  pub fine : Each Fine coming
  pub left : Left w a whole (copy childless coming) b

-- a walk gives an answer, and goes on as another
abbrev pub Turned : Walk → Option Event → Walk → Type 0
Turned walk e walk' = (os : List Occurrence) → Comes walk os → Gives os walk.document.now e walk'

module _ {W : Type 0} {w : Writing W} {a b : W} {whole : List ℕ} {walk walk' : Walk} {childless : Bool} where
  module _ {c : W} (d : List ℕ) (same : walk.document.now ≡ d) (e : Event) (turned : Turned walk (Some e) walk') (p : Copying w a whole walk childless b) where
    pub copy_more : (childless' : Bool) → ((o : Occurrence) → e ≡ told o → childless' ≡ opens_childless o) → ((o : Occurrence) → e ≡ told o → Found d o → Fine o → Written w b (occurrence_text childless o) true c) → Copying w a whole walk' childless' c
    copy_more childless' is written = go p.coming (turned p.coming p.comes) p.fine p.left
      where
        go : (os : List Occurrence) → Gives os walk.document.now (Some e) walk' → Each Fine os → Left w a whole (copy childless os) b → Copying w a whole walk' childless' c
        go [] g f l = absurd (let x = g.0 in let z : ◌≡◌ {A = ℕ} 0 1 = cc in omega arith)
        go (o ∷ os) (g, found, next) (f, fs) l =
            let q : e ≡ told o = cc in
            record { coming = os; comes = next; fine = fs; left = left_as (ap (λ x. copy x os) (sym (is o q))) (more_written (written o q (subst (λ x. Found x o) same found) f) l) }

    pub copy_refused : {all : Bool} → all ≡ false → ((o : Occurrence) → e ≡ told o → Found d o → Fine o → Written w b (occurrence_text childless o) false c) → Written w a whole all c
    copy_refused {all} no' written = go p.coming (turned p.coming p.comes) p.fine p.left
      where
        go : (os : List Occurrence) → Gives os walk.document.now (Some e) walk' → Each Fine os → Left w a whole (copy childless os) b → Written w a whole all c
        go [] g f l = absurd (let x = g.0 in let z : ◌≡◌ {A = ℕ} 0 1 = cc in omega arith)
        go (o ∷ os) (g, found, next) (f, fs) l =
            let q : e ≡ told o = cc in
            refused no' (copy (opens_childless o) os) (written o q (subst (λ x. Found x o) same found) f) l

  pub copy_done : Turned walk None walk' → Copying w a whole walk childless b → Written w a whole true b
  copy_done turned p = go p.coming (turned p.coming p.comes) p.left
    where
      go : (os : List Occurrence) → Gives os walk.document.now None walk' → Left w a whole (copy childless os) b → Written w a whole true b
      go [] g l = none_left l
      go (o ∷ os) (g, found, next) l = absurd (let z : ◌≡◌ {A = ℕ} 0 1 = cc in omega arith)
