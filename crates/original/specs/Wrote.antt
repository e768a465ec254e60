-- How far a cadena is written.
use Rattle.std.specs.Prelude.{◌≡◌, ℕ, List, is_ok, IfOk, Result}
use Rattle.rules.specs.Bytes.{Among}
use Rattle.rules.specs.Markup.{Document}
use Rattle.rules.specs.Located.{elements_of}
use Rattle.rules.specs.Grounds.{Standing, standing, NamesFault}
use Rattle.rules.specs.declared.grounds.Fault.{Fault}
use Rattle.sinks.specs.Writers.{Writing, Written}
use Rattle.sinks.specs.declared.writer.Refused.{Refused}
use Rattle.original.specs.Joined.{joined_on, begun_by, text_in}
use Rattle.original.specs.Totals.{Totals}
use Rattle.original.specs.declared.fields.Fields.{Fields}

-- the totals that are still to be written
abbrev pub owed : {W : Type 0} → Fields W → Totals
owed f = record { retained = text_in f.document.now f.retained; transferred = text_in f.document.now f.transferred }

-- fields were written, or a byte of them was refused; where all were written, this tells how far the cadena is written then
pub record Wrote {W : Type 0} (w : Writing W) (a : Fields W) (fs : List (List ℕ)) (t : Totals) (r : Result (Unit {0}) Refused) (b : Fields W) : Type 0 where
  pub text : Written w a.to.now (joined_on a.begun fs) (is_ok r) b.to.now
  pub begun : IfOk r (λ x. b.begun ≡ begun_by a.begun fs)
  pub owes : IfOk r (λ x. owed b ≡ t)

-- the fields of the same document, written to the same writer
pub record Same {W : Type 0} (a b : Fields W) : Type 0 where
  pub document : b.document.now ≡ a.document.now
  pub writer : b.to.ghost_name ≡ a.to.ghost_name

-- no attribute of a document is refused for its name, and none is missing
abbrev pub WellNamed : Document → Type 0
WellNamed m = (s : Standing) (f : Fault) → Among s (standing (elements_of m)) → NamesFault s f → ⊥
