-- The laws of verdicts.
use Rattle.std.specs.Prelude.{◌≡◌, ℕ, List, Option}
use Rattle.rules.specs.Bytes.{Among}
use Rattle.rules.specs.Located.{Elements}
use Rattle.rules.specs.Values.{Values}
use Rattle.rules.specs.Faults.{Judgement}
use Rattle.rules.specs.Catalogues.{Facts, CatalogueFirst}
use Rattle.rules.specs.Grounds.{LettersFault, TreeFault, Standing, NamesFault, ValuesFault, AccountFault, Finds, First, Lawful, HasValues, Verdict}
use Rattle.rules.specs.declared.grounds.Fault.{Fault}
use Rattle.rules.specs.declared.schema.Node.{Node}

-- whether something is found is decided, and which of it is the first
abbrev pub Decided : (Fault → Type 0) → Type 0
Decided Found = (o : Option Fault) × Judgement Found o

-- what is found at some part of a list
abbrev pub Some_of : {S : Type 0} → (S → Fault → Type 0) → List S → Fault → Type 0
Some_of {S} P ss f = (s : S) × Among s ss × P s f

-- the layers are decided, each with no regard to the others: letters, tree, the names and values of each node, accounts
pub record LayersDecided : Type 0 where
  pub letters_decided : (d : List ℕ) → Decided (LettersFault d)
  pub tree_decided : (p : Option Node) (sofar : List Node) (ends : ℕ) (es : Elements) → Decided (TreeFault p sofar ends es)
  pub names_decided : (s : Standing) → Decided (NamesFault s)
  pub values_decided : (facts : Facts) (s : Standing) → Decided (ValuesFault facts s)
  pub accounts_decided : (d : ℕ) (es : Elements) → Decided (AccountFault d es)

-- a document is never both lawful and at fault, has one first fault at most, and so allows one answer
pub record OneVerdict (facts : Facts) (d : List ℕ) : Type 0 where
  pub never_both : (f : Fault) → Lawful facts d → First facts d f → ⊥
  pub one_first : (f g : Fault) → First facts d f → First facts d g → f ≡ g
  pub one_answer : (a b : Option Fault) → Judgement (Finds facts d) a → Judgement (Finds facts d) b → a ≡ b

-- this holds of every document under every set
abbrev pub OneVerdictAtMost : Type 0
OneVerdictAtMost = (facts : Facts) (d : List ℕ) → OneVerdict facts d

-- a catalogue text has one first fault at most
abbrev pub OneCatalogueFirst : Type 0
OneCatalogueFirst = (t : List ℕ) (f g : Fault) → CatalogueFirst t f → CatalogueFirst t g → f ≡ g

-- exactly one of the two: a document is lawful and has one set of values, or it has one first fault
pub record ItsVerdict (facts : Facts) (d : List ℕ) : Type 0 where
  pub verdict : Verdict facts d
  pub only_one : OneVerdict facts d
  pub one_values : (v w : Values) → HasValues d v → HasValues d w → v ≡ w

-- every list of bytes has its verdict under every set
abbrev pub EveryVerdict : Type 0
EveryVerdict = (facts : Facts) (d : List ℕ) → ItsVerdict facts d
