-- The grounds of refusal: what each layer finds in a document, and which fault is the first.
use Rattle.std.specs.Prelude.{◌≡◌, ℕ, ◌+◌, ◌<◌, ◌≤◌, Bool, true, false, cond, not, ◌&&◌, ◌||◌, ◌⊎◌, List, [], ◌∷◌, ◌++◌, length, drop, Some, None, codes, Option, nat_le}
use Rattle.rules.specs.Bytes.{same, Among}
use Rattle.rules.specs.Letters.{SpelledUpTo}
use Rattle.rules.specs.Markup.{Document, Marks, WellMarked, LongestViable}
use Rattle.rules.specs.Located.{Given, Elements, none, element, elements_of}
use Rattle.rules.specs.Kinds.{keep, admitted, catalogue_of}
use Rattle.rules.specs.Schema.{Row, Child, attributes, namespaces, needs_child, is}
use Rattle.rules.specs.Values.{Values, under, placed, slots, values_of}
use Rattle.rules.specs.Accounts.{the, rule_a, rule_b, rule_c, rule_d, rule_e, rule_f, rule_g}
use Rattle.rules.specs.Faults.{number_of, FirstOf}
use Rattle.rules.specs.Catalogues.{Facts}
use Rattle.rules.specs.declared.grounds.Rule.{Rule}
use Rattle.rules.specs.declared.grounds.Rule.TheVariants as rule
use Rattle.rules.specs.declared.grounds.Fault.{Fault}
use Rattle.rules.specs.declared.grounds.Fault.TheVariants.{TooLong, BadLetter, NotWellMarked, Misplaced, Unfinished, AttributeRefused, AttributeMissing, NotAdmitted, NotInCatalogue, AccountBroken}
use Rattle.rules.specs.declared.schema.Catalogue.{Catalogue}
use Rattle.rules.specs.declared.schema.Catalogue.TheVariants.{Moneda}
use Rattle.rules.specs.declared.schema.Node.{Node}
use Rattle.rules.specs.declared.schema.Node.TheVariants.{Comprobante, ConceptoTraslado, Traslado}

-- letters: over 65,536 bytes, or where the whole allowed characters end before the document does
pub data LettersFault (d : List ℕ) : Fault → Type 0 where
  too_long : 65536 < length d → LettersFault d TooLong
  bad_letter : (n : ℕ) → n < length d → SpelledUpTo d n → LettersFault d (BadLetter n)

-- markup: not well-marked, at the longest beginning with which some well-marked document also begins
pub data MarkupFault (d : List ℕ) : Fault → Type 0 where
  not_well_marked : (n : ℕ) → (WellMarked d → ⊥) → LongestViable d n → MarkupFault d (NotWellMarked n)

-- how many nodes of one kind stand at the front of a list
abbrev pub run : Node → List Node → ℕ
run k [] = 0
run k (j ∷ js) = cond (is j k) (1 + run k js) 0

-- a list of children is complete: for each child in order a count from its least to its most
abbrev pub complete_by : List Child → List Node → Bool
complete_by [] [] = true
complete_by [] (k ∷ ks) = false
complete_by (c ∷ cs) ks =
    nat_le c.least (run c.node ks) && (nat_le (run c.node ks) c.most && complete_by cs (drop (run c.node ks) ks))

-- a list of nodes is not empty
abbrev pub some_node : List Node → Bool
some_node [] = false
some_node (k ∷ ks) = true

-- a list of children is allowed under p
abbrev pub complete : Option Node → List Node → Bool
complete None ks = complete_by (under None) ks
complete (Some k) ks = complete_by (under (Some k)) ks && (not (needs_child k) || some_node ks)

-- children so far begin an allowed list
abbrev pub Begins : Option Node → List Node → Type 0
Begins p ks = (more : List Node) × (complete p (ks ++ more) ≡ true)

-- tree: nodes under p, after the children so far, that are misplaced, or that end before their list does;
-- the nodes that follow a misplaced one, or stand inside it, are not judged
pub data TreeFault : (p : Option Node) (sofar : List Node) (ends : ℕ) → Elements → Fault → Type 0 where
  unknown : {p : Option Node} {sofar : List Node} {ends : ℕ} {n : List ℕ} {i : ℕ} {gs : List Given} {inside : Elements} {e : ℕ} {rest : Elements} →
      placed p n ≡ None → TreeFault p sofar ends (element n i gs inside e rest) (Misplaced i)
  misplaced : {p : Option Node} {sofar : List Node} {ends : ℕ} {n : List ℕ} {i : ℕ} {gs : List Given} {inside : Elements} {e : ℕ} {rest : Elements} {k : Node} →
      placed p n ≡ Some k → (Begins p (sofar ++ k ∷ []) → ⊥) → TreeFault p sofar ends (element n i gs inside e rest) (Misplaced i)
  in_child : {p : Option Node} {sofar : List Node} {ends : ℕ} {n : List ℕ} {i : ℕ} {gs : List Given} {inside : Elements} {e : ℕ} {rest : Elements} {k : Node} {f : Fault} →
      placed p n ≡ Some k → Begins p (sofar ++ k ∷ []) → TreeFault (Some k) [] e inside f → TreeFault p sofar ends (element n i gs inside e rest) f
  past_child : {p : Option Node} {sofar : List Node} {ends : ℕ} {n : List ℕ} {i : ℕ} {gs : List Given} {inside : Elements} {e : ℕ} {rest : Elements} {k : Node} {f : Fault} →
      placed p n ≡ Some k → Begins p (sofar ++ k ∷ []) → TreeFault p (sofar ++ k ∷ []) ends rest f → TreeFault p sofar ends (element n i gs inside e rest) f
  unfinished : {p : Option Node} {sofar : List Node} {ends : ℕ} → complete p sofar ≡ false → TreeFault p sofar ends none (Unfinished ends)

-- a node that stands in its place, with the place of its '<' and its attributes as given
pub record Standing : Type 0 where
  pub kind : Node
  pub at : ℕ
  pub givens : List Given

-- a node, if there is one, and then those inside it
abbrev pub standing_here : Option Node → ℕ → List Given → (Node → List Standing) → List Standing
standing_here None i gs inside = []
standing_here (Some k) i gs inside = record { kind = k; at = i; givens = gs } ∷ inside k

-- the nodes that stand under p, in document order
abbrev pub standing_under : Option Node → Elements → List Standing
standing_under p none = []
standing_under p (element n i gs inside e rest) =
    standing_here (placed p n) i gs (λ k. standing_under (Some k) inside) ++ standing_under p rest

-- the nodes of a document, in document order
abbrev pub standing : Elements → List Standing
standing es = standing_under None es

-- every attribute that a node may have
abbrev pub rows : Node → List Row
rows k = namespaces k ++ attributes k

-- the row that has a name
abbrev pub row_of : List Row → List ℕ → Option Row
row_of [] n = None
row_of (r ∷ rs) n = cond (same r.name n) (Some r) (row_of rs n)

-- an attribute of this name is given
abbrev pub occurs : List ℕ → List Given → Bool
occurs n [] = false
occurs n (g ∷ gs) = same n g.name || occurs n gs

-- names: an attribute that no row names or that was given before, and a required attribute that is absent
pub data NamesFault : Standing → Fault → Type 0 where
  refused : {s : Standing} (g : Given) (before after : List Given) → s.givens ≡ before ++ g ∷ after →
      (row_of (rows s.kind) g.name ≡ None) ⊎ (occurs g.name before ≡ true) → NamesFault s (AttributeRefused g.name_at)
  missing : {s : Standing} (r : Row) → Among r (rows s.kind) → r.required ≡ true → occurs r.name s.givens ≡ false →
      NamesFault s (AttributeMissing s.at)

-- values: a value that its kind does not admit, and an admitted code that its catalogue does not have
pub data ValuesFault (facts : Facts) : Standing → Fault → Type 0 where
  not_admitted : {s : Standing} (g : Given) (r : Row) → Among g s.givens → row_of (rows s.kind) g.name ≡ Some r →
      admitted r.kind g.value ≡ false → ValuesFault facts s (NotAdmitted g.value_at)
  not_in_catalogue : {s : Standing} (g : Given) (r : Row) (c : Catalogue) → Among g s.givens → row_of (rows s.kind) g.name ≡ Some r →
      admitted r.kind g.value ≡ true → catalogue_of r.kind ≡ Some c → facts c (keep r.kind g.value) ≡ None →
      ValuesFault facts s (NotInCatalogue g.value_at)

-- the decimals of a currency
abbrev pub decimals_of : Facts → Option (List ℕ) → Option ℕ
decimals_of facts None = None
decimals_of facts (Some m) = facts Moneda m

-- a number, or zero where there is none
abbrev pub or_zero : Option ℕ → ℕ
or_zero None = 0
or_zero (Some n) = n

-- the decimals that a set has for the invoice's Moneda
abbrev pub decimals : Facts → Values → ℕ
decimals facts v = or_zero (decimals_of facts (the Comprobante (codes "Moneda") v))

-- the place of the root's '<'
abbrev pub root_at : Elements → ℕ
root_at none = 0
root_at (element n i gs inside e rest) = i

-- the rules that stand at the root, which are all but E
abbrev pub root_rule : Rule → ℕ → Values → Bool
root_rule rule.A d v = rule_a v
root_rule rule.B d v = rule_b v
root_rule rule.C d v = rule_c d v
root_rule rule.D d v = rule_d d v
root_rule rule.E d v = true
root_rule rule.F d v = rule_f d v
root_rule rule.G d v = rule_g v

-- accounts, with d decimals: a rule broken at the root, and rule E broken at a Traslado
pub data AccountFault (d : ℕ) (es : Elements) : Fault → Type 0 where
  at_root : (r : Rule) → root_rule r d (values_of es) ≡ false → AccountFault d es (AccountBroken r (root_at es))
  at_transfer : (s : Standing) → Among s (standing es) → (is s.kind ConceptoTraslado || is s.kind Traslado) ≡ true →
      rule_e s.kind (slots (attributes s.kind) s.givens) ≡ false → AccountFault d es (AccountBroken rule.E s.at)

-- what the grounds 1 to 10 find in a document under a set
pub data Finds (facts : Facts) (d : List ℕ) : Fault → Type 0 where
  letters : (f : Fault) → LettersFault d f → Finds facts d f
  markup : (f : Fault) → MarkupFault d f → Finds facts d f
  tree : (m : Document) (f : Fault) → Marks d m → TreeFault None [] (length d) (elements_of m) f → Finds facts d f
  names : (m : Document) (s : Standing) (f : Fault) → Marks d m → Among s (standing (elements_of m)) → NamesFault s f → Finds facts d f
  values : (m : Document) (s : Standing) (f : Fault) → Marks d m → Among s (standing (elements_of m)) → ValuesFault facts s f → Finds facts d f
  accounts : (m : Document) (f : Fault) → Marks d m → AccountFault (decimals facts (values_of (elements_of m))) (elements_of m) f → Finds facts d f

-- the first fault of a document under a set
abbrev pub First : Facts → List ℕ → Fault → Type 0
First facts d = FirstOf (Finds facts d)

-- a document is lawful under a set: the grounds 1 to 10 find nothing
abbrev pub Lawful : Facts → List ℕ → Type 0
Lawful facts d = (f : Fault) → Finds facts d f → ⊥

-- v are the values of a document
abbrev pub HasValues : List ℕ → Values → Type 0
HasValues d v = (m : Document) × Marks d m × (v ≡ values_of (elements_of m))

-- what the grounds 1 to 8 find in a document, whatever the set: its shape asks no catalogue and adds up nothing
abbrev pub ShapeFinds : List ℕ → Fault → Type 0
ShapeFinds d f = (number_of f ≤ 8) × ((facts : Facts) → Finds facts d f)

-- a document has its shape: the grounds 1 to 8 find nothing
abbrev pub Shaped : List ℕ → Type 0
Shaped d = (f : Fault) → ShapeFinds d f → ⊥

-- a document is lawful and has values, or it has a first fault
abbrev pub Verdict : Facts → List ℕ → Type 0
Verdict facts d = (Lawful facts d × ((v : Values) × HasValues d v)) ⊎ ((f : Fault) × First facts d f)
