-- There is one first fault at most.
use Rattle.std.proofs.Common.{◌≡◌, ℕ, Bool, true, cond, eqb, leb, List, Some, None, Option, sym, refl, ap, ◌∙◌, arith}
use Rattle.std.proofs.lemmas.Bool.{false≢true}
use Rattle.std.proofs.lemmas.Bool.Decides.{nat_tests}
use Rattle.rules.specs.Located.{Elements}
use Rattle.rules.specs.Catalogues.{Facts, CatalogueFinds, too_long as long_table, too_many, no_header, bad_header, no_fact, repeats, not_ended}
use Rattle.rules.specs.Faults.{Rank, rank, not_after, FirstOf, Judgement}
use Rattle.rules.specs.Grounds.{Finds, letters, markup, LettersFault, too_long, bad_letter, MarkupFault, not_well_marked, tree, names, values, accounts, TreeFault, unknown, misplaced, in_child, past_child, unfinished, Standing, NamesFault, refused, missing, ValuesFault, not_admitted, not_in_catalogue, AccountFault, at_root, at_transfer, First}
use Rattle.rules.specs.declared.grounds.Rule.{Rule}
use Rattle.rules.specs.declared.grounds.Rule.TheVariants as rule
use Rattle.rules.specs.declared.grounds.Fault.{Fault}
use Rattle.rules.specs.declared.grounds.Fault.TheVariants.{TooLong, BadLetter, NotWellMarked, Misplaced, Unfinished, AttributeRefused, AttributeMissing, NotAdmitted, NotInCatalogue, AccountBroken, AlreadyEntered, Full, NoRoom, NoEntry, Stopped, BadCatalogue, BadCatalogueLine}
use Rattle.rules.specs.declared.schema.Node.{Node}
use Rattle.theory.specs.Grounds.{OneVerdictAtMost, OneCatalogueFirst}

-- the layer of what each layer finds
pub letters_layer : {d : List ℕ} {f : Fault} → LettersFault d f → (rank f).layer ≡ 1
letters_layer (too_long x) = refl
letters_layer (bad_letter n x u) = refl

pub markup_layer : {d : List ℕ} {f : Fault} → MarkupFault d f → (rank f).layer ≡ 2
markup_layer (not_well_marked n x u) = refl

pub tree_layer : {p : Option Node} {sofar : List Node} {ends : ℕ} {es : Elements} {f : Fault} → TreeFault p sofar ends es f → (rank f).layer ≡ 3
tree_layer (unknown h) = refl
tree_layer (misplaced h b) = refl
tree_layer (in_child h b t) = tree_layer t
tree_layer (past_child h b t) = tree_layer t
tree_layer (unfinished h) = refl

pub names_layer : {s : Standing} {f : Fault} → NamesFault s f → (rank f).layer ≡ 4
names_layer (refused g before after e w) = refl
names_layer (missing r a q o) = refl

pub values_layer : {facts : Facts} {s : Standing} {f : Fault} → ValuesFault facts s f → (rank f).layer ≡ 5
values_layer (not_admitted g r a q n) = refl
values_layer (not_in_catalogue g r c a q u e n) = refl

pub accounts_layer : {d : ℕ} {es : Elements} {f : Fault} → AccountFault d es f → (rank f).layer ≡ 6
accounts_layer (at_root r e) = refl
accounts_layer (at_transfer s a t e) = refl

-- a fault of the six layers that judge a document
abbrev early : Fault → Bool
early f = leb (rank f).layer 6

-- what is found in a document is of these layers
early_finds : {facts : Facts} {d : List ℕ} {f : Fault} → Finds facts d f → early f ≡ true
early_finds (letters f x) = ap (λ n. leb n 6) (letters_layer x)
early_finds (markup f x) = ap (λ n. leb n 6) (markup_layer x)
early_finds (tree m f k t) = ap (λ n. leb n 6) (tree_layer t)
early_finds (names m s f k a t) = ap (λ n. leb n 6) (names_layer t)
early_finds (values m s f k a t) = ap (λ n. leb n 6) (values_layer t)
early_finds (accounts m f k t) = ap (λ n. leb n 6) (accounts_layer t)

-- the rule of a letter
abbrev rule_of : ℕ → Rule
rule_of n = cond (eqb n 65) rule.A (cond (eqb n 66) rule.B (cond (eqb n 67) rule.C (cond (eqb n 68) rule.D (cond (eqb n 69) rule.E (cond (eqb n 70) rule.F rule.G)))))

-- the fault that a rank shows
abbrev shown : ℕ → ℕ → ℕ → Fault
shown l a i =
    cond (eqb l 1) (cond (eqb i 1) TooLong (BadLetter a)) (cond (eqb l 2) (NotWellMarked a) (cond (eqb l 3) (cond (eqb i 4) (Misplaced a) (Unfinished a))
    (cond (eqb l 4) (cond (eqb i 6) (AttributeRefused a) (AttributeMissing a)) (cond (eqb l 5) (cond (eqb i 8) (NotAdmitted a) (NotInCatalogue a)) (AccountBroken (rule_of a) i)))))

-- the same of a whole rank
abbrev shown_by : Rank → Fault
shown_by r = shown r.layer r.major r.minor

-- a fault is what its rank shows
shown_is : (f : Fault) → early f ≡ true → shown_by (rank f) ≡ f
shown_is TooLong h = refl
shown_is (BadLetter p) h = refl
shown_is (NotWellMarked p) h = refl
shown_is (Misplaced p) h = refl
shown_is (Unfinished p) h = refl
shown_is (AttributeRefused p) h = refl
shown_is (AttributeMissing p) h = refl
shown_is (NotAdmitted p) h = refl
shown_is (NotInCatalogue p) h = refl
shown_is (AccountBroken rule.A p) h = refl
shown_is (AccountBroken rule.B p) h = refl
shown_is (AccountBroken rule.C p) h = refl
shown_is (AccountBroken rule.D p) h = refl
shown_is (AccountBroken rule.E p) h = refl
shown_is (AccountBroken rule.F p) h = refl
shown_is (AccountBroken rule.G p) h = refl
shown_is (AlreadyEntered e) h = absurd (false≢true h)
shown_is Full h = absurd (false≢true h)
shown_is NoRoom h = absurd (false≢true h)
shown_is NoEntry h = absurd (false≢true h)
shown_is (Stopped n) h = absurd (false≢true h)
shown_is BadCatalogue h = absurd (false≢true h)
shown_is (BadCatalogueLine p) h = absurd (false≢true h)

-- two ranks, of which neither counts before the other, are one
layers : (a b : Rank) → not_after a b ≡ true → not_after b a ≡ true → a.layer ≡ b.layer
layers a b h k = grind (arith, nat_tests)

majors : (a b : Rank) → not_after a b ≡ true → not_after b a ≡ true → a.major ≡ b.major
majors a b h k = grind (arith, nat_tests)

minors : (a b : Rank) → not_after a b ≡ true → not_after b a ≡ true → a.minor ≡ b.minor
minors a b h k = grind (arith, nat_tests)

-- two first faults have one rank
pub same_rank : (Found : Fault → Type 0) (f g : Fault) → FirstOf Found f → FirstOf Found g → rank f ≡ rank g
same_rank Found f g h k =
    let a = h.1 g k.0 in
    let b = k.1 f h.0 in
    let l = layers (rank f) (rank g) a b in
    let m = majors (rank f) (rank g) a b in
    let n = minors (rank f) (rank g) a b in
    λ i. record { layer = l i; major = m i; minor = n i }

-- a document has one first fault at most
pub one_first : (facts : Facts) (d : List ℕ) (f g : Fault) → First facts d f → First facts d g → f ≡ g
one_first facts d f g h k = sym (shown_is f (early_finds h.0)) ∙ ap shown_by (same_rank (Finds facts d) f g h k) ∙ shown_is g (early_finds k.0)

-- a document allows one answer
one_answer : (facts : Facts) (d : List ℕ) (a b : Option Fault) → Judgement (Finds facts d) a → Judgement (Finds facts d) b → a ≡ b
one_answer facts d None None h k = refl
one_answer facts d None (Some g) h k = absurd (h g k.0)
one_answer facts d (Some f) None h k = absurd (k f h.0)
one_answer facts d (Some f) (Some g) h k = ap Some (one_first facts d f g h k)

-- a document has one verdict at most
pub one_verdict : OneVerdictAtMost
one_verdict facts d = record { never_both = λ f l h. l f h.0; one_first = one_first facts d; one_answer = one_answer facts d }

-- the fault of a catalogue text that a rank shows
abbrev shown_line : Rank → Fault
shown_line r = cond (eqb r.minor 16) BadCatalogue (BadCatalogueLine r.major)

-- a fault of a catalogue text is what its rank shows
line_shown : {t : List ℕ} {f : Fault} → CatalogueFinds t f → shown_line (rank f) ≡ f
line_shown (long_table x) = refl
line_shown (too_many x) = refl
line_shown (no_header e) = refl
line_shown (bad_header l ls e n) = refl
line_shown (no_fact l before after e z n) = refl
line_shown (repeats l k before after e a p) = refl
line_shown (not_ended x) = refl

-- a catalogue text has one first fault at most
pub one_catalogue_first : OneCatalogueFirst
one_catalogue_first t f g h k = sym (line_shown h.0) ∙ ap shown_line (same_rank (CatalogueFinds t) f g h k) ∙ line_shown k.0
