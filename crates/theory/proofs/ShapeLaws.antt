-- The laws of the shape of a document, by the set that knows every code.
use Rattle.std.proofs.Common.{◌≡◌, ℕ, ◌≤◌, List, length, Option, sym, refl, subst, arith}
use Rattle.rules.specs.Markup.{Document, Marks}
use Rattle.rules.specs.Located.{Elements, elements_of}
use Rattle.rules.specs.Values.{Values, values_of}
use Rattle.rules.specs.Texts.{fair_copy}
use Rattle.rules.specs.Faults.{number_of, rank}
use Rattle.rules.specs.Catalogues.{Bounded}
use Rattle.rules.specs.Grounds.{Finds, letters, markup, tree, names, values, accounts, LettersFault, too_long, bad_letter, MarkupFault, not_well_marked, TreeFault, unknown, misplaced, in_child, past_child, unfinished, Standing, standing, NamesFault, refused, missing, not_admitted, not_in_catalogue, AccountFault, at_root, at_transfer, HasValues, ShapeFinds, Shaped}
use Rattle.rules.specs.declared.grounds.Fault.{Fault}
use Rattle.rules.specs.declared.schema.Node.{Node}
use Rattle.theory.specs.Shape.{every_code, LawfulHasShape, FairCopyKeepsShape}
use Rattle.theory.proofs.Lists.{each_from}
use Rattle.theory.proofs.Options.{none_some}
use Rattle.theory.proofs.ReadBack.{Whole}
use Rattle.theory.proofs.LawfulTree.{Clear, clear_whole, clear_shorter}
use Rattle.theory.proofs.CopyTree.{OfSlots, RulesKept}
use Rattle.theory.proofs.LawfulValues.{GoodValues, good_values, accounts_alone}
use Rattle.theory.proofs.FairCopyLaws.{reads_back}
use Rattle.theory.proofs.FirstLaws.{letters_layer, markup_layer, tree_layer, names_layer, values_layer, accounts_layer}

-- the set that knows every code is bounded
pub every_code_bounded : Bounded every_code
every_code_bounded c code d e = let z : 0 ≡ d = cc in omega arith

-- the numbers of what each layer finds
letters_number : {d : List ℕ} {f : Fault} → LettersFault d f → number_of f ≤ 8
letters_number (too_long x) = omega arith
letters_number (bad_letter n x u) = omega arith

markup_number : {d : List ℕ} {f : Fault} → MarkupFault d f → number_of f ≤ 8
markup_number (not_well_marked n x u) = omega arith

tree_number : {p : Option Node} {sofar : List Node} {ends : ℕ} {es : Elements} {f : Fault} → TreeFault p sofar ends es f → number_of f ≤ 8
tree_number (unknown h) = omega arith
tree_number (misplaced h b) = omega arith
tree_number (in_child h b t) = tree_number t
tree_number (past_child h b t) = tree_number t
tree_number (unfinished h) = omega arith

names_number : {s : Standing} {f : Fault} → NamesFault s f → number_of f ≤ 8
names_number (refused g before after e w) = omega arith
names_number (missing r a q o) = omega arith

pub accounts_number : {d : ℕ} {es : Elements} {f : Fault} → AccountFault d es f → number_of f ≡ 10
accounts_number (at_root r e) = refl
accounts_number (at_transfer s a t e) = refl

-- what the layers up to values find under the set that knows every code belongs to the shape
pub shape_finds : {d : List ℕ} {f : Fault} → Finds every_code d f → (rank f).layer ≤ 5 → ShapeFinds d f
shape_finds (letters f x) h = (letters_number x, λ facts. letters f x)
shape_finds (markup f x) h = (markup_number x, λ facts. markup f x)
shape_finds (tree m f k t) h = (tree_number t, λ facts. tree m f k t)
shape_finds (names m s f k a t) h = (names_number t, λ facts. names m s f k a t)
shape_finds (values m s f k a (not_admitted g r b q n)) h = (omega arith, λ facts. values m s f k a (not_admitted g r b q n))
shape_finds (values m s f k a (not_in_catalogue g r c b q u e n)) h = absurd (none_some n refl)
shape_finds (accounts m f k t) h = absurd (omega (arith, accounts_layer t))

module _ (d : List ℕ) (shape : Shaped d) where
  -- the layers up to values find nothing
  found_none : (f : Fault) → Finds every_code d f → (rank f).layer ≤ 5 → ⊥
  found_none f x h = shape f (shape_finds x h)

  pub shape_letters : (f : Fault) → LettersFault d f → ⊥
  shape_letters f x = found_none f (letters f x) (omega (arith, letters_layer x))

  pub shape_markup : (f : Fault) → MarkupFault d f → ⊥
  shape_markup f x = found_none f (markup f x) (omega (arith, markup_layer x))

  pub shape_clear : (m : Document) → Marks d m → Clear every_code d m
  shape_clear m k = record {
    in_order = λ f t. found_none f (tree m f k t) (omega (arith, tree_layer t));
    clean_nodes = λ s a. (λ f t. found_none f (names m s f k a t) (omega (arith, names_layer t)), λ f t. found_none f (values m s f k a t) (omega (arith, values_layer t)));
  }

  -- the values of a document that has its shape are whole
  pub shape_whole : (v : Values) → HasValues d v → Whole v
  shape_whole v h = subst Whole (sym h.2) (clear_whole every_code d h.0 (shape_clear h.0 h.1))

  pub shape_shorter : (v : Values) → HasValues d v → length (fair_copy v) ≤ length d
  shape_shorter v h = rw h.2 (clear_shorter every_code d h.0 (shape_clear h.0 h.1) h.1)

-- a shape asks nothing more of a node
abbrev Nothing : OfSlots
Nothing k s = Unit {0}

shape_values : (d : List ℕ) (m : Document) → Shaped d → Marks d m → GoodValues every_code Nothing (values_of (elements_of m))
shape_values d m shape k =
    let c = shape_clear d shape m k in
    good_values every_code Nothing d m (shape_letters d shape) c k (each_from (RulesKept every_code Nothing) (standing (elements_of m)) (λ s a. (c.clean_nodes s a, tt)))

-- the fair copy of good values has its shape
shape_from : (v : Values) → GoodValues every_code Nothing v → Shaped (fair_copy v)
shape_from v g f (few, x) = let t = (accounts_alone every_code Nothing v g f (x every_code)).3 in omega (arith, accounts_number t)

-- a lawful document has its shape
pub lawful_has_shape : LawfulHasShape
lawful_has_shape facts d l f (few, x) = l f (x facts)

-- the fair copy keeps the shape
pub copy_keeps_shape : FairCopyKeepsShape
copy_keeps_shape d v shape h = record {
  reads_back = reads_back v (shape_whole d shape v h);
  keeps_shape = shape_from v (subst (GoodValues every_code Nothing) (sym h.2) (shape_values d h.0 shape h.1));
  never_longer = shape_shorter d shape v h;
}
