-- The shape of a document, from the layers up to values under the set that knows every code.
use Rattle.std.proofs.Common.{ℕ, ◌≤◌, List, Ok, Err, Result, refl, ⊎_elim, arith}
use Rattle.rules.specs.Faults.{number_of, Judgement, fault_of}
use Rattle.rules.specs.Grounds.{not_well_marked, Finds, letters, markup, tree, names, values, accounts, ShapeFinds, Shaped}
use Rattle.rules.specs.Located.{elements_of}
use Rattle.rules.specs.Markup.{WellMarked}
use Rattle.rules.specs.Values.{values_of}
use Rattle.rules.specs.declared.grounds.Fault.{Fault}
use Rattle.theory.specs.Shape.{every_code, HasShape}
use Rattle.theory.proofs.ShapeLaws.{accounts_number, shape_finds, shape_markup}
use Rattle.markup.proofs.Decided.{markup_decided}
use Rattle.layers.specs.Layers.{LayersJudged, EarlyFault}

-- what the layers up to values answer under that set is the judgement of the shape
pub shape_judged : (d : List ℕ) (r : Result ℕ Fault) → LayersJudged every_code d r → EarlyFault r → Judgement (ShapeFinds d) (fault_of r)
shape_judged d (Ok n) ((m, k), p) e = λ f x. none f x.0 (x.1 every_code)
  where
    none : (f : Fault) → number_of f ≤ 8 → Finds every_code d f → ⊥
    none f few (letters g x) = (p m k).letters f x
    none f few (markup g (not_well_marked i x u)) = x (m, k)
    none f few (tree j g e x) = (p j e).tree f x
    none f few (names j s g e a x) = (p j e).names f (s, a, x)
    none f few (values j s g e a x) = (p j e).values f (s, a, x)
    none f few (accounts j g e x) = omega (arith, accounts_number x)
shape_judged d (Err f) h e = (shape_finds h.0 e, λ g x. h.1 g (x.1 every_code))

-- a document that has its shape is well-marked
shape_marked : (d : List ℕ) → Shaped d → WellMarked d
shape_marked d shape = ⊎_elim (λ w. w) (λ x. absurd (shape_markup d shape _ (not_well_marked x.1.0 x.0 x.1.1.0))) (markup_decided d)

-- and so it has values
pub has_shape : (d : List ℕ) → Shaped d → HasShape d
has_shape d shape = let (m, k) = shape_marked d shape in record { shaped = shape; values = values_of (elements_of m); has_values = (m, k, refl) }
