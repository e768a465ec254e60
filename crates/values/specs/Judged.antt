-- What the judgement of one value answers.
use Rattle.std.specs.Prelude.{◌≡◌, ℕ, true, false, List, Some, None, Ok, Err, Option, Result}
use Rattle.rules.specs.Kinds.{keep, admitted, catalogue_of}
use Rattle.rules.specs.Catalogues.{Facts}
use Rattle.rules.specs.declared.schema.Kind.{Kind}
use Rattle.rules.specs.declared.schema.Catalogue.{Catalogue}
use Rattle.values.specs.declared.judgement.ValueFault.{ValueFault}
use Rattle.values.specs.declared.judgement.ValueFault.TheVariants.{NotAdmitted, NotInCatalogue}

-- a code that is admitted, and what its catalogue has for it
pub record Looked (facts : Facts) (k : Kind) (s : List ℕ) (found : Option ℕ) : Type 0 where
  pub catalogue : Catalogue
  pub is_code : catalogue_of k ≡ Some catalogue
  pub admits_it : admitted k s ≡ true
  pub finds : facts catalogue (keep k s) ≡ found

-- the decimals of a code, nothing for a value of another kind, 8 where the kind does not admit it, 9 where the catalogue does not have it
abbrev pub Judged : Facts → Kind → List ℕ → Result (Option ℕ) ValueFault → Type 0
Judged facts k s (Ok (Some d)) = Looked facts k s (Some d)
Judged facts k s (Ok None) = (catalogue_of k ≡ None) × (admitted k s ≡ true)
Judged facts k s (Err NotAdmitted) = admitted k s ≡ false
Judged facts k s (Err (NotInCatalogue f)) = Looked facts k s None
