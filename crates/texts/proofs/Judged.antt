-- What a document that has its shape gives to its texts.
use Rattle.std.proofs.Common.{◌≡◌, ℕ, ◌^◌, ◌<◌, ◌≤◌, List, length, None, Ok, Err, OnOk, Result, refl, ⊎_elim, arith}
use Rattle.std.proofs.lemmas.Bool.{cases_lt}
use Rattle.rules.specs.Bytes.{Among}
use Rattle.rules.specs.Markup.{Document, Marks}
use Rattle.rules.specs.Located.{elements_of}
use Rattle.rules.specs.Values.{Values}
use Rattle.rules.specs.Texts.{cadena, fair_copy}
use Rattle.rules.specs.Catalogues.{Facts}
use Rattle.rules.specs.Grounds.{Standing, standing, NamesFault, too_long, HasValues, Shaped}
use Rattle.rules.specs.Faults.{fault_of}
use Rattle.rules.specs.declared.grounds.Fault.{Fault}
use Rattle.theory.specs.Shape.{HasShape}
use Rattle.layers.proofs.Shaping.{has_shape}
use Rattle.theory.proofs.FairCopyLaws.{copy_reads_back, copy_stays_lawful, copy_never_longer}
use Rattle.theory.proofs.ShapeLaws.{shape_letters, shape_clear, shape_whole, shape_shorter}
use Rattle.walk.specs.Coming.{InOrder}
use Rattle.texts.specs.Answered.{CopyLaw}
use Rattle.promises.proofs.CadenaShorter.{cadena_shorter}

module _ (d : List ℕ) (shape : Shaped d) where
  pub in_order : (m : Document) → Marks d m → InOrder d m
  in_order m k = (shape_clear d shape m k).in_order

  pub well_named : (m : Document) → Marks d m → (s : Standing) → Among s (standing (elements_of m)) → (f : Fault) → NamesFault s f → ⊥
  well_named m k s a = ((shape_clear d shape m k).clean_nodes s a).0

  -- the document is not too long, and so neither text of it is
  document_within : length d ≤ 65536
  document_within = ⊎_elim (λ h. absurd (shape_letters d shape _ (too_long h))) (λ h. h) (cases_lt 65536 (length d))

  copy_within : (v : Values) → HasValues d v → length (fair_copy v) ≤ 65536
  copy_within v h = let a = shape_shorter d shape v h in let b = document_within in omega arith

  pub copy_fits : (v : Values) → HasValues d v → length (fair_copy v) < 2 ^ 64
  copy_fits v h = let a = copy_within v h in omega arith

  pub cadena_fits : (v : Values) → HasValues d v → length (cadena v) < 2 ^ 64
  cadena_fits v h = let a = cadena_shorter v (shape_whole d shape v h) in let b = copy_within v h in omega arith

-- the laws of the fair copy, of one document
pub copy_law : (facts : Facts) (d : List ℕ) → CopyLaw facts d
copy_law facts d v l h = record { reads_back = copy_reads_back facts d v l h; stays_lawful = copy_stays_lawful d v h facts l; never_longer = copy_never_longer facts d v l h }

-- where no fault was found the document has its shape
pub shape_told : (d : List ℕ) (found : Result (Unit {0}) Fault) → (fault_of found ≡ None → Shaped d) → OnOk found (HasShape d)
shape_told d (Ok x) ok = has_shape d (ok refl)
shape_told d (Err f) ok = tt
