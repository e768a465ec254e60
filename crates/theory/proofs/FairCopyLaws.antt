-- The laws of the fair copy, from the whole values that a lawful document has.
use Rattle.std.proofs.Common.{◌≡◌, ℕ, List, sym, refl, ap, subst}
use Rattle.rules.specs.Markup.{Marks}
use Rattle.rules.specs.Values.{Values}
use Rattle.rules.specs.Texts.{cadena, fair_copy}
use Rattle.rules.specs.Catalogues.{Facts}
use Rattle.rules.specs.Grounds.{HasValues, Lawful}
use Rattle.theory.specs.FairCopy.{ReadsBack, FairCopyReadsBack, FairCopyStaysLawful, FairCopyNeverLonger, FairCopyTellsValues}
use Rattle.theory.proofs.ReadBack.{Whole, copy, copy_ok, copy_reads}
use Rattle.theory.proofs.Unique.{same_values}
use Rattle.theory.proofs.LawfulTree.{clear_whole, clear_shorter, lawful_clear}
use Rattle.theory.proofs.LawfulValues.{LawfulValues, lawful_values, lawful_from}

-- the values of a lawful document are whole
pub whole_values : (facts : Facts) (d : List ℕ) (v : Values) → Lawful facts d → HasValues d v → Whole v
whole_values facts d v l h = subst Whole (sym h.2) (clear_whole facts d h.0 (lawful_clear facts d h.0 l h.1))

-- a fair copy of whole values is well-marked
copy_marks : (v : Values) → Whole v → Marks (fair_copy v) (copy v)
copy_marks v w = (copy_ok v w, refl)

-- a fair copy of whole values has them
pub copy_has_values : (v : Values) → Whole v → HasValues (fair_copy v) v
copy_has_values v w = (copy v, copy_marks v w, sym (copy_reads v w))

-- a fair copy of whole values reads back
pub reads_back : (v : Values) → Whole v → ReadsBack v
reads_back v h =
    let only : (w : Values) → HasValues (fair_copy v) w → w ≡ v = λ w k. same_values (fair_copy v) w v k (copy_has_values v h) in
    record {
      well_marked = (copy v, copy_marks v h);
      has_values = copy_has_values v h;
      no_others = only;
      same_cadena = λ w k. ap cadena (only w k);
      own_copy = λ w k. ap fair_copy (only w k);
    }

-- the fair copy reads back
pub copy_reads_back : FairCopyReadsBack
copy_reads_back facts d v l h = reads_back v (whole_values facts d v l h)

-- the fair copy stays lawful
pub copy_stays_lawful : FairCopyStaysLawful
copy_stays_lawful d v h facts l = lawful_from facts v (subst (LawfulValues facts) (sym h.2) (lawful_values facts d h.0 l h.1))

-- the fair copy is never longer
pub copy_never_longer : FairCopyNeverLonger
copy_never_longer facts d v l h = rw h.2 (clear_shorter facts d h.0 (lawful_clear facts d h.0 l h.1) h.1)

-- whole values with equal fair copies are equal
pub equal_copies : (v w : Values) → Whole v → Whole w → fair_copy v ≡ fair_copy w → v ≡ w
equal_copies v w p q e = same_values (fair_copy w) v w (subst (λ x. HasValues x v) e (copy_has_values v p)) (copy_has_values w q)

-- fair copies are equal exactly when the values are
pub copy_tells_values : FairCopyTellsValues
copy_tells_values facts more c d v w l h m k =
    let back : fair_copy v ≡ fair_copy w → v ≡ w = equal_copies v w (whole_values facts c v l h) (whole_values more d w m k) in
    record { exactly = (back, ap fair_copy); same_cadena = λ e. ap cadena (back e) }
