-- The kind of the attribute of a name.
use Rattle.std.proofs.Common.{◌≡◌, ℕ, Bool, true, false, cond, List, [], ◌∷◌, map, Some, refl, ◌+◌, ◌<◌, ◌≤◌, length, get_or, drop, None, Decides, ap, ◌∙◌}
use Rattle.std.specs.List.{find}
use Rattle.std.specs.Option.{option_map}
use Rattle.rules.specs.Bytes.{same}
use Rattle.rules.specs.Grounds.{row_of}
use Rattle.schema.specs.Meant.{row_meant}
use Rattle.schema.specs.declared.attributes.Row.{Row}
use Rattle.layers.specs.Found.{kind_in, kind_named}
use Rattle.std.proofs.lemmas.List.{drop_more, drop_all}
use Rattle.std.proofs.lemmas.Bool.{cond-true, cond-false}
use Rattle.reader.proofs.Steps.{same_from}

-- the kind of the first row that has the name
pub found_named : (rs : List Row) (name : List ℕ) → option_map (λ r. r.kind) (find (λ r. same r.name.now name) rs) ≡ kind_named (map row_meant rs) name
found_named [] name = refl
found_named (r ∷ rs) name = go (same r.name.now name) (found_named rs name)
  where
    go : (b : Bool) → option_map (λ r. r.kind) (find (λ r. same r.name.now name) rs) ≡ kind_named (map row_meant rs) name →
        option_map (λ r. r.kind) (cond b (Some r) (find (λ r. same r.name.now name) rs)) ≡ kind_in (cond b (Some (row_meant r)) (row_of (map row_meant rs) name))
    go true e = refl
    go false e = e

-- the row at i, whose name has been compared with another
module _ (rs : List Row) (i : ℕ) (z : Row) (name : List ℕ) (r : Bool) (within : i < length rs) (eq : Decides r ((get_or rs i z).name.now ≡ name)) where
  pub named_here : r ≡ true → kind_named (map row_meant (drop i rs)) name ≡ Some (get_or rs i z).kind
  named_here h = ap (λ x. kind_named (map row_meant x) name) (drop_more rs i z within) ∙ ap kind_in (cond-true _ _ _ (same_from _ name r eq ∙ h))

  pub named_later : r ≡ false → kind_named (map row_meant (drop i rs)) name ≡ kind_named (map row_meant (drop (i + 1) rs)) name
  named_later h = ap (λ x. kind_named (map row_meant x) name) (drop_more rs i z within) ∙ ap kind_in (cond-false _ _ _ (same_from _ name r eq ∙ h))

pub named_nowhere : (rs : List Row) (i : ℕ) (name : List ℕ) → length rs ≤ i → kind_named (map row_meant (drop i rs)) name ≡ None
named_nowhere rs i name h = ap (λ x. kind_named (map row_meant x) name) (drop_all i rs h)
