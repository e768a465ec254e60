-- The child that carries a name.
use Rattle.std.proofs.Common.{◌≡◌, ℕ, Bool, true, false, cond, eqb, List, [], ◌∷◌, map, Some, refl, rules, ◌+◌, ◌<◌, ◌≤◌, length, get_or, drop, None, Decides, sym, ap, ◌∙◌}
use Rattle.std.proofs.lemmas.Slice.Eq.{compares_Decides, slice_eq-Decides}
use Rattle.std.proofs.lemmas.Bool.Decides.{Decides-eqb, same_from_decides}
use Rattle.std.specs.Cmp.Lexicographic.{pointwise}
use Rattle.std.specs.List.{find}
use Rattle.std.specs.Option.{option_map}
use Rattle.rules.specs.Bytes.{same}
use Rattle.rules.specs.Schema.{tag}
use Rattle.rules.specs.Values.{named}
use Rattle.schema.specs.declared.places.Child.{Child}
use Rattle.schema.specs.Meant.{child_meant}
use Rattle.std.proofs.lemmas.List.{drop_more, drop_all}
use Rattle.std.proofs.lemmas.Bool.{cond-true, cond-false}

pub same_compared : (xs ys : List ℕ) (r : Bool) → r ≡ pointwise eqb xs ys → r ≡ same xs ys
same_compared xs ys r e = same_from_decides r (same xs ys) (slice_eq-Decides Decides-eqb xs ys r e) (compares_Decides same (search rules) xs ys)

-- the node of the first child whose tag is the name
pub found_named : (cs : List Child) (name : List ℕ) → option_map (λ c. c.node) (find (λ c. same (tag c.node) name) cs) ≡ named (map child_meant cs) name
found_named [] name = refl
found_named (c ∷ cs) name = go (same (tag c.node) name) (found_named cs name)
  where
    go : (b : Bool) → option_map (λ c. c.node) (find (λ c. same (tag c.node) name) cs) ≡ named (map child_meant cs) name →
        option_map (λ c. c.node) (cond b (Some c) (find (λ c. same (tag c.node) name) cs)) ≡ cond b (Some c.node) (named (map child_meant cs) name)
    go true e = refl
    go false e = e

same_tested : (xs ys : List ℕ) (r : Bool) → Decides r (xs ≡ ys) → same xs ys ≡ r
same_tested xs ys r h = same_from_decides (same xs ys) r (compares_Decides same (search rules) xs ys) h

-- the child at i, whose tag t has been compared with a name
module _ (cs : List Child) (i : ℕ) (z : Child) (name t : List ℕ) (r : Bool) (within : i < length cs)
    (is : t ≡ tag (get_or cs i z).node) (eq : Decides r (t ≡ name)) where
  tested : same (tag (get_or cs i z).node) name ≡ r
  tested = ap (λ x. same x name) (sym is) ∙ same_tested t name r eq

  pub carries : r ≡ true → named (map child_meant (drop i cs)) name ≡ Some (get_or cs i z).node
  carries h = ap (λ x. named (map child_meant x) name) (drop_more cs i z within) ∙ cond-true _ _ _ (tested ∙ h)

  pub passes : r ≡ false → named (map child_meant (drop i cs)) name ≡ named (map child_meant (drop (i + 1) cs)) name
  passes h = ap (λ x. named (map child_meant x) name) (drop_more cs i z within) ∙ cond-false _ _ _ (tested ∙ h)

pub none_left : (cs : List Child) (i : ℕ) (name : List ℕ) → length cs ≤ i → named (map child_meant (drop i cs)) name ≡ None
none_left cs i name h = ap (λ x. named (map child_meant x) name) (drop_all i cs h)
