-- Steps through the rows of a node's children.
use Rattle.std.proofs.Common.{◌≡◌, ℕ, ◌+◌, ◌<◌, ◌≤◌, ◌==◌, nat_lt, leb, ◌&&◌, cond, Bool, true, false, List, [], ◌∷◌, map, length, get_or, drop, Some, None, Decides, Option, sym, refl, ap, ◌∙◌, arith, rules, length-drop, take_all}
use lib.ListN.{length-map}
use Rattle.std.specs.List.{list_all, slice_range}
use Rattle.std.proofs.lemmas.Grind.{common_steps}
use Rattle.std.proofs.lemmas.Slice.Eq.{compares_Decides}
use Rattle.std.proofs.lemmas.List.{drop_more, drop_all, drop-map, get_or-map}
use Rattle.std.proofs.lemmas.Bool.{cond-true, cond-false, lt-ltb, le-ltb}
use Rattle.std.proofs.lemmas.Bool.Decides.{same_from_decides}
use Rattle.rules.specs.Bytes.{same}
use Rattle.rules.specs.Schema.{Child as Row, child, tag}
use Rattle.rules.specs.Values.{under}
use Rattle.rules.specs.declared.schema.Node.{Node}
use Rattle.rules.specs.declared.schema.Node.TheVariants.{Comprobante}
use Rattle.schema.specs.declared.places.Child.{Child}
use Rattle.schema.specs.Meant.{child_meant}
use Rattle.reader.specs.Tree.{progress, step, enough, wants_child, finished, node_at}
use Rattle.reader.specs.declared.nodes.Progress.{Progress}

pub same_decides : (xs ys : List ℕ) → Decides (same xs ys) (xs ≡ ys)
same_decides xs ys = compares_Decides same (search rules) xs ys

-- a comparison of slices is that of the rules
pub same_from : (xs ys : List ℕ) (r : Bool) → Decides r (xs ≡ ys) → same xs ys ≡ r
same_from xs ys r h = same_from_decides (same xs ys) r (same_decides xs ys) h

-- what is read past the rows
abbrev pub no_child : Child
no_child = record { node = Comprobante; least = 0; most = 0 }

-- the rows from a place on, as they are lent
pub rows_from : (cs rest : List Child) (i : ℕ) → rest ≡ slice_range cs i (length cs) → rest ≡ drop i cs
rows_from cs rest i e = e ∙ take_all _ _ (omega (arith, length-drop i cs))

pub rows_under : (p : Option Node) (cs rest : List Child) (i : ℕ) → map child_meant cs ≡ under p → rest ≡ slice_range cs i (length cs) → map child_meant rest ≡ drop i (under p)
rows_under p cs rest i e h = ap (map child_meant) (rows_from cs rest i h) ∙ sym (drop-map child_meant i cs) ∙ ap (drop i) e

-- what a loop over the rows has come to is the answer
pub step_answer : (rs : List Row) (cs : List Child) (i n j k m : ℕ) (name : List ℕ) (o : Option Progress) → map child_meant cs ≡ rs →
    step (map child_meant cs) i n name ≡ step (drop j (map child_meant cs)) k m name → step (drop j (map child_meant cs)) k m name ≡ o → o ≡ step rs i n name
step_answer rs cs i n j k m name o e inv h = sym (ap (λ t. step t i n name) (sym e) ∙ inv ∙ h)

-- the row i, which is the row j of its node, and those that follow it
module _ (cs : List Child) (i j n : ℕ) (z : Child) (within : i < length cs) where
  at_row : drop i (map child_meant cs) ≡ child_meant (get_or cs i z) ∷ drop (i + 1) (map child_meant cs)
  at_row = drop-map child_meant i cs ∙ ap (map child_meant) (drop_more cs i z within) ∙ ap (λ x. child_meant (get_or cs i z) ∷ x) (sym (drop-map child_meant (i + 1) cs))

  -- a child whose tag t has been compared with a name
  module _ (name t : List ℕ) (r : Bool) (is : t ≡ tag (get_or cs i z).node) (eq : Decides r (t ≡ name)) where
    tested : same (tag (get_or cs i z).node) name ≡ r
    tested = ap (λ x. same x name) (sym is) ∙ same_from t name r eq

    pub takes : r ≡ true → n < (get_or cs i z).most → step (drop i (map child_meant cs)) j n name ≡ Some (progress j (n + 1))
    takes h l = ap (λ x. step x j n name) at_row ∙ cond-true _ _ _ (tested ∙ h) ∙ cond-true _ _ _ (lt-ltb _ _ l)

    pub too_many : r ≡ true → (get_or cs i z).most ≤ n → step (drop i (map child_meant cs)) j n name ≡ None
    too_many h l = ap (λ x. step x j n name) at_row ∙ cond-true _ _ _ (tested ∙ h) ∙ cond-false _ _ _ (le-ltb _ _ l)

    pub too_few : r ≡ false → n < (get_or cs i z).least → step (drop i (map child_meant cs)) j n name ≡ None
    too_few h l = ap (λ x. step x j n name) at_row ∙ cond-false _ _ _ (tested ∙ h) ∙ cond-true _ _ _ (lt-ltb _ _ l)

    pub goes_on : r ≡ false → (get_or cs i z).least ≤ n → step (drop i (map child_meant cs)) j n name ≡ step (drop (i + 1) (map child_meant cs)) (j + 1) 0 name
    goes_on h l = ap (λ x. step x j n name) at_row ∙ cond-false _ _ _ (tested ∙ h) ∙ cond-false _ _ _ (le-ltb _ _ l)

  pub lacks : n < (get_or cs i z).least → enough (drop i (map child_meant cs)) n ≡ false
  lacks l = ap (λ x. enough x n) at_row ∙ cond-true _ _ _ (lt-ltb _ _ l)

  pub has_enough : (get_or cs i z).least ≤ n → enough (drop i (map child_meant cs)) n ≡ enough (drop (i + 1) (map child_meant cs)) 0
  has_enough l = ap (λ x. enough x n) at_row ∙ cond-false _ _ _ (le-ltb _ _ l)

pub no_row : (cs : List Child) (i j n : ℕ) (name : List ℕ) → length cs ≤ i → step (drop i (map child_meant cs)) j n name ≡ None
no_row cs i j n name h = ap (λ x. step x j n name) (drop-map child_meant i cs ∙ ap (map child_meant) (drop_all i cs h))

pub all_enough : (cs : List Child) (i n : ℕ) → length cs ≤ i → enough (drop i (map child_meant cs)) n ≡ true
all_enough cs i n h = ap (λ x. enough x n) (drop-map child_meant i cs ∙ ap (map child_meant) (drop_all i cs h))

-- whether a row asks for no child
abbrev pub asks_none : Child → Bool
asks_none c = c.least == 0

pub enough-all : (cs : List Child) → enough (map child_meant cs) 0 ≡ list_all asks_none cs
enough-all [] = refl
enough-all (c ∷ cs) = grind (arith, common_steps, enough-all cs)

-- whether the children may end at the first of some rows
pub may_end_at : (p : Option Node) (i n : ℕ) (cs : List Child) (z : Child) → (wants_child p && n == 0) ≡ false → map child_meant cs ≡ drop i (under p) → 1 ≤ length cs →
    finished p i n ≡ (leb (get_or cs 0 z).least n && list_all asks_none (drop 1 cs))
may_end_at p i n [] z w e h = absurd (omega arith)
may_end_at p i n (c ∷ cs) z w e h = cond-false _ _ _ w ∙ ap (λ rs. enough rs n) (sym e) ∙ ap (cond (nat_lt n c.least) false) (enough-all cs) ∙ grind (arith, common_steps)

-- the node of a row, as the rules and the code have it
pub row_node : (p : Option Node) (cs : List Child) (i : ℕ) → map child_meant cs ≡ under p → i < length (under p) → node_at p i ≡ (get_or cs i no_child).node
row_node p cs i e h =
    ap (λ t. (get_or t i (child Comprobante 0 0)).node) (sym e)
    ∙ ap (λ (r : Row). r.node) (get_or-map child_meant cs i no_child (child Comprobante 0 0) (omega (arith, ap length e, length-map cs child_meant)))
