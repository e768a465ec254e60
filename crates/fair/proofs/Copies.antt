-- What is met in a document, written one after another, is the fair copy of its values.
use Rattle.std.proofs.Common.{◌≡◌, ℕ, Bool, true, false, cond, List, [], ◌∷◌, ◌++◌, length, Some, None, Option, sym, refl, ap, ◌∙◌, subst, append_assoc, append-nil, arith}
use Rattle.rules.specs.Grounds.{standing_here, standing_under, standing}
use Rattle.rules.specs.Located.{Elements, none, element, elements_of}
use Rattle.rules.specs.Markup.{Document, text, tag_text}
use Rattle.rules.specs.Schema.{attributes, tag}
use Rattle.rules.specs.Texts.{fair, fair_tag, fair_copy}
use Rattle.rules.specs.Values.{Values, no_nodes, node, placed, slots, with_node, values_under, values_of}
use Rattle.rules.specs.declared.schema.Node.{Node}
use Rattle.theory.proofs.LawfulTree.{Placed, tree_good}
use Rattle.theory.proofs.Lists.{Each, each_from, each_split}
use Rattle.walk.specs.Coming.{InOrder}
use Rattle.walk.specs.Events.{Occurrence, opened, closed, no_element, start, met_at, met_under, met}
use Rattle.fair.specs.Copy.{WellNamed, AllNamed, start_text, end_text, copy, Fine}

-- no node stands there
abbrev leaf : Values → Bool
leaf no_nodes = true
leaf (node k s inside rest) = false

-- the parts of a pair of tags, and of a single tag
paired : (x i n r : List ℕ) → x ++ 62 ∷ i ++ 60 ∷ 47 ∷ n ++ [] ++ 62 ∷ r ≡ (x ++ 62 ∷ []) ++ (i ++ ((60 ∷ 47 ∷ n ++ 62 ∷ []) ++ r))
paired x i n r = simp append_assoc

alone : (x r : List ℕ) → x ++ 47 ∷ 62 ∷ r ≡ (x ++ 47 ∷ 62 ∷ []) ++ r
alone x r = simp append_assoc

-- the copy of a node: its start tag, what is inside it, its end tag if it has one, and what follows
node_text : (k : Node) (s : List (Option (List ℕ))) (v r : Values) →
    text (fair (node k s v r)) ≡ (tag_text (fair_tag k s) ++ cond (leaf v) (47 ∷ 62 ∷ []) (62 ∷ [])) ++ (text (fair v) ++ (cond (leaf v) [] (end_text k) ++ text (fair r)))
node_text k s no_nodes r = alone (tag_text (fair_tag k s)) (text (fair r))
node_text k s (node j t i q) r = paired (tag_text (fair_tag k s)) (text (fair (node j t i q))) (tag k) (text (fair r))

-- where every element has a node, no element is no node
leaf_under : (es : Elements) (p : Option Node) → Placed p es → leaf (values_under p es) ≡ no_element es
leaf_under none p h = refl
leaf_under (element n i gs inside e rest) p (k, q, h, t) = ap (λ o. leaf (with_node o gs (λ j. values_under (Some j) inside) (values_under p rest))) q

-- whether a childless node was opened last, after some elements
abbrev after : Bool → Elements → Bool
after b none = b
after b (element n i gs inside e rest) = false

after_itself : (es : Elements) → after (no_element es) es ≡ no_element es
after_itself none = refl
after_itself (element n i gs inside e rest) = refl

copy_under : (es : Elements) (p : Option Node) (more : List Occurrence) (b : Bool) → Placed p es → copy b (met_under p es more) ≡ text (fair (values_under p es)) ++ copy (after b es) more
copy_under none p more b h = refl
copy_under (element n i gs inside e rest) p more b (k, q, h, t) =
    subst G (sym q)
    (ap (λ l. start_text k gs c ++ l)
    (copy_under inside (Some k) (closed k ∷ met_under p rest more) c h
    ∙ ap (λ x. text (fair v) ++ copy x (closed k ∷ met_under p rest more)) (after_itself inside)
    ∙ ap (λ l. text (fair v) ++ (cond c [] (end_text k) ++ l)) (copy_under rest p more false t))
    ∙ regroup (start_text k gs c) (text (fair v)) (cond c [] (end_text k)) (text (fair w)) (copy (after false rest) more)
    ∙ ap (λ x. ((tag_text (fair_tag k s) ++ cond x (47 ∷ 62 ∷ []) (62 ∷ [])) ++ (text (fair v) ++ (cond x [] (end_text k) ++ text (fair w)))) ++ copy (after false rest) more) (sym (leaf_under inside (Some k) h))
    ∙ ap (λ l. l ++ copy (after false rest) more) (sym (node_text k s v w))
    ∙ ap (λ x. text (fair (node k s v w)) ++ copy x more) (after_false rest))
  where
    G : Option Node → Type 0
    G o = copy b (met_at o (λ j. opened (start j n i gs inside) ∷ met_under (Some j) inside (closed j ∷ met_under p rest more)) (met_under p rest more))
        ≡ text (fair (with_node o gs (λ j. values_under (Some j) inside) (values_under p rest))) ++ copy false more

    c : Bool
    c = no_element inside

    s : List (Option (List ℕ))
    s = slots (attributes k) gs

    v : Values
    v = values_under (Some k) inside

    w : Values
    w = values_under p rest

    regroup : (a x y z r : List ℕ) → a ++ (x ++ (y ++ (z ++ r))) ≡ (a ++ (x ++ (y ++ z))) ++ r
    regroup a x y z r = simp append_assoc

    after_false : (es : Elements) → after false es ≡ false
    after_false none = refl
    after_false (element n i gs inside e rest) = refl

-- what is met in a document in order gives the fair copy of its values
pub copy_met : (d : List ℕ) (m : Document) → InOrder d m → copy false (met m) ≡ fair_copy (values_of (elements_of m))
copy_met d m good = copy_under (elements_of m) None [] false (tree_good (elements_of m) None [] (length d) good).0 ∙ append-nil _

fine_under : (es : Elements) (p : Option Node) (more : List Occurrence) → Each WellNamed (standing_under p es) → Each Fine more → Each Fine (met_under p es more)
fine_under none p more h f = f
fine_under (element n i gs inside e rest) p more h f =
    go (placed p n) h (λ k u v. fine_under inside (Some k) (closed k ∷ met_under p rest more) u (tt, v)) (λ u. fine_under rest p more u f)
  where
    go : (o : Option Node) → Each WellNamed (standing_here o i gs (λ k. standing_under (Some k) inside) ++ standing_under p rest) →
        ((k : Node) → Each WellNamed (standing_under (Some k) inside) → Each Fine (met_under p rest more) → Each Fine (met_under (Some k) inside (closed k ∷ met_under p rest more))) →
        (Each WellNamed (standing_under p rest) → Each Fine (met_under p rest more)) →
        Each Fine (met_at o (λ k. opened (start k n i gs inside) ∷ met_under (Some k) inside (closed k ∷ met_under p rest more)) (met_under p rest more))
    go None h a b = b h
    go (Some k) (x, h) a b = let (u, v) = each_split WellNamed (standing_under (Some k) inside) (standing_under p rest) h in ((omega arith, x), a k u (b v))

-- all that is met in a document whose names are lawful is fine
pub fine_met : (m : Document) → AllNamed m → Each Fine (met m)
fine_met m h = fine_under (elements_of m) None [] (each_from WellNamed (standing (elements_of m)) h) tt
