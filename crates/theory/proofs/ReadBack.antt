-- The fair copy reads back.
use Rattle.std.proofs.Common.{◌≡◌, ℕ, zero, suc, ◌+◌, ◌<◌, ◌≤◌, Bool, true, false, cond, ltb, List, [], ◌∷◌, ◌++◌, length, Some, None, Option, sym, refl, ap, ◌∙◌, ⊎_elim, arith}
use Rattle.std.proofs.lemmas.Bool.{cond-true, cond-false, and_parts, and_from, not-true, or_parts, or_left, or_right, eq-eqb, cases_Bool, ltb-true, both_ways}
use Rattle.rules.specs.Bytes.{all, same}
use Rattle.rules.specs.Markup.{Attribute, Document, name_ok, attribute_ok, tag_ok, content_ok, elements, document_ok, pieces_bytes, attribute_text}
use Rattle.rules.specs.Located.{Given, Elements, none, element, givens, located, elements_of}
use Rattle.rules.specs.Kinds.{keep}
use Rattle.rules.specs.Schema.{Row, Child, attributes, namespaces, children, tag}
use Rattle.rules.specs.Values.{Values, no_nodes, node, kept_of, slots, placed, under, with_node, values_under, values_of}
use Rattle.rules.specs.Texts.{fair_attributes, fixed_attributes, only_text, fair_tag, fair}
use Rattle.rules.specs.Grounds.{rows}
use Rattle.rules.specs.declared.schema.Node.{Node}
use Rattle.theory.proofs.Bytes.{same_is, same_refl}
use Rattle.theory.proofs.SchemaLaws.{at_node, at_level, has_by, distinct_by, row_name, rows_distinct, tags_plain, named_child}
use Rattle.theory.proofs.Lists.{all_among}
use Rattle.theory.proofs.Pieces.{bytes_pieces, ok_pieces}

-- a row has a name
abbrev pub has : List ℕ → List Row → Bool
has n rs = has_by row_name n rs

-- no two rows have one name
abbrev pub distinct : List Row → Bool
distinct rs = distinct_by row_name rs

-- the names of rows are names
names_ok : (k : Node) → all (λ r. name_ok r.name) (rows k) ≡ true
names_ok = at_node (λ k. all (λ r. name_ok r.name) (rows k)) refl

-- the kept form of the attribute that a row names, without places
abbrev pub value_of : Row → List Attribute → Option (List ℕ)
value_of q [] = None
value_of q (a ∷ as') = cond (same q.name a.name) (Some (keep q.kind (pieces_bytes a.value))) (value_of q as')

-- places do not matter to it
pub kept_of_value : (q : Row) (i : ℕ) (l : List Attribute) → kept_of q (givens i l) ≡ value_of q l
kept_of_value q i [] = refl
kept_of_value q i (a ∷ l) = ap (λ x. cond (same q.name a.name) (Some (keep q.kind (pieces_bytes a.value))) x) (kept_of_value q (i + length (attribute_text a)) l)

-- as many slots as rows, each present one a kept form
abbrev pub Fits : List Row → List (Option (List ℕ)) → Type 0
Fits [] [] = Unit {0}
Fits [] (v ∷ s) = ⊥
Fits (r ∷ rs) [] = ⊥
Fits (r ∷ rs) (None ∷ s) = Fits rs s
Fits (r ∷ rs) (Some v ∷ s) = (keep r.kind v ≡ v) × Fits rs s

-- a name of a later row is not this row's
pub other_name : (n : List ℕ) (r : Row) (rs : List Row) → has n rs ≡ true → has r.name rs ≡ false → same n r.name ≡ false
other_name n r rs h k = ⊎_elim (λ e. absurd (both_ways (has n rs) (ap (λ m. has m rs) (same_is n r.name e) ∙ k) h)) (λ e. e) (cases_Bool (same n r.name))

-- what no row names is absent
value_absent : (q : Row) (rs : List Row) (s : List (Option (List ℕ))) → has q.name rs ≡ false → value_of q (fair_attributes rs s) ≡ None
value_absent q [] s h = refl
value_absent q (r ∷ rs) [] h = refl
value_absent q (r ∷ rs) (None ∷ s) h = value_absent q rs s (or_parts _ _ h).1
value_absent q (r ∷ rs) (Some v ∷ s) h = let (u, w) = or_parts _ _ h in cond-false (same q.name r.name) _ _ u ∙ value_absent q rs s w

-- another row's attribute changes nothing
value_later : (q r : Row) (rs : List Row) (v : Option (List ℕ)) (s : List (Option (List ℕ))) → same q.name r.name ≡ false → value_of q (fair_attributes (r ∷ rs) (v ∷ s)) ≡ value_of q (fair_attributes rs s)
value_later q r rs None s h = refl
value_later q r rs (Some v) s h = cond-false (same q.name r.name) _ _ h

-- a row's own attribute gives its slot
value_here : (r : Row) (rs : List Row) (v : Option (List ℕ)) (s : List (Option (List ℕ))) → has r.name rs ≡ false → Fits (r ∷ rs) (v ∷ s) → value_of r (fair_attributes (r ∷ rs) (v ∷ s)) ≡ v
value_here r rs None s h f = value_absent r rs s h
value_here r rs (Some v) s h f = cond-true (same r.name r.name) _ _ (same_refl r.name) ∙ ap Some (ap (keep r.kind) (bytes_pieces v) ∙ f.0)

fits_rest : (r : Row) (rs : List Row) (v : Option (List ℕ)) (s : List (Option (List ℕ))) → Fits (r ∷ rs) (v ∷ s) → Fits rs s
fits_rest r rs None s f = f
fits_rest r rs (Some v) s f = f.1

-- attributes that agree with the fair ones at every row give back the slots
slots_fair : (i : ℕ) (l : List Attribute) (rs : List Row) (s : List (Option (List ℕ))) → distinct rs ≡ true → Fits rs s → ((q : Row) → has q.name rs ≡ true → value_of q l ≡ value_of q (fair_attributes rs s)) → slots rs (givens i l) ≡ s
slots_fair i l [] [] d f g = refl
slots_fair i l [] (v ∷ s) d f g = absurd f
slots_fair i l (r ∷ rs) [] d f g = absurd f
slots_fair i l (r ∷ rs) (v ∷ s) d f g =
    let (d₁, d₂) = and_parts _ _ d in
    let out : has r.name rs ≡ false = not-true _ d₁ in
    let e : kept_of r (givens i l) ≡ v = kept_of_value r i l ∙ g r (or_left _ _ (same_refl r.name)) ∙ value_here r rs v s out f in
    let t : slots rs (givens i l) ≡ s = slots_fair i l rs s d₂ (fits_rest r rs v s f) (λ q h. g q (or_right _ _ h) ∙ value_later q r rs v s (other_name q.name r rs h out)) in
    cc

-- a name of later rows is one of all
pub has_after : (n : List ℕ) (ns rs : List Row) → has n rs ≡ true → has n (ns ++ rs) ≡ true
has_after n [] rs h = h
has_after n (m ∷ ns) rs h = or_right _ _ (has_after n ns rs h)

-- the fixed attributes change nothing
past_fixed : (q : Row) (ns rs : List Row) (l : List Attribute) → distinct (ns ++ rs) ≡ true → has q.name rs ≡ true → value_of q (fixed_attributes ns ++ l) ≡ value_of q l
past_fixed q [] rs l d h = refl
past_fixed q (m ∷ ns) rs l d h =
    let (d₁, d₂) = and_parts _ _ d in
    cond-false (same q.name m.name) _ _ (other_name q.name m (ns ++ rs) (has_after q.name ns rs h) (not-true _ d₁)) ∙ past_fixed q ns rs l d₂ h

-- later rows are distinct too
distinct_after : (ns rs : List Row) → distinct (ns ++ rs) ≡ true → distinct rs ≡ true
distinct_after [] rs d = d
distinct_after (m ∷ ns) rs d = distinct_after ns rs (and_parts _ _ d).1

-- a fair tag gives back the slots
pub slots_back : (k : Node) (i : ℕ) (s : List (Option (List ℕ))) → Fits (attributes k) s → slots (attributes k) (givens i (fair_tag k s).attributes) ≡ s
slots_back k i s f =
    let d = rows_distinct k in
    slots_fair i _ (attributes k) s (distinct_after (namespaces k) (attributes k) d) f (λ q h. past_fixed q (namespaces k) (attributes k) _ d h)

-- nodes that stand where the schema has them, with fitting attributes
abbrev pub Conforms : Option Node → Values → Type 0
Conforms p no_nodes = Unit {0}
Conforms p (node k s inside rest) = (placed p (tag k) ≡ Some k) × Fits (attributes k) s × Conforms (Some k) inside × Conforms p rest

-- one node reads back
node_back : (p : Option Node) (k : Node) (s : List (Option (List ℕ))) (i j e : ℕ) (es rest : Elements) (u w : Values) → placed p (tag k) ≡ Some k → Fits (attributes k) s → values_under (Some k) es ≡ u → values_under p rest ≡ w →
    values_under p (element (tag k) j (givens i (fair_tag k s).attributes) es e rest) ≡ node k s u w
node_back p k s i j e es rest u w h f a b =
    let gs : List Given = givens i (fair_tag k s).attributes in
    let x : slots (attributes k) gs ≡ s = slots_back k i s f in
    ap (λ o. with_node o gs (λ q. values_under (Some q) es) (values_under p rest)) h ∙ cc

-- nodes read back
values_back : (v : Values) (p : Option Node) (i : ℕ) → Conforms p v → values_under p (located i (fair v)) ≡ v
values_back no_nodes p i c = refl
values_back (node k s no_nodes rest) p i c = node_back p k s _ 0 0 none _ no_nodes rest c.0 c.1 refl (values_back rest p _ c.3)
values_back (node k s (node j t a b) rest) p i c = node_back p k s _ 0 0 _ _ (node j t a b) rest c.0 c.1 (values_back (node j t a b) (Some k) _ c.2) (values_back rest p _ c.3)

-- the greater of two numbers
abbrev greater : ℕ → ℕ → ℕ
greater a b = cond (ltb a b) b a

-- how deep nodes may stand under some children, looked for n deep
abbrev deep : ℕ → List Child → ℕ
deep zero cs = 0
deep (suc n) [] = 0
deep (suc n) (c ∷ cs) = greater (suc (deep n (children c.node))) (deep (suc n) cs)

-- how deep nodes may stand under p
abbrev height_under : Option Node → ℕ
height_under p = deep 6 (under p)

-- how deep nodes may stand under a node
abbrev height : Node → ℕ
height k = height_under (Some k)

-- children stand lower than their parent
children_lower : (p : Option Node) → all (λ c. ltb (height c.node) (height_under p)) (under p) ≡ true
children_lower = at_level (λ p. all (λ c. ltb (height c.node) (height_under p)) (under p)) refl refl

-- so does a node in its place
placed_lower : (p : Option Node) (n : List ℕ) (k : Node) → placed p n ≡ Some k → height k < height_under p
placed_lower p n k h =
    let (c, a, e, t) = named_child (under p) n k h in
    ltb-true _ _ (ap (λ j. ltb (height j) (height_under p)) (sym e) ∙ all_among (λ (d : Child). ltb (height d.node) (height_under p)) (under p) c (children_lower p) a)

-- fair attributes may stand in a tag
fair_ok : (rs : List Row) (s : List (Option (List ℕ))) → all (λ r. name_ok r.name) rs ≡ true → all attribute_ok (fair_attributes rs s) ≡ true
fair_ok [] s h = refl
fair_ok (r ∷ rs) [] h = refl
fair_ok (r ∷ rs) (None ∷ s) h = fair_ok rs s (and_parts _ _ h).1
fair_ok (r ∷ rs) (Some v ∷ s) h = let (u, w) = and_parts _ _ h in and_from _ _ (and_from _ _ u (ok_pieces v)) (fair_ok rs s w)

-- so may the fixed ones
fixed_ok : (ns rs : List Row) (l : List Attribute) → all (λ r. name_ok r.name) (ns ++ rs) ≡ true → (all (λ r. name_ok r.name) rs ≡ true → all attribute_ok l ≡ true) → all attribute_ok (fixed_attributes ns ++ l) ≡ true
fixed_ok [] rs l h f = f h
fixed_ok (r ∷ ns) rs l h f = let (u, w) = and_parts _ _ h in and_from _ _ (and_from _ _ u (ok_pieces (only_text r.kind))) (fixed_ok ns rs l w f)

-- a fair tag may stand in a document
fair_tag_ok : (k : Node) (s : List (Option (List ℕ))) → tag_ok (fair_tag k s) ≡ true
fair_tag_ok k s = and_from _ _ (tags_plain k).is_name (and_from _ _ (fixed_ok (namespaces k) (attributes k) _ (names_ok k) (fair_ok (attributes k) s)) refl)

-- a fair copy is well-marked content
content_fair : (v : Values) (p : Option Node) (n : ℕ) → Conforms p v → height_under p ≤ n → content_ok n (fair v) ≡ true
content_fair no_nodes p n c h = refl
content_fair (node k s no_nodes rest) p zero c h = let l = placed_lower p (tag k) k c.0 in absurd (omega arith)
content_fair (node k s (node j t a b) rest) p zero c h = let l = placed_lower p (tag k) k c.0 in absurd (omega arith)
content_fair (node k s no_nodes rest) p (suc n) c h = and_from _ _ (fair_tag_ok k s) (content_fair rest p (suc n) c.3 h)
content_fair (node k s (node j t a b) rest) p (suc n) c h =
    let l = placed_lower p (tag k) k c.0 in
    and_from _ _ (fair_tag_ok k s) (and_from _ _ (content_fair (node j t a b) (Some k) n c.2 (omega arith)) (content_fair rest p (suc n) c.3 h))

-- how many nodes stand side by side
abbrev pub roots : Values → ℕ
roots no_nodes = 0
roots (node k s inside rest) = suc (roots rest)

-- a fair copy has one element for each node
elements_fair : (v : Values) → elements (fair v) ≡ roots v
elements_fair no_nodes = refl
elements_fair (node k s no_nodes rest) = ap suc (elements_fair rest)
elements_fair (node k s (node j t a b) rest) = ap suc (elements_fair rest)

-- the tree of a fair copy
abbrev pub copy : Values → Document
copy v = record { declared = false; content = fair v }

-- one node, and all of them in their places
pub record Whole (v : Values) : Type 0 where
  pub one : roots v ≡ 1
  pub conforms : Conforms None v

-- the fair copy of whole values is well-marked
pub copy_ok : (v : Values) → Whole v → document_ok (copy v) ≡ true
copy_ok v w = and_from _ _ (content_fair v None 6 w.conforms (omega arith)) (eq-eqb _ _ (elements_fair v ∙ w.one))

-- the fair copy of whole values gives them back
pub copy_reads : (v : Values) → Whole v → values_of (elements_of (copy v)) ≡ v
copy_reads v w = values_back v None 0 w.conforms
