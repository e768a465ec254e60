-- The laws of the schema: each is one computed test at every node, and what the test says.
use Rattle.std.proofs.Common.{◌≡◌, ℕ, zero, suc, Bool, true, false, not, ◌&&◌, ◌||◌, List, [], ◌∷◌, ◌++◌, get_or, Some, None, Option, sym, refl, ap, ◌∙◌, subst, inl, inr}
use Rattle.std.proofs.lemmas.Bool.{cond_both, and_parts, not-true, or_left, or_right, or_cases, eqb-true, both_ways, false≢true}
use Rattle.rules.specs.Bytes.{all, same, no_bar, Among}
use Rattle.rules.specs.Markup.{pieces_text, name_ok}
use Rattle.rules.specs.Kept.{kept}
use Rattle.rules.specs.Kinds.{fixed_text, admits}
use Rattle.rules.specs.Schema.{Row, Child, tag, index, is}
use Rattle.rules.specs.Values.{named, under}
use Rattle.rules.specs.Texts.{pieces}
use Rattle.rules.specs.Grounds.{rows, complete}
use Rattle.rules.specs.declared.schema.FixedText.{FixedText}
use Rattle.rules.specs.declared.schema.FixedText.TheVariants.{Version, CfdiNamespace, XsiNamespace, SchemaLocation}
use Rattle.rules.specs.declared.schema.Kind.TheVariants.{Fixed}
use Rattle.rules.specs.declared.schema.Node.{Node}
use Rattle.rules.specs.declared.schema.Node.TheVariants.{Comprobante, Emisor, Receptor, Conceptos, Concepto, ConceptoImpuestos, ConceptoTraslados, ConceptoTraslado, ConceptoRetenciones, ConceptoRetencion, Impuestos, Retenciones, Retencion, Traslados, Traslado}
use Rattle.theory.specs.Schema.{AttributesApart, ChildrenApart, AsItself, NameLaw, FixedLaw, NamesPlain, fewest, ChildrenReachable, parent, OneParent}
use Rattle.theory.proofs.Options.{none_some, some_same}
use Rattle.theory.proofs.Lists.{cons_head, cons_tail, among_nil, among_cons, all_among}
use Rattle.theory.proofs.Bytes.{same_is, same_refl}

-- the nodes, in the order of their numbers
abbrev pub every_node : List Node
every_node = Comprobante ∷ Emisor ∷ Receptor ∷ Conceptos ∷ Concepto ∷ ConceptoImpuestos ∷ ConceptoTraslados ∷ ConceptoTraslado ∷ ConceptoRetenciones ∷ ConceptoRetencion ∷ Impuestos ∷ Retenciones ∷ Retencion ∷ Traslados ∷ Traslado ∷ []

-- a node stands in that list at its number
by_number : (k : Node) → get_or every_node (index k) Comprobante ≡ k
by_number Comprobante = refl
by_number Emisor = refl
by_number Receptor = refl
by_number Conceptos = refl
by_number Concepto = refl
by_number ConceptoImpuestos = refl
by_number ConceptoTraslados = refl
by_number ConceptoTraslado = refl
by_number ConceptoRetenciones = refl
by_number ConceptoRetencion = refl
by_number Impuestos = refl
by_number Retenciones = refl
by_number Retencion = refl
by_number Traslados = refl
by_number Traslado = refl

all_get_d : {A : Type 0} (p : A → Bool) (xs : List A) (n : ℕ) (d : A) → all p xs ≡ true → p d ≡ true → p (get_or xs n d) ≡ true
all_get_d p [] n d h k = k
all_get_d p (x ∷ xs) zero d h k = (and_parts (p x) _ h).0
all_get_d p (x ∷ xs) (suc n) d h k = all_get_d p xs n d (and_parts (p x) _ h).1 k

-- a test that passes at every node of the list passes at every node
pub at_node : (p : Node → Bool) → all p every_node ≡ true → (k : Node) → p k ≡ true
at_node p h k = ap p (sym (by_number k)) ∙ all_get_d p every_node (index k) Comprobante h (and_parts (p Comprobante) _ h).0

-- the same of the document's own level and every node
pub at_level : (p : Option Node → Bool) → p None ≡ true → all (λ k. p (Some k)) every_node ≡ true → (o : Option Node) → p o ≡ true
at_level p h k None = h
at_level p h k (Some j) = at_node (λ i. p (Some i)) k j

-- nodes with one number are one
pub is_same : (a b : Node) → is a b ≡ true → a ≡ b
is_same a b h = sym (by_number a) ∙ ap (λ n. get_or every_node n Comprobante) (eqb-true (index a) (index b) h) ∙ by_number b

-- some element has a name
abbrev pub has_by : {A : Type 0} → (A → List ℕ) → List ℕ → List A → Bool
has_by f n [] = false
has_by f n (x ∷ xs) = same n (f x) || has_by f n xs

-- no two elements have one name
abbrev pub distinct_by : {A : Type 0} → (A → List ℕ) → List A → Bool
distinct_by f [] = true
distinct_by f (x ∷ xs) = not (has_by f (f x) xs) && distinct_by f xs

-- an element's name is one of the list's
has_among : {A : Type 0} (f : A → List ℕ) (n : List ℕ) (xs : List A) (x : A) → Among x xs → n ≡ f x → has_by f n xs ≡ true
has_among f n [] x a e = absurd (among_nil x a)
has_among f n (y ∷ ys) x a e =
    elim (among_cons y ys x a) [
      | inl q ↦ or_left _ _ (ap (λ z. same n (f z)) q ∙ ap (λ z. same z (f x)) e ∙ same_refl (f x))
      | inr b ↦ or_right _ _ (has_among f n ys x b e)
    ]

-- two elements of a distinct list have two names
distinct_apart : {A : Type 0} (f : A → List ℕ) (xs before after : List A) (x y : A) → distinct_by f xs ≡ true → xs ≡ before ++ x ∷ after → Among y after → f x ≡ f y → ⊥
distinct_apart f [] before after x y d e a q = among_nil x (before, after, e)
distinct_apart f (z ∷ xs) [] after x y d e a q =
    let (u, v) = and_parts (not (has_by f (f z) xs)) _ d in
    both_ways _ (not-true _ u) (has_among f (f z) xs y (subst (Among y) (sym (cons_tail e)) a) (ap f (cons_head e) ∙ q))
distinct_apart f (z ∷ xs) (b ∷ before) after x y d e a q = distinct_apart f xs before after x y (and_parts (not (has_by f (f z) xs)) _ d).1 (cons_tail e) a q

-- the name of a row
abbrev pub row_name : Row → List ℕ
row_name r = r.name

-- the tag of a child
abbrev pub child_tag : Child → List ℕ
child_tag c = tag c.node

-- the attributes of each node have names of their own
pub rows_distinct : (k : Node) → distinct_by row_name (rows k) ≡ true
rows_distinct = at_node (λ k. distinct_by row_name (rows k)) refl

-- the children of each node have tags of their own
pub children_distinct : (p : Option Node) → distinct_by child_tag (under p) ≡ true
children_distinct = at_level (λ p. distinct_by child_tag (under p)) refl refl

-- no two attributes of a node have one name
pub attributes_apart : AttributesApart
attributes_apart k before after r q = distinct_apart row_name (rows k) before after r q (rows_distinct k)

-- no two children of a node have one tag
pub children_apart : ChildrenApart
children_apart p before after c e = distinct_apart child_tag (under p) before after c e (children_distinct p)

-- whether a text is written and kept as itself
abbrev plain : List ℕ → Bool
plain s = same (pieces_text (pieces s)) s && same (kept s) s

-- whether a text is a name that is so
abbrev plain_name : List ℕ → Bool
plain_name n = name_ok n && plain n

-- whether a fixed text is so, has no bar, and is admitted
abbrev plain_fixed : FixedText → Bool
plain_fixed t = plain (fixed_text t) && (all no_bar (fixed_text t) && admits (Fixed t) (fixed_text t))

as_itself : (s : List ℕ) → plain s ≡ true → AsItself s
as_itself s h = let (u, v) = and_parts _ _ h in record { unescaped = same_is _ _ u; unchanged = same_is _ _ v }

name_law : (n : List ℕ) → plain_name n ≡ true → NameLaw n
name_law n h = let (u, v) = and_parts (name_ok n) _ h in record { is_name = u; as_itself = as_itself n v }

fixed_law : (t : FixedText) → plain_fixed t ≡ true → FixedLaw t
fixed_law t h =
    let (u, v) = and_parts (plain (fixed_text t)) _ h in
    let (w, x) = and_parts (all no_bar (fixed_text t)) _ v in
    record { as_itself = as_itself _ u; without_bar = w; admitted_so = x }

plain_fixed_at : (t : FixedText) → plain_fixed t ≡ true
plain_fixed_at Version = refl
plain_fixed_at CfdiNamespace = refl
plain_fixed_at XsiNamespace = refl
plain_fixed_at SchemaLocation = refl

-- the fixed texts
pub fixed_texts : (t : FixedText) → FixedLaw t
fixed_texts t = fixed_law t (plain_fixed_at t)

-- the tags
pub tags_plain : (k : Node) → NameLaw (tag k)
tags_plain k = name_law (tag k) (at_node (λ j. plain_name (tag j)) refl k)

rows_plain : (k : Node) → all (λ r. plain_name r.name) (rows k) ≡ true
rows_plain = at_node (λ k. all (λ r. plain_name r.name) (rows k)) refl

-- tags, names of attributes and fixed texts
pub names_plain : NamesPlain
names_plain = record {
  tags = tags_plain;
  attribute_names = λ k r a. name_law r.name (all_among (λ q. plain_name q.name) (rows k) r (rows_plain k) a);
  fixed_texts = fixed_texts;
}

-- beginnings of complete lists, and a complete list
pub children_reachable : ChildrenReachable
children_reachable p = record { every_beginning = λ ks more h. (more, h); some_complete = at_level (λ o. complete o (fewest o)) refl refl p }

-- whether two parents are one
abbrev same_parent : Option Node → Option Node → Bool
same_parent None None = true
same_parent None (Some b) = false
same_parent (Some a) None = false
same_parent (Some a) (Some b) = is a b

same_parent_is : (a b : Option Node) → same_parent a b ≡ true → a ≡ b
same_parent_is None None h = refl
same_parent_is None (Some b) h = absurd (false≢true h)
same_parent_is (Some a) None h = absurd (false≢true h)
same_parent_is (Some a) (Some b) h = ap Some (is_same a b h)

-- a node is one of some children
abbrev pub stands_in : Node → List Child → Bool
stands_in k [] = false
stands_in k (c ∷ cs) = is c.node k || stands_in k cs

stands_among : (k : Node) (cs : List Child) → stands_in k cs ≡ true → (c : Child) × Among c cs × (c.node ≡ k)
stands_among k [] h = absurd (false≢true h)
stands_among k (c ∷ cs) h =
    elim (or_cases (is c.node k) _ h) [
      | inl e ↦ (c, ([], cs, refl), is_same _ _ e)
      | inr e ↦ let (d, (b, a, q), w) = stands_among k cs e in (d, (c ∷ b, a, ap (λ x. c ∷ x) q), w)
    ]

-- each node has one parent
pub one_parent : OneParent
one_parent = record {
  its_own = λ k. stands_among k (under (parent k)) (at_node (λ j. stands_in j (under (parent j))) refl k);
  no_other = λ p c a. same_parent_is _ _ (all_among (λ (e : Child). same_parent (parent e.node) p) (under p) c (at_level (λ o. all (λ (e : Child). same_parent (parent e.node) o) (under o)) refl refl p) a);
  root_alone = λ k e. is_same k Comprobante (root_or k (parent k) e (at_node (λ j. is j Comprobante || not (same_parent (parent j) None)) refl k));
}
  where
    root_or : (k : Node) (o : Option Node) → o ≡ None → (is k Comprobante || not (same_parent o None)) ≡ true → is k Comprobante ≡ true
    root_or k None e h = elim (or_cases (is k Comprobante) _ h) [ inl u ↦ u | inr u ↦ absurd (false≢true u) ]
    root_or k (Some j) e h = absurd (none_some e refl)

-- a name that means a node under some children is the tag of that one of them
pub named_child : (cs : List Child) (n : List ℕ) (k : Node) → named cs n ≡ Some k → (c : Child) × Among c cs × (c.node ≡ k) × (tag k ≡ n)
named_child [] n k h = absurd (none_some refl h)
named_child (c ∷ cs) n k h =
    cond_both (same (tag c.node) n) (Some c.node) (named cs n) (λ o. o ≡ Some k → (d : Child) × Among d (c ∷ cs) × (d.node ≡ k) × (tag k ≡ n))
    (λ e o. let q : c.node ≡ k = some_same refl o in (c, ([], cs, refl), q, ap tag (sym q) ∙ same_is _ _ e))
    (λ e o. let (d, (b, a, w), q, t) = named_child cs n k o in (d, (c ∷ b, a, ap (λ x. c ∷ x) w), q, t)) h
