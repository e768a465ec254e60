-- The fair copy is never longer than the document.
use Rattle.std.proofs.Common.{◌≡◌, ℕ, suc, ◌+◌, ◌≤◌, true, false, not, ◌&&◌, List, [], ◌∷◌, ◌++◌, length, Some, None, Option, sym, refl, ap, ◌∙◌, arith, length-append}
use Rattle.std.proofs.lemmas.Bool.{cond_both, cond-false, and_parts, not-true, or_parts}
use Rattle.rules.specs.Bytes.{all, same, blank}
use Rattle.rules.specs.Markup.{Piece, plain, escaped, amp, lt, gt, quot, apos, piece_text, pieces_text, pieces_bytes, piece_ok, Attribute, some, name_ok, attribute_ok, attribute_text, attributes_text, Tag, tag_ok, tag_text, Content, end, empty, full, text, Document, head, document_text, document_ok}
use Rattle.rules.specs.Located.{Given, Elements, none, element, givens, located, elements_of}
use Rattle.rules.specs.Kept.{kept, kept_on, kept_gap}
use Rattle.rules.specs.Kinds.{keep}
use Rattle.rules.specs.declared.schema.Kind.{Kind}
use Rattle.rules.specs.Schema.{Row, attributes, namespaces, tag}
use Rattle.rules.specs.Values.{Values, no_nodes, node, kept_of, slots, placed, under, with_node, values_under, values_of}
use Rattle.rules.specs.Texts.{piece, pieces, fair_attribute, fair_attributes, fixed_attributes, only_text, fair_tag, enclosed, fair, fair_copy}
use Rattle.rules.specs.Grounds.{rows}
use Rattle.rules.specs.declared.schema.Node.{Node}
use Rattle.theory.proofs.Bytes.{same_is, same_not}
use Rattle.theory.proofs.SchemaLaws.{rows_distinct, named_child}
use Rattle.theory.proofs.Pieces.{pieces_back}
use Rattle.theory.proofs.ReadBack.{has, distinct, value_of, kept_of_value}
use Rattle.theory.proofs.Unique.{marked, ok_marked}

-- how long a text is with its escapes
abbrev size : List ℕ → ℕ
size s = length (pieces_text (pieces s))

piece_long : (p : Piece) → 1 ≤ length (piece_text p)
piece_long (plain b) = omega arith
piece_long (escaped amp) = omega arith
piece_long (escaped lt) = omega arith
piece_long (escaped gt) = omega arith
piece_long (escaped quot) = omega arith
piece_long (escaped apos) = omega arith

size_cons : (b : ℕ) (s : List ℕ) → size (b ∷ s) ≡ length (piece_text (piece b)) + size s
size_cons b s = length-append (piece_text (piece b)) (pieces_text (pieces s))

mutual
  size_on : (s : List ℕ) → size (kept_on s) ≤ size s
  size_on [] = omega arith
  size_on (b ∷ bs) =
      let l = piece_long (piece b) in
      let e = size_cons b bs in
      let g : size (kept_gap bs) ≤ suc (size bs) = size_gap bs in
      let f : size (kept_on bs) ≤ size bs = size_on bs in
      cond_both (blank b) (kept_gap bs) (b ∷ kept_on bs) (λ x. size x ≤ size (b ∷ bs)) (λ _. omega arith) (λ _. omega (arith, size_cons b (kept_on bs)))

  size_gap : (s : List ℕ) → size (kept_gap s) ≤ suc (size s)
  size_gap [] = omega arith
  size_gap (b ∷ bs) =
      let l = piece_long (piece b) in
      let e = size_cons b bs in
      let g : size (kept_gap bs) ≤ suc (size bs) = size_gap bs in
      let f : size (kept_on bs) ≤ size bs = size_on bs in
      cond_both (blank b) (kept_gap bs) (32 ∷ b ∷ kept_on bs) (λ x. size x ≤ suc (size (b ∷ bs))) (λ _. omega arith) (λ _. omega (arith, size_cons b (kept_on bs), size_cons 32 (b ∷ kept_on bs)))

-- a kept form is never longer, written with its escapes
size_kept : (s : List ℕ) → size (kept s) ≤ size s
size_kept [] = omega arith
size_kept (b ∷ bs) =
    let l = piece_long (piece b) in
    let e = size_cons b bs in
    let g : size (kept bs) ≤ size bs = size_kept bs in
    let f : size (kept_on bs) ≤ size bs = size_on bs in
    cond_both (blank b) (kept bs) (b ∷ kept_on bs) (λ x. size x ≤ size (b ∷ bs)) (λ _. omega arith) (λ _. omega (arith, size_cons b (kept_on bs)))

size_keep : (k : Kind) (s : List ℕ) → size (keep k s) ≤ size s
size_keep k s = size_kept s

-- how long an attribute is
pub attribute_size : (a : Attribute) → length (attribute_text a) ≡ length a.before + length a.name + length a.left + length a.right + length (pieces_text a.value) + 3
attribute_size a = simp length-append (omega arith)

some_long : (l : List ℕ) → some l ≡ true → 1 ≤ length l
some_long [] h = let z : ◌≡◌ {A = ℕ} 0 1 = cc in absurd (omega arith)
some_long (x ∷ l) h = omega arith

-- a fair attribute is never longer
fair_shorter : (k : Kind) (a : Attribute) (n : List ℕ) → attribute_ok a ≡ true → n ≡ a.name → length (attribute_text (fair_attribute n (keep k (pieces_bytes a.value)))) ≤ length (attribute_text a)
fair_shorter k a n h e =
    let (h₀, h₁) = and_parts (some a.before && all blank a.before) _ h in
    let b = some_long a.before (and_parts _ _ h₀).0 in
    let s = size_keep k (pieces_bytes a.value) in
    let v : all piece_ok a.value ≡ true = (and_parts (all blank a.right) _ (and_parts (all blank a.left) _ (and_parts (name_ok a.name) _ h₁).1).1).1 in
    let p = ap (λ x. length (pieces_text x)) (pieces_back a.value v) in
    let m = ap length e in
    omega (arith, attribute_size a, attribute_size (fair_attribute n (keep k (pieces_bytes a.value))))

-- the slots of rows without places
abbrev slots_of : List Row → List Attribute → List (Option (List ℕ))
slots_of [] l = []
slots_of (r ∷ rs) l = value_of r l ∷ slots_of rs l

slots_are : (rs : List Row) (i : ℕ) (l : List Attribute) → slots rs (givens i l) ≡ slots_of rs l
slots_are [] i l = refl
slots_are (r ∷ rs) i l = let e = kept_of_value r i l in let f = slots_are rs i l in cc

-- the length of the fair attributes of some rows
abbrev weight : List Row → List (Option (List ℕ)) → ℕ
weight rs s = length (attributes_text (fair_attributes rs s))

slots_past : (rs : List Row) (a : Attribute) (l : List Attribute) → has a.name rs ≡ false → slots_of rs (a ∷ l) ≡ slots_of rs l
slots_past [] a l h = refl
slots_past (r ∷ rs) a l h =
    let (u, w) = or_parts _ _ h in
    let e : value_of r (a ∷ l) ≡ value_of r l = cond-false (same r.name a.name) _ _ (same_not a.name r.name u) in
    let f = slots_past rs a l w in
    cc

weight_cons : (r : Row) (rs : List Row) (v : Option (List ℕ)) (s : List (Option (List ℕ))) → weight rs s ≤ weight (r ∷ rs) (v ∷ s)
weight_cons r rs None s = omega arith
weight_cons r rs (Some v) s = simp length-append (omega arith)

weight_same : (r : Row) (rs : List Row) (v : Option (List ℕ)) (s t : List (Option (List ℕ))) (n : ℕ) → weight rs s ≤ n + weight rs t → weight (r ∷ rs) (v ∷ s) ≤ n + weight (r ∷ rs) (v ∷ t)
weight_same r rs None s t n h = h
weight_same r rs (Some v) s t n h = simp length-append (omega arith)

-- one more attribute weighs no more than it is long
weight_more : (rs : List Row) (a : Attribute) (l : List Attribute) → distinct rs ≡ true → attribute_ok a ≡ true → weight rs (slots_of rs (a ∷ l)) ≤ length (attribute_text a) + weight rs (slots_of rs l)
weight_more [] a l d h = omega arith
weight_more (r ∷ rs) a l d h =
    let (d₁, d₂) = and_parts (not (has r.name rs)) _ d in
    let v : Option (List ℕ) = value_of r l in
    let x : List ℕ = keep r.kind (pieces_bytes a.value) in
    let go = cond_both (same r.name a.name) (Some x) v (λ o. weight (r ∷ rs) (o ∷ slots_of rs (a ∷ l)) ≤ length (attribute_text a) + weight (r ∷ rs) (v ∷ slots_of rs l)) in
    go
    (λ e.
    let n = same_is r.name a.name e in
    let p = slots_past rs a l (ap (λ m. has m rs) (sym n) ∙ not-true _ d₁) in
    let q = ap (weight rs) p in
    let f = fair_shorter r.kind a r.name h n in
    let g = length-append (attribute_text (fair_attribute r.name x)) (attributes_text (fair_attributes rs (slots_of rs (a ∷ l)))) in
    let m = weight_cons r rs v (slots_of rs l) in
    omega arith)
    (λ e. weight_same r rs v _ _ _ (weight_more rs a l d₂ h))

weight_none : (rs : List Row) → weight rs (slots_of rs []) ≡ 0
weight_none [] = refl
weight_none (r ∷ rs) = weight_none rs

-- fair attributes are never longer together
weight_all : (rs : List Row) (l : List Attribute) → distinct rs ≡ true → all attribute_ok l ≡ true → weight rs (slots_of rs l) ≤ length (attributes_text l)
weight_all rs [] d h = omega (arith, weight_none rs)
weight_all rs (a ∷ l) d h =
    let (u, w) = and_parts (attribute_ok a) _ h in
    let e = length-append (attribute_text a) (attributes_text l) in
    let m = weight_more rs a l d u in
    let n = weight_all rs l d w in
    omega arith

-- the fixed attributes are given as they are fixed
abbrev pub FixedHere : List Row → List Given → Type 0
FixedHere [] gs = Unit {0}
FixedHere (r ∷ ns) gs = (kept_of r gs ≡ Some (only_text r.kind)) × FixedHere ns gs

fixed_fair : (ns rs : List Row) (i : ℕ) (l : List Attribute) → FixedHere ns (givens i l) → fixed_attributes ns ++ fair_attributes rs (slots rs (givens i l)) ≡ fair_attributes (ns ++ rs) (slots_of (ns ++ rs) l)
fixed_fair [] rs i l h = ap (fair_attributes rs) (slots_are rs i l)
fixed_fair (r ∷ ns) rs i l h =
    let e : value_of r l ≡ Some (only_text r.kind) = sym (kept_of_value r i l) ∙ h.0 in
    ap (λ x. fair_attribute r.name (only_text r.kind) ∷ x) (fixed_fair ns rs i l h.1) ∙ ap (λ o. fair_attributes (r ∷ (ns ++ rs)) (o ∷ slots_of (ns ++ rs) l)) (sym e)

-- a node's name is its tag
pub placed_tag : (p : Option Node) (n : List ℕ) (k : Node) → placed p n ≡ Some k → tag k ≡ n
placed_tag p n k h = (named_child (under p) n k h).3

-- a fair tag is never longer
tag_shorter : (k : Node) (t : Tag) (i : ℕ) → tag_ok t ≡ true → tag k ≡ t.name → FixedHere (namespaces k) (givens i t.attributes) → length (tag_text (fair_tag k (slots (attributes k) (givens i t.attributes)))) ≤ length (tag_text t)
tag_shorter k t i h n f =
    let (h₀, h₁) = and_parts (name_ok t.name) _ h in
    let w = weight_all (rows k) t.attributes (rows_distinct k) (and_parts (all attribute_ok t.attributes) _ h₁).0 in
    let e = ap (λ x. length (attributes_text x)) (fixed_fair (namespaces k) (attributes k) i t.attributes f) in
    let m = ap length n in
    simp length-append (omega arith)

-- every element stands in a place of the schema, with the fixed attributes where they are wanted
abbrev pub Sound : Option Node → Elements → Type 0
Sound p none = Unit {0}
Sound p (element n i gs inside e rest) = (k : Node) × (placed p n ≡ Some k) × FixedHere (namespaces k) gs × Sound (Some k) inside × Sound p rest

enclosed_shorter : (t : Tag) (u : Values) (after : Content) → length (text (enclosed t u (fair u) after)) ≤ length (tag_text t) + 1 + length (text (fair u)) + 3 + length t.name + length (text after)
enclosed_shorter t no_nodes after = simp length-append (omega arith)
enclosed_shorter t (node k s i r) after = simp length-append (omega arith)

empty_size : (b : List ℕ) (t : Tag) (after : Content) → length (text (empty b t after)) ≡ length b + length (tag_text t) + 2 + length (text after)
empty_size b t after = simp length-append (omega arith)

values_placed : (p : Option Node) (n : List ℕ) (j e : ℕ) (gs : List Given) (es rest : Elements) (k : Node) → placed p n ≡ Some k → values_under p (element n j gs es e rest) ≡ node k (slots (attributes k) gs) (values_under (Some k) es) (values_under p rest)
values_placed p n j e gs es rest k h = ap (λ o. with_node o gs (λ q. values_under (Some q) es) (values_under p rest)) h

-- fair content is never longer
shorter : (c : Content) (p : Option Node) (i : ℕ) → marked c ≡ true → Sound p (located i c) → length (text (fair (values_under p (located i c)))) ≤ length (text c)
shorter (end b) p i h s = omega arith
shorter (empty b t after) p i h s =
    let (h₀, h₁) = and_parts (all blank b) _ h in
    let (h₂, h₃) = and_parts (tag_ok t) _ h₁ in
    let k : Node = s.0 in
    let at : ℕ = i + length b + 1 + length t.name in
    let l : ℕ = i + length b + length (tag_text t) + 2 in
    let e = ap (λ v. length (text (fair v))) (values_placed p t.name 0 0 (givens at t.attributes) none (located l after) k s.1) in
    let m = tag_shorter k t at h₂ (placed_tag p t.name k s.1) s.2 in
    let r = shorter after p l h₃ s.4 in
    let x = empty_size [] (fair_tag k (slots (attributes k) (givens at t.attributes))) (fair (values_under p (located l after))) in
    let y = empty_size b t after in
    omega arith
shorter (full b t inside c after) p i h s =
    let (h₀, h₁) = and_parts (all blank b) _ h in
    let (h₂, h₃) = and_parts (tag_ok t) _ h₁ in
    let (h₄, h₅) = and_parts (marked inside) _ h₃ in
    let (h₆, h₇) = and_parts (all blank c) _ h₅ in
    let k : Node = s.0 in
    let at : ℕ = i + length b + 1 + length t.name in
    let j : ℕ = i + length b + length (tag_text t) + 1 in
    let l : ℕ = i + length b + length (tag_text t) + 1 + length (text inside) + 2 + length t.name + length c + 1 in
    let u : Values = values_under (Some k) (located j inside) in
    let w : Values = values_under p (located l after) in
    let e = ap (λ v. length (text (fair v))) (values_placed p t.name 0 0 (givens at t.attributes) (located j inside) (located l after) k s.1) in
    let n = placed_tag p t.name k s.1 in
    let m = tag_shorter k t at h₂ n s.2 in
    let q = shorter inside (Some k) j h₄ s.3 in
    let r = shorter after p l h₇ s.4 in
    let x = enclosed_shorter (fair_tag k (slots (attributes k) (givens at t.attributes))) u (fair w) in
    let y : length (tag_text t) + 1 + length (text inside) + 3 + length t.name + length (text after) ≤ length (text (full b t inside c after)) = simp length-append (omega arith) in
    let z = ap length n in
    omega arith

-- the fair copy of a sound document is never longer than it
pub copy_shorter : (m : Document) → document_ok m ≡ true → Sound None (elements_of m) → length (fair_copy (values_of (elements_of m))) ≤ length (document_text m)
copy_shorter m h s =
    let e = shorter m.content None (length (head m)) (ok_marked m.content 6 (and_parts _ _ h).0) s in
    let f = length-append (head m) (text m.content) in
    omega arith
