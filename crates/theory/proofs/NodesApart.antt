-- The faults of the nodes of a document lie one node after the other, so that the first node with a fault has the first one.
use Rattle.std.proofs.Common.{◌≡◌, ℕ, ◌+◌, ◌<◌, ◌≤◌, List, [], ◌∷◌, ◌++◌, length, Some, None, Option, refl, ap, inl, inr, arith, length-append}
use Rattle.rules.specs.Bytes.{Among}
use Rattle.rules.specs.Markup.{Attribute, Tag, Content, end, empty, full, text, tag_text, attribute_text, attributes_text, Document, head}
use Rattle.rules.specs.Located.{Given, given, givens, located, elements_of}
use Rattle.rules.specs.Values.{placed}
use Rattle.rules.specs.Catalogues.{Facts}
use Rattle.rules.specs.Faults.{Judgement}
use Rattle.rules.specs.Grounds.{Standing, standing_here, standing_under, standing, NamesFault, refused, missing, ValuesFault, not_admitted, not_in_catalogue}
use Rattle.rules.specs.declared.grounds.Fault.{Fault}
use Rattle.rules.specs.declared.schema.Node.{Node}
use Rattle.theory.proofs.Lists.{among_nil, among_cons}
use Rattle.theory.proofs.Shorter.{attribute_size}
use Rattle.theory.proofs.Compose.{first_found, In, Apart, apart_judged}
use Rattle.theory.specs.Grounds.{Some_of}

-- both places of an attribute lie within the text of its tag's attributes
pub record Inside (lo hi : ℕ) (g : Given) : Type 0 where
  pub name_low : lo ≤ g.name_at
  pub name_high : g.name_at ≤ hi
  pub value_low : lo ≤ g.value_at
  pub value_high : g.value_at ≤ hi

-- each attribute of a tag lies so
pub givens_inside : (l : List Attribute) (i : ℕ) (g : Given) → Among g (givens i l) → Inside i (i + length (attributes_text l)) g
givens_inside [] i g a = absurd (among_nil g a)
givens_inside (x ∷ l) i g a =
    let n = length-append (attribute_text x) (attributes_text l) in
    let m = attribute_size x in
    elim (among_cons (given i x) (givens (i + length (attribute_text x)) l) g a) [
      | inl e ↦
          let p = ap (λ (y : Given). y.name_at) e in
          let q = ap (λ (y : Given). y.value_at) e in
          record { name_low = omega arith; name_high = omega arith; value_low = omega arith; value_high = omega arith }
      | inr b ↦
          let h = givens_inside l (i + length (attribute_text x)) g b in
          record { name_low = omega (arith, h.name_low); name_high = omega (arith, h.name_high); value_low = omega (arith, h.value_low); value_high = omega (arith, h.value_high) }
    ]

-- the faults of a node lie between its '<' and the end of its attributes
abbrev pub InNode : ℕ → (Standing → Fault → Type 0) → Type 0
InNode n P = (k : Node) (at i : ℕ) (l : List Attribute) → at < i → (f : Fault) → P (record { kind = k; at = at; givens = givens i l }) f → In n at (i + length (attributes_text l)) f

-- faults of names lie so
pub names_in_node : InNode 4 NamesFault
names_in_node k at i l h f (refused g b a e w) = let q = givens_inside l i g (b, a, e) in record { layered = refl; low = omega (arith, q.name_low); high = q.name_high }
names_in_node k at i l h f (missing r a q u) = record { layered = refl; low = omega arith; high = omega arith }

-- faults of values lie so
pub values_in_node : (facts : Facts) → InNode 5 (ValuesFault facts)
values_in_node facts k at i l h f (not_admitted g r a e n) = let q = givens_inside l i g a in record { layered = refl; low = omega (arith, q.value_low); high = q.value_high }
values_in_node facts k at i l h f (not_in_catalogue g r c a e u w n) = let q = givens_inside l i g a in record { layered = refl; low = omega (arith, q.value_low); high = q.value_high }

tag_length : (t : Tag) → length (tag_text t) ≡ 1 + length t.name + length (attributes_text t.attributes) + length t.gap
tag_length t = simp length-append (omega arith)

six_length : (a b c d e f : List ℕ) → length (((((a ++ b) ++ c) ++ d) ++ e) ++ f) ≡ length a + length b + length c + length d + length e + length f
six_length a b c d e f = simp length-append

module _ (n : ℕ) (P : Standing → Fault → Type 0) (own : InNode n P) where
  apart_from : (ss : List Standing) (lo j hi : ℕ) → lo ≤ j → Apart n P j hi ss → Apart n P lo hi ss
  apart_from [] lo j hi l h = omega arith
  apart_from (s ∷ ss) lo j hi l h = (h.0, omega (arith, h.1), λ f p. let m = h.2 f p in record { layered = m.layered; low = omega (arith, m.low); high = m.high }, h.3)

  apart_join : (xs ys : List Standing) (lo mid hi : ℕ) → Apart n P lo mid xs → Apart n P (mid + 1) hi ys → Apart n P lo hi (xs ++ ys)
  apart_join [] ys lo mid hi h k = apart_from ys lo (mid + 1) hi (omega arith) k
  apart_join (x ∷ xs) ys lo mid hi h k = (h.0, h.1, h.2, apart_join xs ys (h.0 + 1) mid hi h.3 k)

  here_apart : (o : Option Node) (at i : ℕ) (l : List Attribute) (inside : Node → List Standing) (mid : ℕ) → at < i → ((k : Node) → Apart n P (i + length (attributes_text l) + 1) mid (inside k)) → at ≤ mid → Apart n P at mid (standing_here o at (givens i l) inside)
  here_apart None at i l inside mid h k m = m
  here_apart (Some j) at i l inside mid h k m = (i + length (attributes_text l), omega arith, own j at i l h, k j)

  pub located_apart : (c : Content) (p : Option Node) (i hi : ℕ) → hi ≡ i + length (text c) → Apart n P i hi (standing_under p (located i c))
  located_apart (end b) p i hi h = omega arith
  located_apart (empty b t after) p i hi h =
      let u = length-append (b ++ tag_text t) (47 ∷ 62 ∷ text after) in
      let m = length-append b (tag_text t) in
      let q = tag_length t in
      let z = i + length b + length (tag_text t) + 2 in
      apart_from _ i (i + length b) hi (omega arith)
      (apart_join _ (standing_under p (located z after)) (i + length b) (i + length b + length (tag_text t) + 1) hi
      (here_apart (placed p t.name) (i + length b) (i + length b + 1 + length t.name) t.attributes (λ k. []) (i + length b + length (tag_text t) + 1) (omega arith) (λ k. omega arith) (omega arith))
      (apart_from (standing_under p (located z after)) _ z hi (omega arith) (located_apart after p z hi (omega arith))))
  located_apart (full b t inside c after) p i hi h =
      let u = six_length b (tag_text t) (62 ∷ text inside) (60 ∷ 47 ∷ t.name) c (62 ∷ text after) in
      let q = tag_length t in
      let y = i + length b + length (tag_text t) + 1 in
      let z = y + length (text inside) + 2 + length t.name + length c + 1 in
      apart_from _ i (i + length b) hi (omega arith)
      (apart_join _ (standing_under p (located z after)) (i + length b) (y + length (text inside)) hi
      (here_apart (placed p t.name) (i + length b) (i + length b + 1 + length t.name) t.attributes (λ k. standing_under (Some k) (located y inside)) (y + length (text inside)) (omega arith)
      (λ k. apart_from (standing_under (Some k) (located y inside)) _ y (y + length (text inside)) (omega arith) (located_apart inside (Some k) y (y + length (text inside)) refl)) (omega arith))
      (apart_from (standing_under p (located z after)) _ z hi (omega arith) (located_apart after p z hi (omega arith))))

  -- the first fault of the nodes of a document is that of the first node that has one
  pub nodes_judged : (v : Standing → Option Fault) (m : Document) → ((s : Standing) → Among s (standing (elements_of m)) → Judgement (P s) (v s)) → Judgement (Some_of P (standing (elements_of m))) (first_found v (standing (elements_of m)))
  nodes_judged v m each = apart_judged n P v (length (head m)) _ (standing (elements_of m)) (located_apart m.content None (length (head m)) _ refl) each
