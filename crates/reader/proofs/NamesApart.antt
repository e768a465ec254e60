-- The names faults of the nodes of a document lie one node after the other.
use Rattle.std.proofs.Common.{◌≡◌, ℕ, ◌+◌, ◌<◌, ◌≤◌, List, [], ◌∷◌, ◌++◌, length, Some, None, Option, refl, ap, inl, inr, arith, length-append}
use Rattle.rules.specs.Markup.{Attribute, Tag, Content, end, empty, full, text, tag_text, attribute_text, attributes_text}
use Rattle.rules.specs.Located.{Given, given, givens, located}
use Rattle.rules.specs.Values.{placed}
use Rattle.rules.specs.Grounds.{Standing, standing_here, standing_under, NamesFault, refused, missing}
use Rattle.rules.specs.declared.schema.Node.{Node}
use Rattle.rules.specs.declared.grounds.Fault.{Fault}
use Rattle.tags.proofs.Parts.{attribute_length}
use Rattle.theory.proofs.Compose.{In, Apart}
use Rattle.reader.proofs.Levels.{six_length}
use Rattle.reader.proofs.NamesFirst.{names_from, cons_split, no_split}

names_to : (l : List Attribute) (i : ℕ) (before : List Given) (g : Given) (after : List Given) → givens i l ≡ before ++ g ∷ after → g.name_at ≤ i + length (attributes_text l)
names_to [] i before g after e = absurd (no_split before g after e)
names_to (a ∷ l) i before g after e =
    let n = length-append (attribute_text a) (attributes_text l) in
    elim (cons_split (given i a) (givens (i + length (attribute_text a)) l) before g after e) [
      | inl x ↦ omega (arith, ap (λ y. y.name_at) x.1, attribute_length a)
      | inr x ↦ omega (arith, names_to l (i + length (attribute_text a)) x.0 g after x.2)
    ]

abbrev names_apart : ℕ → ℕ → List Standing → Type 0
names_apart lo hi ss = Apart 4 NamesFault lo hi ss

apart_from : (ss : List Standing) (lo j hi : ℕ) → lo ≤ j → names_apart j hi ss → names_apart lo hi ss
apart_from [] lo j hi l h = omega arith
apart_from (s ∷ ss) lo j hi l h = (h.0, omega (arith, h.1), λ f p. let m = h.2 f p in record { layered = m.layered; low = omega (arith, m.low); high = m.high }, h.3)

apart_join : (xs ys : List Standing) (lo mid hi : ℕ) → names_apart lo mid xs → names_apart (mid + 1) hi ys → names_apart lo hi (xs ++ ys)
apart_join [] ys lo mid hi h k = apart_from ys lo (mid + 1) hi (omega arith) k
apart_join (x ∷ xs) ys lo mid hi h k = (h.0, h.1, h.2, apart_join xs ys (h.0 + 1) mid hi h.3 k)

-- one node: its faults lie between its '<' and the end of its attributes
of_node : (k : Node) (at i : ℕ) (l : List Attribute) → at < i → (f : Fault) → NamesFault (record { kind = k; at = at; givens = givens i l }) f → In 4 at (i + length (attributes_text l)) f
of_node k at i l h f (refused g b a e w) = record { layered = refl; low = omega (arith, names_from l i b g a e); high = names_to l i b g a e }
of_node k at i l h f (missing r a q u) = record { layered = refl; low = omega arith; high = omega arith }

stood_apart : (o : Option Node) (at i : ℕ) (l : List Attribute) (inside : Node → List Standing) (mid : ℕ) → at < i → ((k : Node) → names_apart (i + length (attributes_text l) + 1) mid (inside k)) → at ≤ mid → names_apart at mid (standing_here o at (givens i l) inside)
stood_apart None at i l inside mid h k m = m
stood_apart (Some n) at i l inside mid h k m = (i + length (attributes_text l), omega arith, of_node n at i l h, k n)

tag_length : (t : Tag) → length (tag_text t) ≡ 1 + length t.name + length (attributes_text t.attributes) + length t.gap
tag_length t = simp length-append (omega arith)

pub located_apart : (c : Content) (p : Option Node) (i hi : ℕ) → hi ≡ i + length (text c) → names_apart i hi (standing_under p (located i c))
located_apart (end b) p i hi h = omega arith
located_apart (empty b t after) p i hi h =
    let n = length-append (b ++ tag_text t) (47 ∷ 62 ∷ text after) in
    let m = length-append b (tag_text t) in
    let q = tag_length t in
    let z = i + length b + length (tag_text t) + 2 in
    apart_from _ i (i + length b) hi (omega arith)
    (apart_join _ (standing_under p (located z after)) (i + length b) (i + length b + length (tag_text t) + 1) hi
    (stood_apart (placed p t.name) (i + length b) (i + length b + 1 + length t.name) t.attributes (λ k. []) (i + length b + length (tag_text t) + 1) (omega arith) (λ k. omega arith) (omega arith))
    (apart_from (standing_under p (located z after)) _ z hi (omega arith) (located_apart after p z hi (omega arith))))
located_apart (full b t inside c after) p i hi h =
    let n = six_length b (tag_text t) (62 ∷ text inside) (60 ∷ 47 ∷ t.name) c (62 ∷ text after) in
    let q = tag_length t in
    let y = i + length b + length (tag_text t) + 1 in
    let z = y + length (text inside) + 2 + length t.name + length c + 1 in
    apart_from _ i (i + length b) hi (omega arith)
    (apart_join _ (standing_under p (located z after)) (i + length b) (y + length (text inside)) hi
    (stood_apart (placed p t.name) (i + length b) (i + length b + 1 + length t.name) t.attributes (λ k. standing_under (Some k) (located y inside)) (y + length (text inside)) (omega arith)
    (λ k. apart_from (standing_under (Some k) (located y inside)) _ y (y + length (text inside)) (omega arith) (located_apart inside (Some k) y (y + length (text inside)) refl)) (omega arith))
    (apart_from (standing_under p (located z after)) _ z hi (omega arith) (located_apart after p z hi (omega arith))))
