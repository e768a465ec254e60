-- The start of a node.
use Rattle.std.proofs.Common.{◌≡◌, ℕ, zero, suc, ◌+◌, ◌-◌, Bool, true, false, ◌&&◌, List, [], ◌∷◌, ◌++◌, length, take, drop, Some, Option, sym, refl, ap, ◌∙◌, ⊎_elim, arith, length-append}
use Rattle.std.proofs.lemmas.List.{take_at}
use Rattle.std.proofs.lemmas.Bool.{and_parts, and_from, cases_Bool, cond-true, cond-false, false≢true}
use Rattle.std.proofs.lemmas.Bool.Decides.{nat_tests}
use Rattle.rules.specs.Bytes.{Among, same, blank, name_byte, all}
use Rattle.rules.specs.Markup.{Attribute, attribute_ok, attributes_text, name_ok, some, Tag, tag_ok, tag_text, Content, end, empty, full, content_ok}
use Rattle.rules.specs.Located.{located}
use Rattle.rules.specs.Schema.{Child, tag}
use Rattle.rules.specs.Values.{named, under, placed}
use Rattle.rules.specs.declared.schema.Node.{Node}
use Rattle.theory.specs.On.{attributes_on, tag_on, content_on, closes, stops}
use Rattle.theory.specs.Schema.{parent}
use Rattle.theory.proofs.SchemaLaws.{one_parent}
use Rattle.tags.specs.Scan.{ended}
use Rattle.std.specs.List.{prefix_len}
use Rattle.byte_classes.specs.Runs.{other}
use Rattle.walk.specs.Events.{no_element}
use Rattle.tags.proofs.Fronts.{past, scanned, lies_next}
use Rattle.tags.proofs.Parts.{blanks_stop}
use Rattle.theory.proofs.Unique.{attributes_on_is}

-- the node that a name means under p has the parent p
named_among : (cs : List Child) (n : List ℕ) (k : Node) → named cs n ≡ Some k → (c : Child) × Among c cs × (c.node ≡ k)
named_among [] n k h = let z : ◌≡◌ {A = ℕ} 0 1 = cc in absurd (omega arith)
named_among (c ∷ cs) n k h =
    ⊎_elim
    (λ t. let e : Some c.node ≡ Some k = sym (cond-true _ _ _ t) ∙ h in let f : c.node ≡ k = cc in (c, ([], cs, refl), f))
    (λ t. let (x, (b, a, e), f) = named_among cs n k (sym (cond-false _ _ _ t) ∙ h) in (x, (c ∷ b, a, ap (λ l. c ∷ l) e), f))
    (cases_Bool (same (tag c.node) n))

pub placed_parent : (p : Option Node) (n : List ℕ) (k : Node) → placed p n ≡ Some k → parent k ≡ p
placed_parent p n k h = let (c, a, e) = named_among (under p) n k h in ap parent (sym e) ∙ one_parent.no_other p c a

-- what the scan to the end of a tag finds
abbrev pub Reads : List ℕ → ℕ → ℕ → Type 0
Reads d at close = (l : List Attribute) (g z : List ℕ) → all attribute_ok l ≡ true → all blank g ≡ true → closes z ≡ true → drop at d ≡ attributes_on l (g ++ z) → close ≡ at + length (attributes_text l) + length g

closes_name : (z : List ℕ) → closes z ≡ true → stops name_byte z ≡ true
closes_name [] h = refl
closes_name (b ∷ bs) h = grind (arith, nat_tests)

attributes_stop : (l : List Attribute) (g z : List ℕ) → all attribute_ok l ≡ true → all blank g ≡ true → closes z ≡ true → stops name_byte (attributes_on l (g ++ z)) ≡ true
attributes_stop [] g z h hg hz = blanks_stop g z hg (closes_name z hz)
attributes_stop (a ∷ l) g z h hg hz = starts a.before _ (and_parts _ _ (and_parts _ _ h).0).0
  where
    starts : (bs r : List ℕ) → (some bs && all blank bs) ≡ true → stops name_byte (bs ++ r) ≡ true
    starts [] r h = absurd (false≢true h)
    starts (b ∷ bs) r h = let u : blank b ≡ true = (and_parts _ _ h).0 in grind (arith, nat_tests)

-- the scans of a start tag
pub record TagRead (d : List ℕ) (place attributes close : ℕ) (t : Tag) (z : List ℕ) : Type 0 where
  pub name_is : take (attributes - (place + 1)) (drop (place + 1) d) ≡ t.name
  pub name_ends : attributes ≡ place + 1 + length t.name
  pub attributes_lie : drop attributes d ≡ attributes_on t.attributes (t.gap ++ z)
  pub tag_ends : close ≡ place + length (tag_text t)
  pub end_lies : drop close d ≡ z

pub tag_read : (d : List ℕ) (place attributes close : ℕ) (t : Tag) (z : List ℕ) → attributes ≡ place + 1 + prefix_len name_byte (drop (place + 1) d) → Reads d attributes close → tag_ok t ≡ true → closes z ≡ true → drop place d ≡ tag_on t z →
    TagRead d place attributes close t z
tag_read d place attributes close t z hs reads ok hz e =
    let (on, o₁) = and_parts (name_ok t.name) _ ok in
    let (oa, og) = and_parts (all attribute_ok t.attributes) _ o₁ in
    let e₁ : drop (place + 1) d ≡ t.name ++ attributes_on t.attributes (t.gap ++ z) = lies_next d _ 60 place e in
    let (p, f) = scanned name_byte d t.name (attributes_on t.attributes (t.gap ++ z)) (place + 1) attributes hs (and_parts (some t.name) _ on).1 (attributes_stop t.attributes t.gap z oa og hz) e₁ in
    let q = reads t.attributes t.gap z oa og hz f in
    let long : length (tag_text t) ≡ 1 + length t.name + length (attributes_text t.attributes) + length t.gap = simp length-append (omega arith) in
    let g : drop (attributes + length (attributes_text t.attributes)) d ≡ t.gap ++ z = past d (attributes_text t.attributes) _ attributes (f ∙ sym (attributes_on_is t.attributes _)) in
    let h : drop (attributes + length (attributes_text t.attributes) + length t.gap) d ≡ z = past d t.gap z _ g in
    record { name_is = ap (take (attributes - (place + 1))) e₁ ∙ take_at t.name _ _ (omega arith); name_ends = p; attributes_lie = f; tag_ends = omega arith; end_lies = ap (λ n. drop n d) q ∙ h }

pub six_length : (a b c d e f : List ℕ) → length (((((a ++ b) ++ c) ++ d) ++ e) ++ f) ≡ length a + length b + length c + length d + length e + length f
six_length a b c d e f = simp length-append

pub all_weaker : (p q : ℕ → Bool) → ((b : ℕ) → p b ≡ true → q b ≡ true) → (xs : List ℕ) → all p xs ≡ true → all q xs ≡ true
all_weaker p q f [] h = refl
all_weaker p q f (x ∷ xs) h = let (u, v) = and_parts _ _ h in and_from _ _ (f x u) (all_weaker p q f xs v)

pub name_other : (b : ℕ) → name_byte b ≡ true → other 62 b ≡ true
name_other b h = grind (arith, nat_tests)

pub blank_other : (b : ℕ) → blank b ≡ true → other 62 b ≡ true
blank_other b h = grind (arith, nat_tests)

name_ended : (n r : List ℕ) → name_ok n ≡ true → ended (60 ∷ (n ++ r)) ≡ false
name_ended [] r h = absurd (false≢true h)
name_ended (b ∷ bs) r h = let u : name_byte b ≡ true = (and_parts _ _ h).0 in grind (arith, nat_tests)

-- whether no element stands in a node, by the bytes after the blanks
pub holds_none : (d : List ℕ) (i j : ℕ) (r : List ℕ) (n : ℕ) (c : Content) → j ≡ i + prefix_len blank (drop i d) → content_ok n c ≡ true → drop i d ≡ content_on c (60 ∷ 47 ∷ r) → no_element (located i c) ≡ ended (drop j d)
holds_none d i j r n (end b) hj h e = let (p, f) = scanned blank d b _ i j hj h refl e in sym (ap ended f)
holds_none d i j r zero (empty b t after) hj h e = absurd (false≢true h)
holds_none d i j r (suc n) (empty b t after) hj h e =
    let (u, h₁) = and_parts (all blank b) _ h in
    let (p, f) = scanned blank d b _ i j hj u refl e in
    sym (ap ended f ∙ name_ended t.name _ (and_parts _ _ (and_parts _ _ h₁).0).0)
holds_none d i j r zero (full b t inside c after) hj h e = absurd (false≢true h)
holds_none d i j r (suc n) (full b t inside c after) hj h e =
    let (u, h₁) = and_parts (all blank b) _ h in
    let (p, f) = scanned blank d b _ i j hj u refl e in
    sym (ap ended f ∙ name_ended t.name _ (and_parts _ _ (and_parts _ _ h₁).0).0)
