-- The parts of an attribute as the scans find them.
use Rattle.std.proofs.Common.{◌≡◌, ℕ, ◌+◌, ◌-◌, ◌<◌, min, true, ◌||◌, eqb, List, [], ◌∷◌, ◌++◌, length, get_or, take, drop, Some, None, sym, refl, ap, ◌∙◌, inl, inr, arith, length-append, subst, Option}
use lib.Seq.{take-nil}
use Rattle.std.proofs.lemmas.List.{length-drop, take_all, take_rest, drop_all}
use Rattle.std.proofs.lemmas.Bool.{and_parts, false≢true, cases_lt}
use Rattle.std.proofs.lemmas.Bool.Decides.{nat_tests}
use Rattle.rules.specs.Bytes.{blank, name_byte, all}
use Rattle.rules.specs.Markup.{amp, lt, gt, quot, apos, Piece, plain, escaped, piece_ok, piece_text, pieces_text, Quote, single, double, quote_byte, Attribute, attribute_ok, attribute_text, attributes_text, name_ok}
use Rattle.std.specs.List.{prefix_len}
use Rattle.byte_classes.specs.Runs.{other}
use Rattle.theory.specs.On.{stops, closes, pieces_on, attribute_on, attributes_on}
use Rattle.theory.proofs.Lists.{all_append}
use Rattle.theory.proofs.Unique.{pieces_on_is, attribute_on_is}
use Rattle.tags.specs.Spans.{part, spans, name_span, value_span}
use Rattle.tags.specs.Attributes.{Reads}
use Rattle.tags.specs.declared.attributes.AttributeSpan.{AttributeSpan}
use Rattle.tags.proofs.Fronts.{past, cut, scanned, lies_less, lies_head, lies_next}

pub name_first : (n r : List ℕ) → name_ok n ≡ true → (b : ℕ) × (bs : List ℕ) × (n ++ r ≡ b ∷ bs) × (name_byte b ≡ true)
name_first [] r h = absurd (false≢true h)
name_first (b ∷ bs) r h = (b, bs ++ r, refl, (and_parts _ _ h).0)

pub no_slash : (b : ℕ) → name_byte b ≡ true → b ≡ 47 → ⊥
no_slash b h e = false≢true (ap name_byte (sym e) ∙ h)

pub no_angle : (b : ℕ) → name_byte b ≡ true → b ≡ 62 → ⊥
no_angle b h e = false≢true (ap name_byte (sym e) ∙ h)

pub closing_first : (z : List ℕ) → closes z ≡ true → (b : ℕ) × (bs : List ℕ) × (z ≡ b ∷ bs) × ((eqb b 47 || eqb b 62) ≡ true)
closing_first [] h = absurd (false≢true h)
closing_first (b ∷ bs) h = (b, bs, refl, h)

pub name_stops : (n r : List ℕ) → name_ok n ≡ true → stops blank (n ++ r) ≡ true
name_stops [] r h = absurd (false≢true h)
name_stops (b ∷ bs) r h = let u : name_byte b ≡ true = (and_parts _ _ h).0 in grind (arith, nat_tests)

pub blanks_stop : (bs r : List ℕ) → all blank bs ≡ true → stops name_byte r ≡ true → stops name_byte (bs ++ r) ≡ true
blanks_stop [] r h k = k
blanks_stop (b ∷ bs) r h k = let u : blank b ≡ true = (and_parts _ _ h).0 in grind (arith, nat_tests)

pub closes_blank : (z : List ℕ) → closes z ≡ true → stops blank z ≡ true
closes_blank [] h = refl
closes_blank (b ∷ bs) h = grind (arith, nat_tests)

quote_stops : (q : Quote) (r : List ℕ) → stops blank (quote_byte q ∷ r) ≡ true
quote_stops single r = refl
quote_stops double r = refl

to_quote : (q : Quote) (r : List ℕ) → stops (other (quote_byte q)) (quote_byte q ∷ r) ≡ true
to_quote single r = refl
to_quote double r = refl

-- no quote stands in a value
piece_plain : (q : Quote) (p : Piece) → piece_ok p ≡ true → all (other (quote_byte q)) (piece_text p) ≡ true
piece_plain single (escaped amp) h = refl
piece_plain single (escaped lt) h = refl
piece_plain single (escaped gt) h = refl
piece_plain single (escaped quot) h = refl
piece_plain single (escaped apos) h = refl
piece_plain double (escaped amp) h = refl
piece_plain double (escaped lt) h = refl
piece_plain double (escaped gt) h = refl
piece_plain double (escaped quot) h = refl
piece_plain double (escaped apos) h = refl
piece_plain single (plain b) h = grind (arith, nat_tests)
piece_plain double (plain b) h = grind (arith, nat_tests)

pieces_plain : (q : Quote) (ps : List Piece) → all piece_ok ps ≡ true → all (other (quote_byte q)) (pieces_text ps) ≡ true
pieces_plain q [] h = refl
pieces_plain q (p ∷ ps) h = let (u, v) = and_parts _ _ h in all_append _ (piece_text p) (pieces_text ps) (piece_plain q p u) (pieces_plain q ps v)

-- what the scans meet in turn
pub record Steps (d : List ℕ) (at name stop equals quote close : ℕ) (a : Attribute) (rest : List ℕ) : Type 0 where
  pub name_is : name ≡ at + length a.before
  pub at_name : drop name d ≡ a.name ++ (a.left ++ 61 ∷ (a.right ++ quote_byte a.quote ∷ pieces_on a.value (quote_byte a.quote ∷ rest)))
  pub name_in : name < length d
  pub name_byte : name_byte (get_or d name 0) ≡ true
  pub stop_is : stop ≡ name + length a.name
  pub equals_is : equals ≡ stop + length a.left
  pub at_equals : drop equals d ≡ 61 ∷ (a.right ++ quote_byte a.quote ∷ pieces_on a.value (quote_byte a.quote ∷ rest))
  pub equals_in : equals < length d
  pub quote_is : quote ≡ equals + 1 + length a.right
  pub at_quote : drop quote d ≡ quote_byte a.quote ∷ pieces_on a.value (quote_byte a.quote ∷ rest)
  pub quote_in : quote < length d
  pub close_is : close ≡ quote + 1 + length (pieces_text a.value)
  pub at_close : drop close d ≡ quote_byte a.quote ∷ rest
  pub close_in : close < length d

pub steps : (d : List ℕ) (at name stop equals quote close : ℕ) → name ≡ at + prefix_len blank (drop at d) → stop ≡ name + prefix_len name_byte (drop name d) → equals ≡ stop + prefix_len blank (drop stop d) →
    quote ≡ equals + 1 + prefix_len blank (drop (equals + 1) d) → close ≡ quote + 1 + prefix_len (other (get_or d quote 0)) (drop (quote + 1) d) →
    (a : Attribute) (rest : List ℕ) → attribute_ok a ≡ true → drop at d ≡ attribute_on a rest → Steps d at name stop equals quote close a rest
steps d at name stop equals quote close h₁ h₂ h₃ h₄ h₅ a rest ok e =
    let (ob, o₁) = and_parts _ _ ok in
    let (on, o₂) = and_parts _ _ o₁ in
    let (ol, o₃) = and_parts _ _ o₂ in
    let (or, ov) = and_parts _ _ o₃ in
    let (p₁, e₁) = scanned blank d a.before _ at name h₁ (and_parts _ _ ob).1 (name_stops a.name _ on) e in
    let (p₂, e₂) = scanned name_byte d a.name _ name stop h₂ (and_parts _ _ on).1 (blanks_stop a.left _ ol refl) e₁ in
    let (p₃, e₃) = scanned blank d a.left _ stop equals h₃ ol refl e₂ in
    let f₃ = lies_next d _ 61 equals e₃ in
    let (p₄, e₄) = scanned blank d a.right _ (equals + 1) quote h₄ or (quote_stops a.quote (pieces_on a.value (quote_byte a.quote ∷ rest))) f₃ in
    let f₄ = lies_next d _ (quote_byte a.quote) quote e₄ in
    let q : get_or d quote 0 ≡ quote_byte a.quote = lies_head d _ (quote_byte a.quote) quote e₄ in
    let h : close ≡ quote + 1 + prefix_len (other (quote_byte a.quote)) (drop (quote + 1) d) = h₅ ∙ ap (λ x. quote + 1 + prefix_len (other x) (drop (quote + 1) d)) q in
    let (p₅, e₅) = scanned (other (quote_byte a.quote)) d (pieces_text a.value) (quote_byte a.quote ∷ rest) (quote + 1) close h (pieces_plain a.quote a.value ov) (to_quote a.quote rest) (f₄ ∙ sym (pieces_on_is a.value _)) in
    let (b, bs, y, n) = name_first a.name _ on in
    record { name_is = p₁; at_name = e₁; name_in = lies_less d bs b name (e₁ ∙ y); name_byte = ap name_byte (lies_head d bs b name (e₁ ∙ y)) ∙ n; stop_is = p₂; equals_is = p₃; at_equals = e₃; equals_in = lies_less d _ _ equals e₃; quote_is = p₄; at_quote = e₄; quote_in = lies_less d _ _ quote e₄; close_is = p₅; at_close = e₅; close_in = lies_less d _ _ close e₅ }

pub spans_are : (d : List ℕ) (at name stop equals quote close : ℕ) (a : Attribute) (rest : List ℕ) → Steps d at name stop equals quote close a rest →
    record { name = record { start = name; end = stop }; value = record { start = quote + 1; end = close } } ≡ spans at a
spans_are d at name stop equals quote close a rest s =
    let e₁ : stop ≡ (name_span at a).end = omega arith in
    let e₂ : quote + 1 ≡ (value_span at a).start = omega arith in
    let e₃ : close ≡ (value_span at a).end = omega arith in
    λ i. record { name = record { start = s.name_is i; end = e₁ i }; value = record { start = e₂ i; end = e₃ i } }

-- what the scans meet where the tag ends
pub tag_ends : (d : List ℕ) (at name : ℕ) → name ≡ at + prefix_len blank (drop at d) → (g z : List ℕ) → all blank g ≡ true → closes z ≡ true → drop at d ≡ g ++ z →
    (name ≡ at + length g) × (name < length d) × ((eqb (get_or d name 0) 47 || eqb (get_or d name 0) 62) ≡ true)
tag_ends d at name h g z hg hz e =
    let (p, f) = scanned blank d g z at name h hg (closes_blank z hz) e in
    let (b, bs, q, k) = closing_first z hz in
    let u : get_or d name 0 ≡ b = lies_head d bs b name (f ∙ q) in
    (p, lies_less d bs b name (f ∙ q), ap (λ x. eqb x 47 || eqb x 62) u ∙ k)

pub attribute_length : (a : Attribute) → length (attribute_text a) ≡ length a.before + length a.name + length a.left + 1 + length a.right + 1 + length (pieces_text a.value) + 1
attribute_length a = simp length-append (omega arith)

-- what is read at a place, by another name of the document and of the place
pub reads_at : {d d' : List ℕ} {i i' : ℕ} {r : Option AttributeSpan} → Reads d i r → d ≡ d' → i ≡ i' → Reads d' i' r
reads_at {d} {d'} {i} {i'} {r} h p q = subst (λ n. Reads d' n r) q (subst (λ x. Reads x i r) p h)

-- what is left after one attribute more
pub more_attributes : (d : List ℕ) (i : ℕ) (x : AttributeSpan) (l : List Attribute) (g z : List ℕ) → all attribute_ok l ≡ true → all blank g ≡ true → closes z ≡ true → drop i d ≡ attributes_on l (g ++ z) →
    ((a : Attribute) (rest : List ℕ) → attribute_ok a ≡ true → drop i d ≡ attribute_on a rest → Some x ≡ Some (spans i a)) →
    ((g z : List ℕ) → all blank g ≡ true → closes z ≡ true → drop i d ≡ g ++ z → Some x ≡ None) →
    (left : List Attribute) × (all attribute_ok left ≡ true) × (drop (x.value.end + 1) d ≡ attributes_on left (g ++ z)) × (x.value.end + 1 + length (attributes_text left) ≡ i + length (attributes_text l))
more_attributes d i x [] g z h hg hz e reads none = let q = none g z hg hz e in let w : ◌≡◌ {A = ℕ} 0 1 = cc in absurd (omega arith)
more_attributes d i x (a ∷ l) g z h hg hz e reads none =
    let (u, v) = and_parts _ _ h in
    let r = reads a _ u e in
    let q : x ≡ spans i a = cc in
    let k : x.value.end + 1 ≡ i + length (attribute_text a) = omega (arith, ap (λ y. y.value.end) q, attribute_length a) in
    (l, v, ap (λ n. drop n d) k ∙ past d (attribute_text a) _ i (e ∙ sym (attribute_on_is a _)), omega (arith, length-append (attribute_text a) (attributes_text l)))

-- no attribute is left
pub no_attributes : (d : List ℕ) (i : ℕ) (l : List Attribute) (g z : List ℕ) → all attribute_ok l ≡ true → drop i d ≡ attributes_on l (g ++ z) →
    ((a : Attribute) (rest : List ℕ) → attribute_ok a ≡ true → drop i d ≡ attribute_on a rest → None ≡ Some (spans i a)) → l ≡ []
no_attributes d i [] g z h e reads = refl
no_attributes d i (a ∷ l) g z h e reads = let r = reads a _ (and_parts _ _ h).0 e in let w : ◌≡◌ {A = ℕ} 0 1 = cc in absurd (omega arith)

-- the bytes of the name that is found
pub name_part : (d : List ℕ) (i : ℕ) (a : Attribute) (rest : List ℕ) → drop i d ≡ attribute_on a rest → part d (name_span i a) ≡ a.name
name_part d i a rest e = cut d a.name _ (name_span i a).start (name_span i a).end (past d a.before _ i e) refl

-- the bytes of the raw value that is found
pub value_part : (d : List ℕ) (i : ℕ) (a : Attribute) (rest : List ℕ) → drop i d ≡ attribute_on a rest → part d (value_span i a) ≡ pieces_text a.value
value_part d i a rest e =
    let f = past d a.left _ _ (past d a.name _ _ (past d a.before _ i e)) in
    let g = past d a.right _ _ (lies_next d _ 61 _ f) in
    cut d (pieces_text a.value) (quote_byte a.quote ∷ rest) (value_span i a).start (value_span i a).end (lies_next d _ (quote_byte a.quote) _ g ∙ sym (pieces_on_is a.value _)) refl

-- the closing quote stands before the end of the document
pub value_within : (d : List ℕ) (i : ℕ) (a : Attribute) (rest : List ℕ) → drop i d ≡ attribute_on a rest → (value_span i a).end < length d
value_within d i a rest e =
    let n : length d - i ≡ length (attribute_on a rest) = sym (length-drop i d) ∙ ap length e in
    let m : length (attribute_on a rest) ≡ length (attribute_text a) + length rest = ap length (sym (attribute_on_is a rest)) ∙ length-append (attribute_text a) rest in
    omega (arith, attribute_length a)

-- a part whose ends are brought within the document
pub clamped : (d : List ℕ) (i j s e : ℕ) → s ≡ min i e → e ≡ min j (length d) → take (e - s) (drop s d) ≡ take (j - i) (drop i d)
clamped d i j s e hs he =
    elim (cases_lt e i) [
      | inr a ↦
          let p : s ≡ i = omega arith in
          ap (λ n. take (e - n) (drop n d)) p ∙ elim (cases_lt (length d) j) [
            | inr b ↦ let q : e ≡ j = omega arith in ap (λ n. take (n - i) (drop i d)) q
            | inl b ↦ let q : e ≡ length d = omega arith in ap (λ n. take (n - i) (drop i d)) q ∙ take_rest d i ∙ sym (take_all (j - i) (drop i d) (omega (arith, length-drop i d)))
          ]
      | inl a ↦
          let p : e - s ≡ 0 = omega arith in
          ap (λ n. take n (drop s d)) p ∙ elim (cases_lt (length d) j) [
            | inr b ↦ let q : j - i ≡ 0 = omega arith in sym (ap (λ n. take n (drop i d)) q)
            | inl b ↦ sym (ap (take (j - i)) (drop_all i d (omega arith)) ∙ take-nil (j - i))
          ]
    ]
