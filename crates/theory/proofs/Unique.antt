-- A text has one tree of markup at most.
use Rattle.std.proofs.Common.{◌≡◌, ℕ, zero, suc, Bool, true, false, cond, not, ◌&&◌, ◌||◌, eqb, List, [], ◌∷◌, ◌++◌, get_or, sym, refl, ap, ◌∙◌, append_assoc, append-nil, arith}
use Rattle.std.proofs.lemmas.List.{append_cancel_left}
use Rattle.std.proofs.lemmas.Bool.{cond-false, and_parts, and_from, not-true, eqb-true, false≢true, both_ways}
use Rattle.std.proofs.lemmas.Bool.Decides.{nat_tests}
use Rattle.rules.specs.Bytes.{all, blank, name_byte}
use Rattle.rules.specs.Markup.{Escape, amp, lt, gt, quot, apos, Piece, plain, escaped, piece_ok, piece_text, pieces_text, Quote, single, double, quote_byte, Attribute, attribute_ok, attribute_text, attributes_text, some, name_ok, Tag, tag_ok, tag_text, Content, end, empty, full, text, content_ok, Document, declaration, document_text, document_ok, elements, Marks}
use Rattle.rules.specs.Located.{elements_of}
use Rattle.rules.specs.Values.{Values, values_of}
use Rattle.rules.specs.Grounds.{HasValues}
use Rattle.theory.specs.Readings.{OneReadingAtMost}
use Rattle.theory.proofs.Lists.{nil_cons, cons_head, cons_tail, cons_both}
use Rattle.theory.specs.On.{pieces_on, attribute_on, attributes_on, tag_on, content_on, stops, closes, ends}

-- two runs of bytes that pass a test, each followed by what fails it
pub span : (p : ℕ → Bool) (xs ys r s : List ℕ) → all p xs ≡ true → all p ys ≡ true → stops p r ≡ true → stops p s ≡ true → xs ++ r ≡ ys ++ s → (xs ≡ ys) × (r ≡ s)
span p [] [] r s a b h k e = (refl, e)
span p [] (y ∷ ys) [] s a b h k e = absurd (nil_cons y _ e)
span p [] (y ∷ ys) (c ∷ r) s a b h k e = let q : c ≡ y = cc in absurd (both_ways (p y) (ap p (sym q) ∙ not-true _ h) (and_parts _ _ b).0)
span p (x ∷ xs) [] r [] a b h k e = absurd (nil_cons x _ (sym e))
span p (x ∷ xs) [] r (c ∷ s) a b h k e = let q : c ≡ x = cc in absurd (both_ways (p x) (ap p (sym q) ∙ not-true _ k) (and_parts _ _ a).0)
span p (x ∷ xs) (y ∷ ys) r s a b h k e =
    let q : x ≡ y = cc in
    let f : xs ++ r ≡ ys ++ s = cc in
    let (u, v) = span p xs ys r s (and_parts _ _ a).1 (and_parts _ _ b).1 h k f in
    (cons_both q u, v)

-- the escape that a text begins with after its ampersand
abbrev esc : List ℕ → Escape
esc s = cond (eqb (get_or s 0 0) 108) lt (cond (eqb (get_or s 0 0) 103) gt (cond (eqb (get_or s 0 0) 113) quot (cond (eqb (get_or s 1 0) 109) amp apos)))

-- the piece that a text begins with
abbrev read : List ℕ → Piece
read [] = plain 0
read (b ∷ bs) = cond (eqb b 38) (escaped (esc bs)) (plain b)

read_piece : (p : Piece) (r : List ℕ) → piece_ok p ≡ true → read (piece_text p ++ r) ≡ p
read_piece (escaped amp) r h = refl
read_piece (escaped lt) r h = refl
read_piece (escaped gt) r h = refl
read_piece (escaped quot) r h = refl
read_piece (escaped apos) r h = refl
read_piece (plain b) r h = cond-false (eqb b 38) _ _ (not-true _ (and_parts _ _ h).0)

-- a text begins with one piece
piece_inj : (p q : Piece) (r s : List ℕ) → piece_ok p ≡ true → piece_ok q ≡ true → piece_text p ++ r ≡ piece_text q ++ s → (p ≡ q) × (r ≡ s)
piece_inj p q r s h k e =
    let f : p ≡ q = sym (read_piece p r h) ∙ ap read e ∙ read_piece q s k in
    (f, append_cancel_left (piece_text p) r s (e ∙ ap (λ x. piece_text x ++ s) (sym f)))

-- a quote stands at the front
abbrev quoted : List ℕ → Bool
quoted [] = false
quoted (b ∷ bs) = eqb b 34 || eqb b 39

quote_quoted : (q : Quote) (r : List ℕ) → quoted (quote_byte q ∷ r) ≡ true
quote_quoted single r = refl
quote_quoted double r = refl

piece_unquoted : (p : Piece) (r : List ℕ) → piece_ok p ≡ true → quoted (piece_text p ++ r) ≡ false
piece_unquoted (escaped amp) r h = refl
piece_unquoted (escaped lt) r h = refl
piece_unquoted (escaped gt) r h = refl
piece_unquoted (escaped quot) r h = refl
piece_unquoted (escaped apos) r h = refl
piece_unquoted (plain b) r h = grind (arith, nat_tests)

-- a quoted value is written by one list of pieces
pieces_inj : (ps qs : List Piece) (r s : List ℕ) → all piece_ok ps ≡ true → all piece_ok qs ≡ true → quoted r ≡ true → quoted s ≡ true → pieces_on ps r ≡ pieces_on qs s → (ps ≡ qs) × (r ≡ s)
pieces_inj [] [] r s a b h k e = (refl, e)
pieces_inj [] (q ∷ qs) r s a b h k e = absurd (both_ways (quoted r) (ap quoted e ∙ piece_unquoted q _ (and_parts _ _ b).0) h)
pieces_inj (p ∷ ps) [] r s a b h k e = absurd (both_ways (quoted s) (ap quoted (sym e) ∙ piece_unquoted p _ (and_parts _ _ a).0) k)
pieces_inj (p ∷ ps) (q ∷ qs) r s a b h k e =
    let (a₁, a₂) = and_parts _ _ a in
    let (b₁, b₂) = and_parts _ _ b in
    let (u, f) = piece_inj p q _ _ a₁ b₁ e in
    let (v, w) = pieces_inj ps qs r s a₂ b₂ h k f in
    (cc, w)

blank_name : (b : ℕ) → name_byte b ≡ true → not (blank b) ≡ true
blank_name b h = grind (arith, nat_tests)

name_blank : (b : ℕ) → blank b ≡ true → not (name_byte b) ≡ true
name_blank b h = grind (arith, nat_tests)

name_stops : (n r : List ℕ) → name_ok n ≡ true → stops blank (n ++ r) ≡ true
name_stops [] r h = absurd (false≢true h)
name_stops (b ∷ bs) r h = blank_name b (and_parts _ _ h).0

blanks_stop : (bs r : List ℕ) → all blank bs ≡ true → stops name_byte r ≡ true → stops name_byte (bs ++ r) ≡ true
blanks_stop [] r h k = k
blanks_stop (b ∷ bs) r h k = name_blank b (and_parts _ _ h).0

quote_stops : (q : Quote) (r : List ℕ) → stops blank (quote_byte q ∷ r) ≡ true
quote_stops single r = refl
quote_stops double r = refl

quote_same : (q q' : Quote) → quote_byte q ≡ quote_byte q' → q ≡ q'
quote_same single single e = refl
quote_same single double e = absurd (omega arith)
quote_same double single e = absurd (omega arith)
quote_same double double e = refl

-- a text begins with one attribute
attribute_inj : (a c : Attribute) (r s : List ℕ) → attribute_ok a ≡ true → attribute_ok c ≡ true → attribute_on a r ≡ attribute_on c s → (a ≡ c) × (r ≡ s)
attribute_inj a c r s h k e =
    let (hb, h₁) = and_parts _ _ h in
    let (hn, h₂) = and_parts _ _ h₁ in
    let (hl, h₃) = and_parts _ _ h₂ in
    let (hr, hv) = and_parts _ _ h₃ in
    let (kb, k₁) = and_parts _ _ k in
    let (kn, k₂) = and_parts _ _ k₁ in
    let (kl, k₃) = and_parts _ _ k₂ in
    let (kr, kv) = and_parts _ _ k₃ in
    let (e₁, f₁) = span blank a.before c.before _ _ (and_parts _ _ hb).1 (and_parts _ _ kb).1 (name_stops a.name _ hn) (name_stops c.name _ kn) e in
    let (e₂, f₂) = span name_byte a.name c.name _ _ (and_parts _ _ hn).1 (and_parts _ _ kn).1 (blanks_stop a.left _ hl refl) (blanks_stop c.left _ kl refl) f₁ in
    let (e₃, f₃) = span blank a.left c.left _ _ hl kl refl refl f₂ in
    let (e₄, f₄) = span blank a.right c.right _ _ hr kr (quote_stops a.quote (pieces_on a.value (quote_byte a.quote ∷ r))) (quote_stops c.quote (pieces_on c.value (quote_byte c.quote ∷ s))) (cons_tail f₃) in
    let e₅ = quote_same a.quote c.quote (cons_head f₄) in
    let (e₆, f₆) = pieces_inj a.value c.value _ _ hv kv (quote_quoted a.quote r) (quote_quoted c.quote s) (cons_tail f₄) in
    (λ i. record { before = e₁ i; name = e₂ i; left = e₃ i; right = e₄ i; quote = e₅ i; value = e₆ i }, cons_tail f₆)

closes_blank : (z : List ℕ) → closes z ≡ true → stops blank z ≡ true
closes_blank [] h = refl
closes_blank (b ∷ bs) h = grind (arith, nat_tests)

closes_name : (z : List ℕ) → closes z ≡ true → stops name_byte z ≡ true
closes_name [] h = refl
closes_name (b ∷ bs) h = grind (arith, nat_tests)

name_open : (n r : List ℕ) → name_ok n ≡ true → closes (n ++ r) ≡ false
name_open [] r h = absurd (false≢true h)
name_open (b ∷ bs) r h = let u : name_byte b ≡ true = (and_parts _ _ h).0 in grind (arith, nat_tests)

-- no attribute begins where a tag ends
no_attribute : (g z : List ℕ) (c : Attribute) (s : List ℕ) → all blank g ≡ true → closes z ≡ true → attribute_ok c ≡ true → g ++ z ≡ attribute_on c s → ⊥
no_attribute g z c s h k o e =
    let (ob, o₁) = and_parts _ _ o in
    let (on, o₂) = and_parts _ _ o₁ in
    let (u, f) = span blank g c.before _ _ h (and_parts _ _ ob).1 (closes_blank z k) (name_stops c.name _ on) e in
    both_ways (closes z) (ap closes f ∙ name_open c.name _ on) k

-- a tag has one list of attributes
attributes_inj : (l m : List Attribute) (g j z y : List ℕ) → all attribute_ok l ≡ true → all attribute_ok m ≡ true → all blank g ≡ true → all blank j ≡ true → closes z ≡ true → closes y ≡ true →
    attributes_on l (g ++ z) ≡ attributes_on m (j ++ y) → (l ≡ m) × (g ≡ j) × (z ≡ y)
attributes_inj [] [] g j z y a b hg hj hz hy e = let (u, v) = span blank g j z y hg hj (closes_blank z hz) (closes_blank y hy) e in (refl, u, v)
attributes_inj [] (c ∷ m) g j z y a b hg hj hz hy e = absurd (no_attribute g z c _ hg hz (and_parts _ _ b).0 e)
attributes_inj (c ∷ l) [] g j z y a b hg hj hz hy e = absurd (no_attribute j y c _ hj hy (and_parts _ _ a).0 (sym e))
attributes_inj (a ∷ l) (c ∷ m) g j z y h k hg hj hz hy e =
    let (h₁, h₂) = and_parts _ _ h in
    let (k₁, k₂) = and_parts _ _ k in
    let (p, f) = attribute_inj a c _ _ h₁ k₁ e in
    let (q, u, v) = attributes_inj l m g j z y h₂ k₂ hg hj hz hy f in
    (cons_both p q, u, v)

attributes_stop : (l : List Attribute) (g z : List ℕ) → all attribute_ok l ≡ true → all blank g ≡ true → closes z ≡ true → stops name_byte (attributes_on l (g ++ z)) ≡ true
attributes_stop [] g z h hg hz = blanks_stop g z hg (closes_name z hz)
attributes_stop (a ∷ l) g z h hg hz = starts a.before _ (and_parts _ _ (and_parts _ _ h).0).0
  where
    starts : (bs r : List ℕ) → (some bs && all blank bs) ≡ true → stops name_byte (bs ++ r) ≡ true
    starts [] r h = absurd (false≢true h)
    starts (b ∷ bs) r h = name_blank b (and_parts _ _ h).0

-- a text begins with one tag
tag_inj : (t u : Tag) (z y : List ℕ) → tag_ok t ≡ true → tag_ok u ≡ true → closes z ≡ true → closes y ≡ true → tag_on t z ≡ tag_on u y → (t ≡ u) × (z ≡ y)
tag_inj t u z y h k hz hy e =
    let (hn, h₁) = and_parts _ _ h in
    let (ha, hg) = and_parts _ _ h₁ in
    let (kn, k₁) = and_parts _ _ k in
    let (ka, kg) = and_parts _ _ k₁ in
    let (e₁, f) = span name_byte t.name u.name _ _ (and_parts _ _ hn).1 (and_parts _ _ kn).1 (attributes_stop t.attributes t.gap z ha hg hz) (attributes_stop u.attributes u.gap y ka kg hy) (cons_tail e) in
    let (e₂, e₃, g) = attributes_inj t.attributes u.attributes t.gap u.gap z y ha ka hg kg hz hy f in
    (λ i. record { name = e₁ i; attributes = e₂ i; gap = e₃ i }, g)

-- well-marked content of any depth
abbrev pub marked : Content → Bool
marked (end b) = all blank b
marked (empty b t after) = all blank b && (tag_ok t && marked after)
marked (full b t inside c after) = all blank b && (tag_ok t && (marked inside && (all blank c && marked after)))

-- content of some depth is well-marked
pub ok_marked : (c : Content) (n : ℕ) → content_ok n c ≡ true → marked c ≡ true
ok_marked (end b) n h = h
ok_marked (empty b t after) zero h = absurd (false≢true h)
ok_marked (empty b t after) (suc n) h = let (u, h₁) = and_parts (all blank b) _ h in let (v, h₂) = and_parts (tag_ok t) _ h₁ in and_from _ _ u (and_from _ _ v (ok_marked after (suc n) h₂))
ok_marked (full b t inside c after) zero h = absurd (false≢true h)
ok_marked (full b t inside c after) (suc n) h =
    let (u, h₁) = and_parts (all blank b) _ h in
    let (v, h₂) = and_parts (tag_ok t) _ h₁ in
    let (w, h₃) = and_parts _ _ h₂ in
    let (x, h₄) = and_parts (all blank c) _ h₃ in
    and_from _ _ u (and_from _ _ v (and_from _ _ (ok_marked inside n w) (and_from _ _ x (ok_marked after (suc n) h₄))))

ends_stop : (r : List ℕ) → ends r ≡ true → stops blank r ≡ true
ends_stop [] h = refl
ends_stop (b ∷ []) h = absurd (false≢true h)
ends_stop (b ∷ c ∷ r) h = let u = eqb-true b 60 (and_parts _ _ h).0 in rw u refl

-- no element begins where content ends
no_element : (b d r : List ℕ) (t : Tag) (z : List ℕ) → all blank b ≡ true → all blank d ≡ true → ends r ≡ true → tag_ok t ≡ true → b ++ r ≡ d ++ tag_on t z → ⊥
no_element b d r t z hb hd hr ht e = go r t.name hr (and_parts _ _ ht).0 (span blank b d r _ hb hd (ends_stop r hr) refl e).1
  where
    go : (r n : List ℕ) → ends r ≡ true → name_ok n ≡ true → r ≡ 60 ∷ (n ++ attributes_on t.attributes (t.gap ++ z)) → ⊥
    go [] n h k e = nil_cons _ _ e
    go (x ∷ []) n h k e = false≢true h
    go (x ∷ y ∷ r) [] h k e = false≢true k
    go (x ∷ y ∷ r) (c ∷ cs) h k e =
        let f : y ≡ c = cons_head (cons_tail e) in
        let u = eqb-true y 47 (and_parts _ _ h).1 in
        let v : name_byte c ≡ true = (and_parts _ _ k).0 in
        let w : name_byte 47 ≡ true = ap name_byte (sym u ∙ f) ∙ v in
        false≢true w

-- content at the end of a text or before an end tag is one
pub content_inj : (c d : Content) (r s : List ℕ) → marked c ≡ true → marked d ≡ true → ends r ≡ true → ends s ≡ true → content_on c r ≡ content_on d s → (c ≡ d) × (r ≡ s)
content_inj (end b) (end d) r s h k hr hs e = let (u, v) = span blank b d r s h k (ends_stop r hr) (ends_stop s hs) e in (ap end u, v)
content_inj (end b) (empty d u after) r s h k hr hs e = let (k₀, k₁) = and_parts _ _ k in absurd (no_element b d r u _ h k₀ hr (and_parts _ _ k₁).0 e)
content_inj (end b) (full d u inside c after) r s h k hr hs e = let (k₀, k₁) = and_parts _ _ k in absurd (no_element b d r u _ h k₀ hr (and_parts _ _ k₁).0 e)
content_inj (empty b t after) (end d) r s h k hr hs e = let (h₀, h₁) = and_parts _ _ h in absurd (no_element d b s t _ k h₀ hs (and_parts _ _ h₁).0 (sym e))
content_inj (full b t inside c after) (end d) r s h k hr hs e = let (h₀, h₁) = and_parts _ _ h in absurd (no_element d b s t _ k h₀ hs (and_parts _ _ h₁).0 (sym e))
content_inj (empty b t after) (full d u inside c after') r s h k hr hs e =
    let (h₀, h₁) = and_parts _ _ h in
    let (k₀, k₁) = and_parts _ _ k in
    let (p, f) = span blank b d _ _ h₀ k₀ refl refl e in
    let (q, g) = tag_inj t u _ _ (and_parts _ _ h₁).0 (and_parts _ _ k₁).0 refl refl f in
    absurd (differ (cons_head g))
  where
    differ : ◌≡◌ {A = ℕ} 47 62 → ⊥
    differ e = omega arith
content_inj (full b t inside c after) (empty d u after') r s h k hr hs e =
    let (h₀, h₁) = and_parts _ _ h in
    let (k₀, k₁) = and_parts _ _ k in
    let (p, f) = span blank b d _ _ h₀ k₀ refl refl e in
    let (q, g) = tag_inj t u _ _ (and_parts _ _ h₁).0 (and_parts _ _ k₁).0 refl refl f in
    absurd (differ (cons_head g))
  where
    differ : ◌≡◌ {A = ℕ} 62 47 → ⊥
    differ e = omega arith
content_inj (empty b t after) (empty d u after') r s h k hr hs e =
    let (h₀, h₁) = and_parts _ _ h in
    let (h₂, h₃) = and_parts _ _ h₁ in
    let (k₀, k₁) = and_parts _ _ k in
    let (k₂, k₃) = and_parts _ _ k₁ in
    let (p, f) = span blank b d _ _ h₀ k₀ refl refl e in
    let (q, g) = tag_inj t u _ _ h₂ k₂ refl refl f in
    let (v, w) = content_inj after after' r s h₃ k₃ hr hs (cons_tail (cons_tail g)) in
    (λ i. empty (p i) (q i) (v i), w)
content_inj (full b t inside c after) (full d u inside' c' after') r s h k hr hs e =
    let (h₀, h₁) = and_parts _ _ h in
    let (h₂, h₃) = and_parts _ _ h₁ in
    let (h₄, h₅) = and_parts _ _ h₃ in
    let (h₆, h₇) = and_parts _ _ h₅ in
    let (k₀, k₁) = and_parts _ _ k in
    let (k₂, k₃) = and_parts _ _ k₁ in
    let (k₄, k₅) = and_parts _ _ k₃ in
    let (k₆, k₇) = and_parts _ _ k₅ in
    let (p, f) = span blank b d _ _ h₀ k₀ refl refl e in
    let (q, g) = tag_inj t u _ _ h₂ k₂ refl refl f in
    let (v, w) = content_inj inside inside' _ _ h₄ k₄ refl refl (cons_tail g) in
    let same_name : t.name ≡ u.name = λ i. (q i).name in
    let x = append_cancel_left t.name _ _ (cons_tail (cons_tail w) ∙ ap (λ n. n ++ (c' ++ 62 ∷ content_on after' s)) (sym same_name)) in
    let (y, z) = span blank c c' _ _ h₆ k₆ refl refl x in
    let (m, l) = content_inj after after' r s h₇ k₇ hr hs (cons_tail z) in
    (λ i. full (p i) (q i) (v i) (y i) (m i), l)

-- the texts of markup, with what follows them
pub pieces_on_is : (ps : List Piece) (r : List ℕ) → pieces_text ps ++ r ≡ pieces_on ps r
pieces_on_is [] r = refl
pieces_on_is (p ∷ ps) r = append_assoc (piece_text p) (pieces_text ps) r ∙ ap (λ x. piece_text p ++ x) (pieces_on_is ps r)

pub attribute_on_is : (a : Attribute) (r : List ℕ) → attribute_text a ++ r ≡ attribute_on a r
attribute_on_is a r = simp append_assoc (simp pieces_on_is)

pub attributes_on_is : (l : List Attribute) (r : List ℕ) → attributes_text l ++ r ≡ attributes_on l r
attributes_on_is [] r = refl
attributes_on_is (a ∷ l) r = append_assoc (attribute_text a) (attributes_text l) r ∙ attribute_on_is a _ ∙ ap (attribute_on a) (attributes_on_is l r)

pub tag_on_is : (t : Tag) (r : List ℕ) → tag_text t ++ r ≡ tag_on t r
tag_on_is t r = simp append_assoc (simp attributes_on_is)

regroup : (a b c d e f r : List ℕ) → (((((a ++ b) ++ c) ++ d) ++ e) ++ f) ++ r ≡ a ++ (b ++ (c ++ (d ++ (e ++ (f ++ r)))))
regroup a b c d e f r = simp append_assoc

pub content_on_is : (c : Content) (r : List ℕ) → text c ++ r ≡ content_on c r
content_on_is (end b) r = refl
content_on_is (empty b t after) r =
    append_assoc (b ++ tag_text t) (47 ∷ 62 ∷ text after) r ∙ append_assoc b (tag_text t) (47 ∷ 62 ∷ (text after ++ r))
    ∙ ap (λ x. b ++ x) (tag_on_is t _ ∙ ap (λ x. tag_on t (47 ∷ 62 ∷ x)) (content_on_is after r))
content_on_is (full b t inside c after) r =
    let e : text after ++ r ≡ content_on after r = content_on_is after r in
    let f : text inside ++ (60 ∷ 47 ∷ (t.name ++ (c ++ 62 ∷ content_on after r))) ≡ content_on inside (60 ∷ 47 ∷ (t.name ++ (c ++ 62 ∷ content_on after r))) = content_on_is inside _ in
    regroup b (tag_text t) (62 ∷ text inside) (60 ∷ 47 ∷ t.name) c (62 ∷ text after) r
    ∙ ap (λ x. b ++ (tag_text t ++ 62 ∷ (text inside ++ (60 ∷ 47 ∷ (t.name ++ (c ++ 62 ∷ x)))))) e
    ∙ ap (λ x. b ++ (tag_text t ++ 62 ∷ x)) f ∙ ap (λ x. b ++ x) (tag_on_is t _)

-- no tag begins as the declaration does
no_declaration : (d r : List ℕ) (t : Tag) (z : List ℕ) → all blank d ≡ true → tag_ok t ≡ true → 60 ∷ 63 ∷ r ≡ d ++ tag_on t z → ⊥
no_declaration (x ∷ d) r t z h k e = let u : blank x ≡ true = (and_parts _ _ h).0 in let f : 60 ≡ x = cons_head e in false≢true (ap blank f ∙ u)
no_declaration [] r t z h k e = go t.name (and_parts _ _ k).0 (cons_tail e)
  where
    go : (n : List ℕ) → name_ok n ≡ true → 63 ∷ r ≡ n ++ attributes_on t.attributes (t.gap ++ z) → ⊥
    go [] k e = false≢true k
    go (c ∷ cs) k e = let v : name_byte c ≡ true = (and_parts _ _ k).0 in let f : 63 ≡ c = cons_head e in false≢true (ap name_byte f ∙ v)

-- no content begins as the declaration does
pub undeclared : (c : Content) (r : List ℕ) → marked c ≡ true → eqb (elements c) 1 ≡ true → 60 ∷ 63 ∷ r ≡ content_on c [] → ⊥
undeclared (end b) r h k e = false≢true k
undeclared (empty b t after) r h k e = let (u, v) = and_parts _ _ h in no_declaration b r t _ u (and_parts _ _ v).0 e
undeclared (full b t inside c after) r h k e = let (u, v) = and_parts _ _ h in no_declaration b r t _ u (and_parts _ _ v).0 e

-- a text has one tree at most
pub one_tree : (m n : Document) → document_ok m ≡ true → document_ok n ≡ true → document_text m ≡ document_text n → m ≡ n
one_tree m n h k e = go m.declared n.declared refl refl
  where
    hm : marked m.content ≡ true
    hm = ok_marked m.content 6 (and_parts _ _ h).0

    kn : marked n.content ≡ true
    kn = ok_marked n.content 6 (and_parts _ _ k).0

    on : (c : Content) → text c ≡ content_on c []
    on c = sym (append-nil (text c)) ∙ content_on_is c []

    texts : (a b : Bool) → m.declared ≡ a → n.declared ≡ b → cond a declaration [] ++ text m.content ≡ cond b declaration [] ++ text n.content
    texts a b p q = ap (λ x. cond x declaration [] ++ text m.content) (sym p) ∙ e ∙ ap (λ x. cond x declaration [] ++ text n.content) q

    alike : (a b : Bool) → m.declared ≡ a → n.declared ≡ b → a ≡ b → text m.content ≡ text n.content → m ≡ n
    alike a b p q r f =
        let d : m.declared ≡ n.declared = p ∙ r ∙ sym q in
        let c : m.content ≡ n.content = (content_inj m.content n.content [] [] hm kn refl refl (sym (on m.content) ∙ f ∙ on n.content)).0 in
        λ i. record { declared = d i; content = c i }

    go : (a b : Bool) → m.declared ≡ a → n.declared ≡ b → m ≡ n
    go true true p q = alike true true p q refl (append_cancel_left declaration _ _ (texts true true p q))
    go false false p q = alike false false p q refl (texts false false p q)
    go true false p q = absurd (undeclared n.content _ kn (and_parts _ _ k).1 (texts true false p q ∙ on n.content))
    go false true p q = absurd (undeclared m.content _ hm (and_parts _ _ h).1 (sym (texts false true p q) ∙ on m.content))

-- a text has one tree
pub same_tree : (d : List ℕ) (m n : Document) → Marks d m → Marks d n → m ≡ n
same_tree d m n h k = one_tree m n h.0 k.0 (h.1 ∙ sym k.1)

-- a text has one set of values
pub same_values : (d : List ℕ) (v w : Values) → HasValues d v → HasValues d w → v ≡ w
same_values d v w h k = h.2 ∙ ap (λ m. values_of (elements_of m)) (same_tree d h.0 k.0 h.1 k.1) ∙ sym k.2

-- a text has one reading
pub one_reading : OneReadingAtMost
one_reading d = record { one_tree = same_tree d; same_elements = λ m n h k. ap elements_of (same_tree d m n h k); same_values = same_values d }
