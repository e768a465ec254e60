-- The values of a spelled document are spelled, and so is their fair copy.
use Rattle.std.proofs.Common.{◌≡◌, ℕ, ◌<◌, Bool, true, false, cond, ◌&&◌, List, [], ◌∷◌, ◌++◌, length, Some, None, codes, Option, sym, refl, ap, ◌∙◌, subst, append_assoc, append-nil, arith}
use Rattle.std.proofs.lemmas.Bool.{cond_both, and_parts}
use Rattle.std.proofs.lemmas.Bool.Decides.{nat_tests}
use Rattle.rules.specs.Bytes.{all, same, blank}
use Rattle.rules.specs.Letters.{Spelled}
use Rattle.rules.specs.Markup.{Escape, amp, lt, gt, quot, apos, Piece, plain, escaped, piece_text, escape_text, piece_byte, pieces_text, pieces_bytes, Quote, single, double, quote_byte, Attribute, attribute_text, attributes_text, tag_ok, tag_text, Content, end, empty, full, text, Document, head, declaration, document_text, document_ok}
use Rattle.rules.specs.Located.{givens, located, elements_of}
use Rattle.rules.specs.Kept.{kept, kept_on, kept_gap}
use Rattle.rules.specs.Kinds.{keep}
use Rattle.rules.specs.declared.schema.Kind.{Kind}
use Rattle.rules.specs.Schema.{Row, attributes, namespaces, tag}
use Rattle.rules.specs.Values.{Values, no_nodes, node, kept_of, slots, placed, with_node, values_under, values_of}
use Rattle.rules.specs.Texts.{pieces, fair_attribute, fair_attributes, fixed_attributes, only_text, fair_tag, fair}
use Rattle.rules.specs.declared.schema.Node.{Node}
use Rattle.theory.proofs.Pieces.{written}
use Rattle.theory.specs.On.{pieces_on, attribute_on, attributes_on, content_on}
use Rattle.theory.proofs.Unique.{marked, ok_marked, pieces_on_is, attribute_on_is, content_on_is}
use Rattle.theory.proofs.Lists.{Each}
use Rattle.theory.proofs.SchemaLaws.{at_node}
use Rattle.theory.proofs.Spells.{spelled_nil, spelled_append, ascii_letter, ascii_letter_spelled, ascii_spelled, cut, after_one, after}

-- the values of a document's attributes
abbrev ValueSpelled : Attribute → Type 0
ValueSpelled a = Spelled (pieces_text a.value)

-- the values of all attributes are spelled
abbrev Spells : Content → Type 0
Spells (end b) = Unit {0}
Spells (empty b t after) = Each ValueSpelled t.attributes × Spells after
Spells (full b t inside c after) = Each ValueSpelled t.attributes × Spells inside × Spells after

quote_low : (q : Quote) → quote_byte q < 128
quote_low single = omega arith
quote_low double = omega arith

group4 : (a b c d r : List ℕ) → a ++ (b ++ (c ++ (d ++ r))) ≡ (((a ++ b) ++ c) ++ d) ++ r
group4 a b c d r = simp append_assoc

attribute_spelled : (a : Attribute) (pre r : List ℕ) → Spelled (pre ++ attribute_on a r) → ValueSpelled a × Spelled r
attribute_spelled a pre r h =
    let q : ℕ = quote_byte a.quote in
    let R₂ : List ℕ = pieces_on a.value (q ∷ r) in
    let h₁ : Spelled (a.right ++ q ∷ R₂) = after _ _ 61 (omega arith) (subst Spelled (group4 pre a.before a.name a.left (61 ∷ (a.right ++ q ∷ R₂))) h) in
    let h₂ : Spelled R₂ = after a.right R₂ q (quote_low a.quote) h₁ in
    let (x, y) = cut (pieces_text a.value) r q (quote_low a.quote) (subst Spelled (sym (pieces_on_is a.value (q ∷ r))) h₂) in
    (x, after_one r q (quote_low a.quote) y)

attributes_spelled : (l : List Attribute) (pre g r : List ℕ) (x : ℕ) → x < 128 → Spelled (pre ++ attributes_on l (g ++ x ∷ r)) → Each ValueSpelled l × Spelled r
attributes_spelled [] pre g r x k h = (tt, after (pre ++ g) r x k (subst Spelled (sym (append_assoc pre g (x ∷ r))) h))
attributes_spelled (a ∷ l) pre g r x k h =
    let (u, v) = attribute_spelled a pre _ h in
    let (p, q) = attributes_spelled l [] g r x k v in
    ((u, p), q)

blanks_spelled : (b r : List ℕ) → all blank b ≡ true → Spelled (b ++ r) → Spelled r
blanks_spelled [] r h k = k
blanks_spelled (x ∷ b) r h k = let (u, v) = and_parts (blank x) _ h in blanks_spelled b r v (after_one (b ++ r) x (low x u) k)
  where
    low : (x : ℕ) → blank x ≡ true → x < 128
    low x h = grind (arith, nat_tests)

-- spelled content has spelled values
content_spelled : (c : Content) (r : List ℕ) → marked c ≡ true → Spelled (content_on c r) → Spells c × Spelled r
content_spelled (end b) r h k = (tt, blanks_spelled b r h k)
content_spelled (empty b t after') r h k =
    let (h₀, h₁) = and_parts (all blank b) _ h in
    let (h₂, h₃) = and_parts (tag_ok t) _ h₁ in
    let (x, y) = attributes_spelled t.attributes t.name t.gap _ 47 (omega arith) (after b _ 60 (omega arith) k) in
    let (u, v) = content_spelled after' r h₃ (after_one _ 62 (omega arith) y) in
    ((x, u), v)
content_spelled (full b t inside c after') r h k =
    let (h₀, h₁) = and_parts (all blank b) _ h in
    let (h₂, h₃) = and_parts (tag_ok t) _ h₁ in
    let (h₄, h₅) = and_parts (marked inside) _ h₃ in
    let (h₆, h₇) = and_parts (all blank c) _ h₅ in
    let (x, y) = attributes_spelled t.attributes t.name t.gap _ 62 (omega arith) (after b _ 60 (omega arith) k) in
    let (u, v) = content_spelled inside (60 ∷ 47 ∷ (t.name ++ (c ++ 62 ∷ content_on after' r))) h₄ y in
    let e : 60 ∷ 47 ∷ (t.name ++ (c ++ 62 ∷ content_on after' r)) ≡ (60 ∷ 47 ∷ (t.name ++ c)) ++ 62 ∷ content_on after' r = ap (λ w. 60 ∷ 47 ∷ w) (sym (append_assoc t.name c (62 ∷ content_on after' r))) in
    let (p, q) = content_spelled after' r h₇ (after (60 ∷ 47 ∷ (t.name ++ c)) _ 62 (omega arith) (subst Spelled e v)) in
    ((x, u, p), q)

-- from the text of a value to its bytes, to its kept form, and to the text of that
escape_low : (e : Escape) (pre r : List ℕ) → Spelled (pre ++ (escape_text e ++ r)) → Spelled pre × Spelled r
escape_low amp pre r h = let (a, b) = cut pre _ 38 (omega arith) h in (a, after (codes "&amp") r 59 (omega arith) b)
escape_low lt pre r h = let (a, b) = cut pre _ 38 (omega arith) h in (a, after (codes "&lt") r 59 (omega arith) b)
escape_low gt pre r h = let (a, b) = cut pre _ 38 (omega arith) h in (a, after (codes "&gt") r 59 (omega arith) b)
escape_low quot pre r h = let (a, b) = cut pre _ 38 (omega arith) h in (a, after (codes "&quot") r 59 (omega arith) b)
escape_low apos pre r h = let (a, b) = cut pre _ 38 (omega arith) h in (a, after (codes "&apos") r 59 (omega arith) b)

escape_one : (e : Escape) → ascii_letter (piece_byte (escaped e)) ≡ true
escape_one amp = refl
escape_one lt = refl
escape_one gt = refl
escape_one quot = refl
escape_one apos = refl

push : (pre : List ℕ) (b : ℕ) (s : List ℕ) → (pre ++ b ∷ []) ++ s ≡ pre ++ b ∷ s
push pre b s = append_assoc pre (b ∷ []) s

bytes_spelled : (ps : List Piece) (pre : List ℕ) → Spelled (pre ++ pieces_text ps) → Spelled (pre ++ pieces_bytes ps)
bytes_spelled [] pre h = h
bytes_spelled (plain b ∷ ps) pre h = subst Spelled (push pre b (pieces_bytes ps)) (bytes_spelled ps (pre ++ b ∷ []) (subst Spelled (sym (push pre b (pieces_text ps))) h))
bytes_spelled (escaped e ∷ ps) pre h =
    let b : ℕ = piece_byte (escaped e) in
    let (x, y) = escape_low e pre (pieces_text ps) h in
    subst Spelled (push pre b (pieces_bytes ps)) (bytes_spelled ps (pre ++ b ∷ []) (spelled_append (pre ++ b ∷ []) (pieces_text ps) (spelled_append pre (b ∷ []) x (ascii_letter_spelled b (escape_one e))) y))

blank_low : (b : ℕ) → blank b ≡ true → b < 128
blank_low b h = grind (arith, nat_tests)

mutual
  on_spelled : (s pre : List ℕ) → Spelled (pre ++ s) → Spelled (pre ++ kept_on s)
  on_spelled [] pre h = h
  on_spelled (b ∷ bs) pre h =
      cond_both (blank b) (kept_gap bs) (b ∷ kept_on bs) (λ x. Spelled (pre ++ x))
      (λ e. let (u, v) = cut pre bs b (blank_low b e) h in gap_spelled bs pre u (after_one bs b (blank_low b e) v))
      (λ e. subst Spelled (push pre b (kept_on bs)) (on_spelled bs (pre ++ b ∷ []) (subst Spelled (sym (push pre b bs)) h)))

  gap_spelled : (s pre : List ℕ) → Spelled pre → Spelled s → Spelled (pre ++ kept_gap s)
  gap_spelled [] pre h k = subst Spelled (sym (append-nil pre)) h
  gap_spelled (b ∷ bs) pre h k =
      cond_both (blank b) (kept_gap bs) (32 ∷ b ∷ kept_on bs) (λ x. Spelled (pre ++ x))
      (λ e. gap_spelled bs pre h (after_one bs b (blank_low b e) k))
      (λ e. subst Spelled (append_assoc pre (32 ∷ b ∷ []) (kept_on bs)) (on_spelled bs (pre ++ 32 ∷ b ∷ [])
      (subst Spelled (sym (append_assoc pre (32 ∷ b ∷ []) bs)) (spelled_append pre (32 ∷ b ∷ bs) h (spelled_append (32 ∷ []) (b ∷ bs) (ascii_letter_spelled 32 refl) k)))))

-- a kept form of spelled text is spelled
kept_spelled : (s : List ℕ) → Spelled s → Spelled (kept s)
kept_spelled [] h = h
kept_spelled (b ∷ bs) h =
    cond_both (blank b) (kept bs) (b ∷ kept_on bs) Spelled (λ e. kept_spelled bs (after_one bs b (blank_low b e) h)) (λ e. on_spelled bs (b ∷ []) h)

-- spelled text is spelled with its escapes
pieces_spelled : (s pre : List ℕ) → Spelled (pre ++ s) → Spelled (pre ++ pieces_text (pieces s))
pieces_spelled [] pre h = h
pieces_spelled (b ∷ bs) pre h =
    written b (λ p. Spelled (pre ++ (piece_text p ++ pieces_text (pieces bs))))
    (λ e. low amp 38 (omega arith) refl e (pieces_spelled bs [])) (λ e. low lt 60 (omega arith) refl e (pieces_spelled bs [])) (λ e. low gt 62 (omega arith) refl e (pieces_spelled bs []))
    (λ e. low quot 34 (omega arith) refl e (pieces_spelled bs [])) (λ e. low apos 39 (omega arith) refl e (pieces_spelled bs []))
    (λ e. subst Spelled (push pre b (pieces_text (pieces bs))) (pieces_spelled bs (pre ++ b ∷ []) (subst Spelled (sym (push pre b bs)) h)))
  where
    low : (e : Escape) (c : ℕ) → c < 128 → all ascii_letter (escape_text e) ≡ true → b ≡ c → (Spelled bs → Spelled (pieces_text (pieces bs))) → Spelled (pre ++ (escape_text e ++ pieces_text (pieces bs)))
    low e c l a q f =
        let m : b < 128 = omega arith in
        let (u, v) = cut pre bs b m h in
        spelled_append pre _ u (spelled_append (escape_text e) _ (ascii_spelled (escape_text e) a) (f (after_one bs b m v)))

-- the kept forms of spelled values are spelled
abbrev pub SlotSpelled : Option (List ℕ) → Type 0
SlotSpelled None = Unit {0}
SlotSpelled (Some x) = Spelled x

-- every slot is spelled
abbrev pub ValuesSpelled : Values → Type 0
ValuesSpelled no_nodes = Unit {0}
ValuesSpelled (node k s inside rest) = Each SlotSpelled s × ValuesSpelled inside × ValuesSpelled rest

keep_spelled : (k : Kind) (s : List ℕ) → Spelled s → Spelled (keep k s)
keep_spelled k s h = kept_spelled s h

slot_spelled : (l : List Attribute) (r : Row) (i : ℕ) → Each ValueSpelled l → SlotSpelled (kept_of r (givens i l))
slot_spelled [] r i h = tt
slot_spelled (a ∷ l) r i h = cond_both (same r.name a.name) (Some (keep r.kind (pieces_bytes a.value))) _ SlotSpelled (λ e. keep_spelled r.kind _ (bytes_spelled a.value [] h.0)) (λ e. slot_spelled l r _ h.1)

slots_spelled : (rs : List Row) (l : List Attribute) (i : ℕ) → Each ValueSpelled l → Each SlotSpelled (slots rs (givens i l))
slots_spelled [] l i h = tt
slots_spelled (r ∷ rs) l i h = (slot_spelled l r i h, slots_spelled rs l i h)

grown_spelled : (o : Option Node) (l : List Attribute) (i : ℕ) (inside : Node → Values) (more : Values) → Each ValueSpelled l → ((k : Node) → ValuesSpelled (inside k)) → ValuesSpelled more → ValuesSpelled (with_node o (givens i l) inside more)
grown_spelled None l i inside more h f g = g
grown_spelled (Some k) l i inside more h f g = (slots_spelled (attributes k) l i h, f k, g)

-- elements with spelled values have spelled slots
values_spelled : (c : Content) (p : Option Node) (i : ℕ) → Spells c → ValuesSpelled (values_under p (located i c))
values_spelled (end b) p i h = tt
values_spelled (empty b t after') p i h = grown_spelled (placed p t.name) t.attributes _ _ _ h.0 (λ k. tt) (values_spelled after' p _ h.1)
values_spelled (full b t inside c after') p i h = grown_spelled (placed p t.name) t.attributes _ _ _ h.0 (λ k. values_spelled inside (Some k) _ h.1) (values_spelled after' p _ h.2)

-- names and fixed texts are ASCII
abbrev ascii_row : Row → Bool
ascii_row r = all ascii_letter r.name && all ascii_letter (only_text r.kind)

-- each node's names are so
ascii_law : (k : Node) → (all ascii_letter (tag k) && (all ascii_row (namespaces k) && all ascii_row (attributes k))) ≡ true
ascii_law = at_node (λ k. all ascii_letter (tag k) && (all ascii_row (namespaces k) && all ascii_row (attributes k))) refl

fair_attribute_spelled : (n x r : List ℕ) → Spelled n → Spelled x → Spelled r → Spelled (attribute_text (fair_attribute n x) ++ r)
fair_attribute_spelled n x r a b c =
    let q : Spelled (34 ∷ r) = spelled_append (34 ∷ []) r (ascii_letter_spelled 34 refl) c in
    let v : Spelled (pieces_text (pieces x) ++ 34 ∷ r) = spelled_append (pieces_text (pieces x)) (34 ∷ r) (pieces_spelled x [] b) q in
    let w : Spelled (61 ∷ 34 ∷ (pieces_text (pieces x) ++ 34 ∷ r)) = spelled_append (61 ∷ 34 ∷ []) _ (ascii_spelled (61 ∷ 34 ∷ []) refl) v in
    let y : Spelled (32 ∷ (n ++ 61 ∷ 34 ∷ (pieces_text (pieces x) ++ 34 ∷ r))) = spelled_append (32 ∷ []) _ (ascii_letter_spelled 32 refl) (spelled_append n _ a w) in
    subst Spelled (sym (attribute_on_is (fair_attribute n x) r) ∙ refl) (subst Spelled (ap (λ z. 32 ∷ (n ++ 61 ∷ 34 ∷ z)) (pieces_on_is (pieces x) (34 ∷ r))) y)

fairs_spelled : (rs : List Row) (s : List (Option (List ℕ))) → all ascii_row rs ≡ true → Each SlotSpelled s → Spelled (attributes_text (fair_attributes rs s))
fairs_spelled [] s h k = spelled_nil
fairs_spelled (r ∷ rs) [] h k = spelled_nil
fairs_spelled (r ∷ rs) (None ∷ s) h k = fairs_spelled rs s (and_parts (ascii_row r) _ h).1 k.1
fairs_spelled (r ∷ rs) (Some x ∷ s) h k =
    let (u, v) = and_parts (ascii_row r) _ h in
    fair_attribute_spelled r.name x _ (ascii_spelled r.name (and_parts (all ascii_letter r.name) _ u).0) k.0 (fairs_spelled rs s v k.1)

fixeds_spelled : (ns : List Row) (l : List Attribute) → all ascii_row ns ≡ true → Spelled (attributes_text l) → Spelled (attributes_text (fixed_attributes ns ++ l))
fixeds_spelled [] l h k = k
fixeds_spelled (r ∷ ns) l h k =
    let (u, v) = and_parts (ascii_row r) _ h in
    let (x, y) = and_parts (all ascii_letter r.name) _ u in
    fair_attribute_spelled r.name (only_text r.kind) _ (ascii_spelled r.name x) (ascii_spelled (only_text r.kind) y) (fixeds_spelled ns l v k)

tag_spelled : (k : Node) (s : List (Option (List ℕ))) → Each SlotSpelled s → Spelled (tag_text (fair_tag k s))
tag_spelled k s h =
    let (a, b) = and_parts (all ascii_letter (tag k)) _ (ascii_law k) in
    let (c, d) = and_parts (all ascii_row (namespaces k)) _ b in
    let t : Spelled (60 ∷ tag k) = spelled_append (60 ∷ []) (tag k) (ascii_letter_spelled 60 refl) (ascii_spelled (tag k) a) in
    spelled_append ((60 ∷ tag k) ++ attributes_text (fair_tag k s).attributes) [] (spelled_append (60 ∷ tag k) _ t (fixeds_spelled (namespaces k) _ c (fairs_spelled (attributes k) s d h))) spelled_nil

tag_name_spelled : (k : Node) → Spelled (tag k)
tag_name_spelled k = ascii_spelled (tag k) (and_parts (all ascii_letter (tag k)) _ (ascii_law k)).0

-- the fair copy of spelled values is spelled
pub fair_spelled : (v : Values) → ValuesSpelled v → Spelled (text (fair v))
fair_spelled no_nodes h = spelled_nil
fair_spelled (node k s no_nodes rest) h = spelled_append (tag_text (fair_tag k s)) _ (tag_spelled k s h.0) (spelled_append (47 ∷ 62 ∷ []) _ (ascii_spelled (47 ∷ 62 ∷ []) refl) (fair_spelled rest h.2))
fair_spelled (node k s (node j t a b) rest) h =
    let inside = fair_spelled (node j t a b) h.1 in
    let x = spelled_append (tag_text (fair_tag k s)) _ (tag_spelled k s h.0) (spelled_append (62 ∷ []) _ (ascii_letter_spelled 62 refl) inside) in
    let y = spelled_append _ (60 ∷ 47 ∷ tag k) x (spelled_append (60 ∷ 47 ∷ []) (tag k) (ascii_spelled (60 ∷ 47 ∷ []) refl) (tag_name_spelled k)) in
    let z = spelled_append _ [] y spelled_nil in
    spelled_append _ _ z (spelled_append (62 ∷ []) _ (ascii_letter_spelled 62 refl) (fair_spelled rest h.2))

-- the head of a document is ASCII
after_head : (b : Bool) (r : List ℕ) → Spelled (cond b declaration [] ++ r) → Spelled r
after_head false r h = h
after_head true r h = after (codes "<?xml version=\"1.0\" encoding=\"UTF-8\"?") r 62 (omega arith) h

-- the values of a spelled document are spelled
pub document_spelled : (m : Document) → document_ok m ≡ true → Spelled (document_text m) → ValuesSpelled (values_of (elements_of m))
document_spelled m h k =
    let c : Content = m.content in
    let t : Spelled (text c) = after_head m.declared (text c) k in
    let u : Spelled (content_on c []) = subst Spelled (sym (append-nil (text c)) ∙ content_on_is c []) t in
    values_spelled c None (length (head m)) (content_spelled c [] (ok_marked c 6 (and_parts _ _ h).0) u).0
