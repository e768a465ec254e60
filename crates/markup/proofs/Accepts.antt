-- The reader goes through the text of every document that is ok.
use Rattle.std.proofs.Common.{◌≡◌, ℕ, zero, suc, ◌+◌, ◌<◌, Bool, true, false, cond, ◌&&◌, eqb, List, [], ◌∷◌, ◌++◌, length, Some, sym, refl, ap, ◌∙◌, subst, append_assoc, append-nil, arith}
use Rattle.std.proofs.lemmas.Bool.{eqb-true, ne_eqb, lt-ltb, both_ways, cond-true, cond-false, and_parts, false≢true}
use Rattle.std.proofs.lemmas.Bool.Decides.{nat_tests}
use Rattle.rules.specs.Bytes.{blank, name_byte, all}
use Rattle.rules.specs.Markup.{amp, lt, gt, quot, apos, Piece, plain, escaped, piece_ok, piece_text, Quote as Mark, single, double, quote_byte, Attribute, attribute_ok, some, name_ok, Tag, tag_ok, Content, end, empty, full, text, content_ok, elements, declaration, Document, document_text, document_ok}
use Rattle.theory.specs.On.{pieces_on, attribute_on, attributes_on, tag_on, content_on}
use Rattle.theory.proofs.Unique.{content_on_is}
use Rattle.markup.specs.declared.tag.Quote.{Quote}
use Rattle.markup.specs.declared.tag.Quote.TheVariants.{Single, Double}
use Rattle.markup.specs.declared.tag.Spelling.TheVariants.{Begun}
use Rattle.markup.specs.declared.tag.State.{State}
use Rattle.markup.specs.declared.tag.State.TheVariants as st
use Rattle.markup.specs.Tags.{to, ends, next}
use Rattle.markup.specs.Machine.{Stack, Place, fresh, angled, before, start, name, tag, inside, angle, ending, after, closed, land, step}
use Rattle.markup.proofs.Staying.{said}
use Rattle.markup.proofs.Leads.{Leads, leads, here, on, loops, ends_name}

-- a byte of a name is none of the marks
name_not : (b c : ℕ) → name_byte c ≡ false → name_byte b ≡ true → eqb b c ≡ false
name_not b c no-c is_b = ne_eqb b c (λ e. both_ways (name_byte c) no-c (subst (λ y. name_byte y ≡ true) e is_b))

name_not_blank : (b : ℕ) → blank b ≡ true → name_byte b ≡ false
name_not_blank b h = grind (arith, nat_tests)

-- a quote of the tree, as the code has it
abbrev coded : Mark → Quote
coded single = Single
coded double = Double

module _ (x : List ℕ) (s : Stack) where
  tags : (t t' : State) (b : ℕ) → next t b ≡ to t' → step (tag t x s) b ≡ Some (tag t' x s)
  tags t t' b e = ap (λ o. land o x s) e

  -- after a part of a start tag
  record Ready (p : Place) : Type 0 where
    gap : (b : ℕ) → blank b ≡ true → step p b ≡ Some (tag st.Gap x s)
    slash : step p 47 ≡ Some (tag st.Slash x s)
    open' : step p 62 ≡ Some (inside x s)

  ends_blank : (b : ℕ) → blank b ≡ true → land (ends b) x s ≡ Some (tag st.Gap x s)
  ends_blank b h = ap (λ o. land o x s) (cond-true _ _ _ h)

  gapped : (b : ℕ) → blank b ≡ true → step (tag st.Gap x s) b ≡ Some (tag st.Gap x s)
  gapped b h = tags st.Gap st.Gap b (cond-false _ _ _ (name_not_blank b h) ∙ cond-true _ _ _ h)

  ready_gap : Ready (tag st.Gap x s)
  ready_gap = record { gap = gapped; slash = refl; open' = refl }

  ready_name : Ready (name x s)
  ready_name = record { gap = λ b h. cond-false _ _ _ (name_not_blank b h) ∙ ends_blank b h; slash = refl; open' = refl }

  ready_part : Ready (tag st.Part x s)
  ready_part = record { gap = ends_blank; slash = refl; open' = refl }

  module _ {w : List ℕ} {r : Place} where
    gaps : (p : Place) → Ready p → (g : List ℕ) → all blank g ≡ true → ((q : Place) → Ready q → Leads q w r) → Leads p (g ++ w) r
    gaps p y [] h k = k p y
    gaps p y (b ∷ g) h k =
        let (hb, hg) = and_parts _ _ h in
        on (tag st.Gap x s) (y.gap b hb) (leads (loops (tag st.Gap x s) blank gapped g hg) (k (tag st.Gap x s) ready_gap))

    equals : (l : List ℕ) → all blank l ≡ true → Leads (tag st.Equals x s) w r → Leads (tag st.Attribute x s) (l ++ 61 ∷ w) r
    equals [] h k = on (tag st.Equals x s) refl k
    equals (b ∷ l) h k =
        let (hb, hl) = and_parts _ _ h in
        on (tag st.Named x s) (tags st.Attribute st.Named b (cond-false _ _ _ (name_not_blank b hb) ∙ cond-true _ _ _ hb))
        (leads (loops (tag st.Named x s) blank (λ c e. tags st.Named st.Named c (cond-true _ _ _ e)) l hl) (on (tag st.Equals x s) refl k))

  ampersand : (q : Quote) → step (tag (st.Value q) x s) 38 ≡ Some (tag (st.Escape q Begun) x s)
  ampersand Single = refl
  ampersand Double = refl

  piece : (q : Quote) (p : Piece) → piece_ok p ≡ true → Leads (tag (st.Value q) x s) (piece_text p) (tag (st.Value q) x s)
  piece q (plain b) h = on _ (tags (st.Value q) (st.Value q) b (said q b h)) here
  piece q (escaped amp) h = on _ (ampersand q) (record { runs = refl })
  piece q (escaped lt) h = on _ (ampersand q) (record { runs = refl })
  piece q (escaped gt) h = on _ (ampersand q) (record { runs = refl })
  piece q (escaped quot) h = on _ (ampersand q) (record { runs = refl })
  piece q (escaped apos) h = on _ (ampersand q) (record { runs = refl })

  value : {w : List ℕ} {r : Place} (q : Quote) (ps : List Piece) → all piece_ok ps ≡ true → Leads (tag (st.Value q) x s) w r → Leads (tag (st.Value q) x s) (pieces_on ps w) r
  value q [] h k = k
  value q (p ∷ ps) h k = let (hp, hs) = and_parts _ _ h in leads (piece q p hp) (value q ps hs k)

  quoted : (m : Mark) → next st.Equals (quote_byte m) ≡ to (st.Value (coded m))
  quoted single = refl
  quoted double = refl

  unquoted : (m : Mark) → next (st.Value (coded m)) (quote_byte m) ≡ to st.Part
  unquoted single = refl
  unquoted double = refl

  module _ {w : List ℕ} {r : Place} where
    parts : (p : Place) → Ready p → (g n l e : List ℕ) (m : Mark) (v : List Piece) → (some g && all blank g) ≡ true → name_ok n ≡ true → all blank l ≡ true → all blank e ≡ true → all piece_ok v ≡ true → Leads (tag st.Part x s) w r → Leads p (g ++ (n ++ (l ++ 61 ∷ (e ++ quote_byte m ∷ pieces_on v (quote_byte m ∷ w))))) r
    parts p y [] n l e m v hg hn hl he hv k = absurd (false≢true hg)
    parts p y (b ∷ g) [] l e m v hg hn hl he hv k = absurd (false≢true hn)
    parts p y (b ∷ g) (c ∷ n) l e m v hg hn hl he hv k =
        let (hb, hg') = and_parts _ _ hg in
        let (hc, hn') = and_parts _ _ hn in
        on (tag st.Gap x s) (y.gap b hb)
        (leads (loops (tag st.Gap x s) blank gapped g hg')
        (on (tag st.Attribute x s) (tags st.Gap st.Attribute c (cond-true _ _ _ hc))
        (leads (loops (tag st.Attribute x s) name_byte (λ c k. tags st.Attribute st.Attribute c (cond-true _ _ _ k)) n hn')
        (equals l hl
        (leads (loops (tag st.Equals x s) blank (λ c k. tags st.Equals st.Equals c (cond-true _ _ _ k)) e he)
        (on (tag (st.Value (coded m)) x s) (tags st.Equals (st.Value (coded m)) (quote_byte m) (quoted m))
        (value (coded m) v hv (on (tag st.Part x s) (tags (st.Value (coded m)) st.Part (quote_byte m) (unquoted m)) k))))))))

  attr : {w : List ℕ} {r : Place} (p : Place) → Ready p → (a : Attribute) → attribute_ok a ≡ true → Leads (tag st.Part x s) w r → Leads p (attribute_on a w) r
  attr p y a h k =
      let (hb, h₁) = and_parts _ _ h in
      let (hn, h₂) = and_parts _ _ h₁ in
      let (hl, h₃) = and_parts _ _ h₂ in
      let (hr, hv) = and_parts _ _ h₃ in
      parts p y a.before a.name a.left a.right a.quote a.value hb hn hl hr hv k

  attrs : {w : List ℕ} {r : Place} (p : Place) → Ready p → (l : List Attribute) → all attribute_ok l ≡ true → ((q : Place) → Ready q → Leads q w r) → Leads p (attributes_on l w) r
  attrs p y [] h k = k p y
  attrs p y (a ∷ l) h k = let (ha, hl) = and_parts _ _ h in attr p y a ha (attrs (tag st.Part x s) ready_part l hl k)

names : (x u : List ℕ) (s : Stack) → all name_byte u ≡ true → Leads (name x s) u (name (x ++ u) s)
names x [] s h = subst (λ y. Leads (name x s) [] (name y s)) (sym (append-nil x)) here
names x (b ∷ u) s h =
    let (hb, hu) = and_parts _ _ h in
    subst (λ y. Leads (name x s) (b ∷ u) (name y s)) (append_assoc x (b ∷ []) u) (on (name (x ++ b ∷ []) s) (cond-true _ _ _ hb) (names (x ++ b ∷ []) u s hu))

-- where an element may begin, with s open around it
record Door (p : Place) (s : Stack) : Type 0 where
  through : Place
  enters : step p 60 ≡ Some through
  begins' : (b : ℕ) → name_byte b ≡ true → step through b ≡ Some (name (b ∷ []) s)

starts : (p : Place) (s : Stack) (n : List ℕ) → Door p s → name_ok n ≡ true → Leads p (60 ∷ n) (name n s)
starts p s [] d h = absurd (false≢true h)
starts p s (b ∷ n) d h = let (hb, hn) = and_parts _ _ h in on d.through d.enters (on (name (b ∷ []) s) (d.begins' b hb) (names (b ∷ []) n s hn))

module _ {w : List ℕ} {r : Place} (s : Stack) (p : Place) (t : Tag) (d : Door p s) (h : tag_ok t ≡ true) where
  -- a start tag up to its end
  starting : ((q : Place) → Ready t.name s q → Leads q w r) → Leads p (tag_on t w) r
  starting k =
      let (hn, h₁) = and_parts _ _ h in
      let (ha, hg) = and_parts _ _ h₁ in
      leads (starts p s t.name d hn) (attrs t.name s (name t.name s) (ready_name t.name s) t.attributes ha (λ q y. gaps t.name s q y t.gap hg k))

module _ {w : List ℕ} {r : Place} (s : Stack) (p : Place) (t : Tag) (d : Door p s) (h : tag_ok t ≡ true) where
  lone : Leads (closed s) w r → Leads p (tag_on t (47 ∷ 62 ∷ w)) r
  lone k = starting s p t d h (λ q y. on (tag st.Slash t.name s) y.slash (on (closed s) refl k))

  pair : Leads (inside t.name s) w r → Leads p (tag_on t (62 ∷ w)) r
  pair k = starting s p t d h (λ q y. on (inside t.name s) y.open' k)

closing : {w : List ℕ} {r : Place} (n : List ℕ) (s : Stack) (c : List ℕ) → all blank c ≡ true → Leads (closed s) w r → Leads (inside n s) (60 ∷ 47 ∷ (n ++ (c ++ 62 ∷ w))) r
closing n s c h k =
    on (angle n s) refl (on (ending n s) refl (leads (ends_name n s) (leads (loops (ending [] s) blank (λ y e. cond-true _ _ _ e) c h) (on (closed s) refl k))))

door_inside : (n : List ℕ) (s : Stack) → length s < 5 → Door (inside n s) (n ∷ s)
door_inside n s h = record {
  through = angle n s;
  enters = refl;
  begins' = λ b k. cond-false _ _ _ (name_not b 47 refl k) ∙ cond-true _ _ _ (lt-ltb (length s) 5 h) ∙ cond-true _ _ _ k;
}

-- what stands inside an element n
forest : {w : List ℕ} {r : Place} (c : Content) (j : ℕ) (n : List ℕ) (s : Stack) → content_ok j c ≡ true → j + length s ≡ 5 → Leads (inside n s) w r → Leads (inside n s) (content_on c w) r
forest (end b) j n s h e k = leads (loops (inside n s) blank (λ y z. cond-true _ _ _ z) b h) k
forest (empty b t a) zero n s h e k = absurd (false≢true h)
forest (empty b t a) (suc j) n s h e k =
    let (hb, h₁) = and_parts _ _ h in
    let (ht, ha) = and_parts _ _ h₁ in
    leads (loops (inside n s) blank (λ y z. cond-true _ _ _ z) b hb) (lone (n ∷ s) (inside n s) t (door_inside n s (omega arith)) ht (forest a (suc j) n s ha e k))
forest (full b t i c a) zero n s h e k = absurd (false≢true h)
forest (full b t i c a) (suc j) n s h e k =
    let (hb, h₁) = and_parts _ _ h in
    let (ht, h₂) = and_parts _ _ h₁ in
    let (hi, h₃) = and_parts _ _ h₂ in
    let (hc, ha) = and_parts _ _ h₃ in
    leads (loops (inside n s) blank (λ y z. cond-true _ _ _ z) b hb)
    (pair (n ∷ s) (inside n s) t (door_inside n s (omega arith)) ht
    (forest i j t.name (n ∷ s) hi (omega arith) (closing t.name (n ∷ s) c hc (forest a (suc j) n s ha e k))))

door_before : Door before []
door_before = record { through = start []; enters = refl; begins' = λ b k. cond-true _ _ _ k }

door_fresh : Door fresh []
door_fresh = record { through = angled; enters = refl; begins' = λ b k. cond-false _ _ _ (name_not b 63 refl k) ∙ cond-true _ _ _ k }

-- a place where the blanks before the root may stand
abbrev Yard : Place → Type 0
Yard o = (b w : List ℕ) → all blank b ≡ true → ((p : Place) → Door p [] → Leads p w after) → Leads o (b ++ w) after

yard_before : Yard before
yard_before b w h k = leads (loops before blank (λ y z. cond-true _ _ _ z) b h) (k before door_before)

yard_fresh : Yard fresh
yard_fresh [] w h k = k fresh door_fresh
yard_fresh (c ∷ b) w h k = let (hc, hb) = and_parts _ _ h in on before (cond-true _ _ _ hc) (yard_before b w hb k)

trails : (c : Content) (j : ℕ) → content_ok j c ≡ true → elements c ≡ 0 → Leads after (content_on c []) after
trails (end b) j h e = leads (loops after blank (λ y z. cond-true _ _ _ z) b h) here
trails (empty b t a) j h e = absurd (omega arith)
trails (full b t i c a) j h e = absurd (omega arith)

root : (c : Content) (o : Place) → Yard o → content_ok 6 c ≡ true → elements c ≡ 1 → Leads o (content_on c []) after
root (end b) o y h e = absurd (omega arith)
root (empty b t a) o y h e =
    let (hb, h₁) = and_parts _ _ h in
    let (ht, ha) = and_parts _ _ h₁ in
    y b _ hb (λ p d. lone [] p t d ht (trails a 6 ha (omega arith)))
root (full b t i c a) o y h e =
    let (hb, h₁) = and_parts _ _ h in
    let (ht, h₂) = and_parts _ _ h₁ in
    let (hi, h₃) = and_parts _ _ h₂ in
    let (hc, ha) = and_parts _ _ h₃ in
    y b _ hb (λ p d. pair [] p t d ht (forest i 5 t.name [] hi refl (closing t.name [] c hc (trails a 6 ha (omega arith)))))

pub accepts : (m : Document) → document_ok m ≡ true → Leads fresh (document_text m) after
accepts m h = let (hc, he) = and_parts _ _ h in go m.declared m.content hc (eqb-true _ 1 he)
  where
    plainly : (c : Content) → content_on c [] ≡ text c
    plainly c = sym (content_on_is c []) ∙ append-nil (text c)

    go : (d : Bool) (c : Content) → content_ok 6 c ≡ true → elements c ≡ 1 → Leads fresh (cond d declaration [] ++ text c) after
    go true c hc he = leads {q = before} {u = declaration} (record { runs = refl }) (subst (λ l. Leads before l after) (plainly c) (root c before yard_before hc he))
    go false c hc he = subst (λ l. Leads fresh l after) (plainly c) (root c fresh yard_fresh hc he)
