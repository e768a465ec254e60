-- What leads the reader to its end is the text of a document that is ok.
use Rattle.std.proofs.Common.{◌≡◌, ℕ, zero, suc, ◌+◌, Bool, true, false, cond, eqb, ltb, ◌⊎◌, List, [], ◌∷◌, ◌++◌, length, Some, None, codes, Option, sym, refl, ap, ◌∙◌, subst, inl, inr, ⊎_elim, append_assoc, append-nil, arith}
use Rattle.std.proofs.lemmas.Bool.{eqb-true, eq-eqb, ltb-true, and_from, and_parts, false≢true}
use Rattle.rules.specs.Bytes.{blank, name_byte, all}
use Rattle.rules.specs.Markup.{amp, lt, gt, quot, apos, Piece, plain, escaped, plain_byte, piece_ok, piece_text, Attribute, attribute_ok, name_ok, Tag, tag_ok, Content, end, empty, full, text, content_ok, elements, declaration, WellMarked}
use Rattle.theory.specs.On.{pieces_on, attributes_on, tag_on, content_on}
use Rattle.theory.proofs.Unique.{content_on_is}
use Rattle.markup.specs.declared.tag.Quote.{Quote}
use Rattle.markup.specs.declared.tag.Quote.TheVariants.{Single, Double}
use Rattle.markup.specs.declared.tag.Spelling.{Spelling}
use Rattle.markup.specs.declared.tag.Spelling.TheVariants as sp
use Rattle.markup.specs.declared.tag.State.{State}
use Rattle.markup.specs.declared.tag.State.TheVariants as st
use Rattle.markup.specs.Tags.{Move, to, next, ends, named, escape, spelt, mark, quoted as quoted_as}
use Rattle.markup.specs.Machine.{Stack, Place, fresh, angled, declaring, before, start, name, tag, inside, angle, ending, after, closed, declared, land, begins, step, run, bind}

-- bytes that pass a test, and then what K says of the rest
record Run (p : ℕ → Bool) (K : List ℕ → Type 0) (w : List ℕ) : Type 0 where
  part : List ℕ
  rest : List ℕ
  is : part ++ rest ≡ w
  each : all p part ≡ true
  then' : K rest

none : {p : ℕ → Bool} {K : List ℕ → Type 0} {w : List ℕ} → K w → Run p K w
none {w = w} k = record { part = []; rest = w; is = refl; each = refl; then' = k }

one : {p : ℕ → Bool} {K : List ℕ → Type 0} {w : List ℕ} {b : ℕ} → p b ≡ true → Run p K w → Run p K (b ∷ w)
one {b = b} h r = record { part = b ∷ r.part; rest = r.rest; is = ap (λ t. b ∷ t) r.is; each = and_from _ _ h r.each; then' = r.then' }

-- the text u, and then what K says of the rest
record Then (u : List ℕ) (K : List ℕ → Type 0) (w : List ℕ) : Type 0 where
  rest : List ℕ
  is : u ++ rest ≡ w
  then' : K rest

also : {u : List ℕ} {K : List ℕ → Type 0} {w : List ℕ} (b c : ℕ) → eqb b c ≡ true → Then u K w → Then (c ∷ u) K (b ∷ w)
also {w = w} b c e k = record { rest = k.rest; is = ap (λ t. c ∷ t) k.is ∙ ap (λ x. x ∷ w) (sym (eqb-true b c e)); then' = k.then' }

at_once : {K : List ℕ → Type 0} {w : List ℕ} → K w → Then [] K w
at_once {w = w} k = record { rest = w; is = refl; then' = k }

-- the rest of an element n, with elements at most i deep in it, and then K
record Within (n : List ℕ) (i : ℕ) (K : List ℕ → Type 0) (w : List ℕ) : Type 0 where
  body : Content
  close : List ℕ
  rest : List ℕ
  is : content_on body (60 ∷ 47 ∷ (n ++ (close ++ 62 ∷ rest))) ≡ w
  ok : content_ok i body ≡ true
  blanks : all blank close ≡ true
  then' : K rest

-- what completes the elements that are open, where elements may stand i deep
abbrev Tail : ℕ → Stack → List ℕ → Type 0
Tail i [] w = all blank w ≡ true
Tail i (n ∷ s) w = Within n i (Tail (suc i) s) w

-- what completes an end tag of which m of the name is left
record Closing (m : List ℕ) (K : List ℕ → Type 0) (w : List ℕ) : Type 0 where
  close : List ℕ
  rest : List ℕ
  is : m ++ (close ++ 62 ∷ rest) ≡ w
  blanks : all blank close ≡ true
  then' : K rest

-- in a start tag: its name, the elements around it, and how deep elements may stand inside it
module _ (x : List ℕ) (s : Stack) (i : ℕ) where
  abbrev TagEnd : List ℕ → Type 0
  TagEnd w = Then (47 ∷ 62 ∷ []) (Tail (suc i) s) w ⊎ Then (62 ∷ []) (Tail i (x ∷ s)) w

  record TagRest (w : List ℕ) : Type 0 where
    attrs : List Attribute
    gap : List ℕ
    rest : List ℕ
    is : attributes_on attrs (gap ++ rest) ≡ w
    ok : all attribute_ok attrs ≡ true
    blanks : all blank gap ≡ true
    then' : TagEnd rest

  record InValue (q : Quote) (w : List ℕ) : Type 0 where
    value : List Piece
    rest : List ℕ
    is : pieces_on value (mark q ∷ rest) ≡ w
    ok : all piece_ok value ≡ true
    then' : TagRest rest

  record Quoted (w : List ℕ) : Type 0 where
    quote : Quote
    rest : List ℕ
    is : mark quote ∷ rest ≡ w
    then' : InValue quote rest

  abbrev AfterEquals : List ℕ → Type 0
  AfterEquals = Run blank Quoted

  abbrev AfterName : List ℕ → Type 0
  AfterName = Run blank (Then (61 ∷ []) AfterEquals)

  abbrev InAttribute : List ℕ → Type 0
  InAttribute = Run name_byte AfterName

  record Attributed (w : List ℕ) : Type 0 where
    first : ℕ
    rest : List ℕ
    is : first ∷ rest ≡ w
    names : name_byte first ≡ true
    then' : InAttribute rest

  abbrev InGap : List ℕ → Type 0
  InGap = Run blank (λ w. TagEnd w ⊎ Attributed w)

  abbrev InEscape : Quote → Spelling → List ℕ → Type 0
  InEscape q sp.Begun w = Then (codes "amp;") (InValue q) w ⊎ (Then (codes "lt;") (InValue q) w ⊎ (Then (codes "gt;") (InValue q) w ⊎ (Then (codes "quot;") (InValue q) w ⊎ Then (codes "apos;") (InValue q) w)))
  InEscape q sp.A w = Then (codes "mp;") (InValue q) w ⊎ Then (codes "pos;") (InValue q) w
  InEscape q sp.Am w = Then (codes "p;") (InValue q) w
  InEscape q sp.Ap w = Then (codes "os;") (InValue q) w
  InEscape q sp.Apo w = Then (codes "s;") (InValue q) w
  InEscape q sp.Angle w = Then (codes "t;") (InValue q) w
  InEscape q sp.Q w = Then (codes "uot;") (InValue q) w
  InEscape q sp.Qu w = Then (codes "ot;") (InValue q) w
  InEscape q sp.Quo w = Then (codes "t;") (InValue q) w
  InEscape q sp.Whole w = Then (codes ";") (InValue q) w

-- the rest of a name of which x is read, and then the rest of its start tag
record Naming (test : List ℕ → Bool) (x : List ℕ) (s : Stack) (i : ℕ) (w : List ℕ) : Type 0 where
  part : List ℕ
  rest : List ℕ
  is : part ++ rest ≡ w
  passes : test part ≡ true
  then' : TagRest (x ++ part) s i rest

-- the rest of a start tag after its name
abbrev InTag : State → List ℕ → Stack → ℕ → List ℕ → Type 0
InTag st.Part x s i = TagRest x s i
InTag st.Gap x s i = InGap x s i
InTag st.Attribute x s i = InAttribute x s i
InTag st.Named x s i = AfterName x s i
InTag st.Equals x s i = AfterEquals x s i
InTag (st.Value q) x s i = InValue x s i q
InTag (st.Escape q e) x s i = InEscape x s i q e
InTag st.Slash x s i = Then (62 ∷ []) (Tail (suc i) s)

-- one element with blanks around it
record Root (w : List ℕ) : Type 0 where
  content : Content
  is : content_on content [] ≡ w
  ok : content_ok 6 content ≡ true
  one' : elements content ≡ 1

-- what completes the text at a place
abbrev Rest : Place → ℕ → List ℕ → Type 0
Rest fresh i w = WellMarked w
Rest angled i w = WellMarked (60 ∷ w)
Rest (declaring c m) i w = Then (c ∷ m) Root w
Rest before i w = Root w
Rest (start s) i w = Naming name_ok [] s i w
Rest (name x s) i w = Naming (all name_byte) x s i w
Rest (tag t x s) i w = InTag t x s i w
Rest (inside n s) i w = Tail i (n ∷ s) w
Rest (angle n s) i w = Tail i (n ∷ s) (60 ∷ w)
Rest (ending m s) i w = Closing m (Tail (suc i) s) w
Rest after i w = all blank w ≡ true

-- how many elements are open around a place
abbrev height : Place → ℕ
height fresh = 0
height angled = 0
height (declaring c m) = 0
height before = 0
height (start s) = length s
height (name x s) = length s
height (tag t x s) = length s
height (inside n s) = length s
height (angle n s) = length s
height (ending m s) = length s
height after = 0

-- what completes the text where the reader has gone on
abbrev After : Option Place → List ℕ → Type 0
After None w = ⊥
After (Some p) w = (i : ℕ) → i + height p ≡ 5 → Rest p i w

-- one of two cases of a test
pick : {A G : Type 0} (F : A → Type 0) (t : Bool) (a b : A) → F (cond t a b) → (t ≡ true → F a → G) → (F b → G) → G
pick F true a b k f g = f refl k
pick F false a b k f g = g k

closed_tail : (s : Stack) (i : ℕ) (w : List ℕ) → i + length s ≡ 5 → After (Some (closed s)) w → Tail (suc i) s w
closed_tail [] i w fit k = k 5 refl
closed_tail (n ∷ s) i w fit k = k (suc i) (omega arith)

heads : (b c : ℕ) (w : List ℕ) → eqb b c ≡ true → c ∷ w ≡ b ∷ w
heads b c w e = ap (λ y. y ∷ w) (sym (eqb-true b c e))

module _ (x : List ℕ) (s : Stack) (i : ℕ) (b : ℕ) (w : List ℕ) (fit : i + length s ≡ 5) where
  abbrev On : Move → Type 0
  On m = After (land m x s) w

  ended : On (ends b) → ((blank b ≡ true) × InGap x s i w) ⊎ TagEnd x s i (b ∷ w)
  ended k =
      pick On (blank b) _ _ k (λ h r. inl (h, r i fit))
      (λ k. pick On (eqb b 47) _ _ k (λ h r. inr (inl (also b 47 h (r i fit)))) (λ k. pick On (eqb b 62) _ _ k (λ h r. inr (inr (also b 62 h (at_once (r i fit))))) absurd))

  gapped : blank b ≡ true → InGap x s i w → TagRest x s i (b ∷ w)
  gapped h g =
      ⊎_elim
      (λ e. record { attrs = []; gap = b ∷ g.part; rest = g.rest; is = ap (λ t. b ∷ t) g.is; ok = refl; blanks = and_from _ _ h g.each; then' = e })
      (λ a.
      let n = a.then' in
      let l = n.then' in
      let e = l.then' in
      let r = e.then' in
      let q = r.then' in
      let v = q.then' in
      let t = v.then' in
      record {
        attrs = record { before = b ∷ g.part; name = a.first ∷ n.part; left = l.part; right = r.part; quote = quoted_as q.quote; value = v.value } ∷ t.attrs;
        gap = t.gap;
        rest = t.rest;
        is = ap (λ y. b ∷ y) (ap (λ y. g.part ++ y) (ap (λ y. a.first ∷ y) (ap (λ y. n.part ++ y) (ap (λ y. l.part ++ y) (ap (λ y. 61 ∷ y) (ap (λ y. r.part ++ y) (ap (λ y. mark q.quote ∷ y) (ap (λ y. pieces_on v.value (mark q.quote ∷ y)) t.is ∙ v.is) ∙ q.is) ∙ r.is) ∙ e.is) ∙ l.is) ∙ n.is) ∙ a.is) ∙ g.is);
        ok = and_from _ _ (and_from _ _ (and_from _ _ h g.each) (and_from _ _ (and_from _ _ a.names n.each) (and_from _ _ l.each (and_from _ _ r.each v.ok)))) t.ok;
        blanks = t.blanks;
        then' = t.then';
      })
      g.then'

  readied : On (ends b) → TagRest x s i (b ∷ w)
  readied k = ⊎_elim (λ g. gapped g.0 g.1) (λ e. record { attrs = []; gap = []; rest = b ∷ w; is = refl; ok = refl; blanks = refl; then' = e }) (ended k)

  attributed : On (named b) → AfterName x s i (b ∷ w)
  attributed k = pick On (blank b) _ _ k (λ h r. one h (r i fit)) (λ k. pick On (eqb b 61) _ _ k (λ h r. none (also b 61 h (at_once (r i fit)))) absurd)

  said : (q : Quote) (p : Piece) → piece_ok p ≡ true → Then (piece_text p) (InValue x s i q) (b ∷ w) → InValue x s i q (b ∷ w)
  said q p h k =
      let v = k.then' in
      record { value = p ∷ v.value; rest = v.rest; is = ap (λ t. piece_text p ++ t) v.is ∙ k.is; ok = and_from _ _ h v.ok; then' = v.then' }

  spells : (q : Quote) (e : Spelling) → On (escape q e b) → InEscape x s i q e (b ∷ w)
  spells q sp.Begun k =
      pick (λ o. On (spelt q o)) (eqb b 97) _ _ k (λ h r. ⊎_elim (λ r. inl (also b 97 h r)) (λ r. inr (inr (inr (inr (also b 97 h r))))) (r i fit))
      (λ k. pick (λ o. On (spelt q o)) (eqb b 108) _ _ k (λ h r. inr (inl (also b 108 h (r i fit))))
      (λ k. pick (λ o. On (spelt q o)) (eqb b 103) _ _ k (λ h r. inr (inr (inl (also b 103 h (r i fit)))))
      (λ k. pick (λ o. On (spelt q o)) (eqb b 113) _ _ k (λ h r. inr (inr (inr (inl (also b 113 h (r i fit)))))) absurd)))
  spells q sp.A k =
      pick (λ o. On (spelt q o)) (eqb b 109) _ _ k (λ h r. inl (also b 109 h (r i fit)))
      (λ k. pick (λ o. On (spelt q o)) (eqb b 112) _ _ k (λ h r. inr (also b 112 h (r i fit))) absurd)
  spells q sp.Am k = pick (λ o. On (spelt q o)) (eqb b 112) _ _ k (λ h r. also b 112 h (r i fit)) absurd
  spells q sp.Ap k = pick (λ o. On (spelt q o)) (eqb b 111) _ _ k (λ h r. also b 111 h (r i fit)) absurd
  spells q sp.Apo k = pick (λ o. On (spelt q o)) (eqb b 115) _ _ k (λ h r. also b 115 h (r i fit)) absurd
  spells q sp.Angle k = pick (λ o. On (spelt q o)) (eqb b 116) _ _ k (λ h r. also b 116 h (r i fit)) absurd
  spells q sp.Q k = pick (λ o. On (spelt q o)) (eqb b 117) _ _ k (λ h r. also b 117 h (r i fit)) absurd
  spells q sp.Qu k = pick (λ o. On (spelt q o)) (eqb b 111) _ _ k (λ h r. also b 111 h (r i fit)) absurd
  spells q sp.Quo k = pick (λ o. On (spelt q o)) (eqb b 116) _ _ k (λ h r. also b 116 h (r i fit)) absurd
  spells q sp.Whole k = pick On (eqb b 59) _ _ k (λ h r. also b 59 h (at_once (r i fit))) absurd

  quoted : (q : Quote) → eqb b (mark q) ≡ true → On (to (st.Value q)) → Quoted x s i (b ∷ w)
  quoted q h r = record { quote = q; rest = w; is = heads b (mark q) w h; then' = r i fit }

  back_tag : (t : State) → On (next t b) → InTag t x s i (b ∷ w)
  back_tag st.Part k = readied k
  back_tag st.Gap k =
      pick On (name_byte b) _ _ k
      (λ h r. none (inr (record { first = b; rest = w; is = refl; names = h; then' = r i fit })))
      (λ k. ⊎_elim (λ g. one g.0 g.1) (λ e. none (inl e)) (ended k))
  back_tag st.Attribute k = pick On (name_byte b) _ _ k (λ h r. one h (r i fit)) (λ k. none (attributed k))
  back_tag st.Named k = attributed k
  back_tag st.Equals k =
      pick On (blank b) _ _ k (λ h r. one h (r i fit))
      (λ k. pick On (eqb b 34) _ _ k (λ h r. none (quoted Double h r)) (λ k. pick On (eqb b 39) _ _ k (λ h r. none (quoted Single h r)) absurd))
  back_tag (st.Value q) k =
      pick On (eqb b (mark q)) _ _ k (λ h r. record { value = []; rest = w; is = heads b (mark q) w h; ok = refl; then' = r i fit })
      (λ k. pick On (eqb b 38) _ _ k
      (λ h r. ⊎_elim (λ r. said q (escaped amp) refl (also b 38 h r)) (⊎_elim (λ r. said q (escaped lt) refl (also b 38 h r)) (⊎_elim (λ r. said q (escaped gt) refl (also b 38 h r)) (⊎_elim (λ r. said q (escaped quot) refl (also b 38 h r)) (λ r. said q (escaped apos) refl (also b 38 h r))))) (r i fit))
      (λ k. pick On (plain_byte b) _ _ k (λ h r. said q (plain b) h (record { rest = w; is = refl; then' = r i fit })) absurd))
  back_tag (st.Escape q e) k = spells q e k
  back_tag st.Slash k = pick On (eqb b 62) _ _ k (λ h r. also b 62 h (at_once (closed_tail s i w fit r))) absurd

-- the rest of a start tag's name
back_name : (x : List ℕ) (s : Stack) (i b : ℕ) (w : List ℕ) → i + length s ≡ 5 → After (step (name x s) b) w → Naming (all name_byte) x s i (b ∷ w)
back_name x s i b w fit k =
    pick (λ o. After o w) (name_byte b) _ _ k
    (λ h r.
    let n = r i fit in
    record { part = b ∷ n.part; rest = n.rest; is = ap (λ t. b ∷ t) n.is; passes = and_from _ _ h n.passes; then' = subst (λ y. TagRest y s i n.rest) (append_assoc x (b ∷ []) n.part) n.then' })
    (λ k. record { part = []; rest = b ∷ w; is = refl; passes = refl; then' = subst (λ y. TagRest y s i (b ∷ w)) (sym (append-nil x)) (readied x s i b w fit k) })

-- a start tag from its name on
back_start : (s : Stack) (i b : ℕ) (w : List ℕ) → i + length s ≡ 5 → After (begins s b) w → Naming name_ok [] s i (b ∷ w)
back_start s i b w fit k =
    pick (λ o. After o w) (name_byte b) _ _ k
    (λ h r. let n = r i fit in record { part = b ∷ n.part; rest = n.rest; is = ap (λ t. b ∷ t) n.is; passes = and_from _ _ h n.passes; then' = n.then' }) absurd

-- an element, put before what follows it, and then what completes the elements that are open around it
record Begins (s : Stack) (i : ℕ) (w : List ℕ) : Type 0 where
  first : Content → Content
  rest : List ℕ
  is : (c : Content) (r : List ℕ) → content_on c r ≡ rest → content_on (first c) r ≡ w
  ok : (c : Content) → content_ok (suc i) c ≡ true → content_ok (suc i) (first c) ≡ true
  counts : (c : Content) → elements (first c) ≡ suc (elements c)
  then' : Tail (suc i) s rest

whole : (s : Stack) (i : ℕ) (w : List ℕ) → Naming name_ok [] s i w → Begins s i (60 ∷ w)
whole s i w u =
    let t = u.then' in
    let g : Tag = record { name = u.part; attributes = t.attrs; gap = t.gap } in
    let fine : tag_ok g ≡ true = and_from _ _ u.passes (and_from _ _ t.ok t.blanks) in
    let starts : (y : List ℕ) → y ≡ t.rest → tag_on g y ≡ 60 ∷ w = λ y e. ap (λ y. 60 ∷ y) (ap (λ y. u.part ++ y) (ap (λ y. attributes_on t.attrs (t.gap ++ y)) e ∙ t.is) ∙ u.is) in
    ⊎_elim
    (λ k. record {
      first = empty [] g;
      rest = k.rest;
      is = λ c r e. starts _ (ap (λ y. 47 ∷ 62 ∷ y) e ∙ k.is);
      ok = λ c h. and_from _ _ fine h;
      counts = λ c. refl;
      then' = k.then';
    })
    (λ k.
    let n = k.then' in
    record {
      first = full [] g n.body n.close;
      rest = n.rest;
      is = λ c r e. starts _ (ap (λ y. 62 ∷ y) (ap (λ y. content_on n.body (60 ∷ 47 ∷ (u.part ++ (n.close ++ 62 ∷ y)))) e ∙ n.is) ∙ k.is);
      ok = λ c h. and_from _ _ fine (and_from _ _ n.ok (and_from _ _ n.blanks h));
      counts = λ c. refl;
      then' = n.then';
    })
    t.then'

rooted : (w : List ℕ) → Begins [] 5 w → Root w
rooted w k = record { content = k.first (end k.rest); is = k.is (end k.rest) [] (append-nil k.rest); ok = k.ok (end k.rest) k.then'; one' = k.counts (end k.rest) }

-- one blank more at the start
abbrev pad : ℕ → Content → Content
pad b (end g) = end (b ∷ g)
pad b (empty g t a) = empty (b ∷ g) t a
pad b (full g t i c a) = full (b ∷ g) t i c a

pad_on : (b : ℕ) (c : Content) (r : List ℕ) → content_on (pad b c) r ≡ b ∷ content_on c r
pad_on b (end g) r = refl
pad_on b (empty g t a) r = refl
pad_on b (full g t i c a) r = refl

pad_ok : (b : ℕ) (c : Content) (n : ℕ) → blank b ≡ true → content_ok n c ≡ true → content_ok n (pad b c) ≡ true
pad_ok b (end g) n e h = and_from _ _ e h
pad_ok b (empty g t a) zero e h = absurd (false≢true h)
pad_ok b (empty g t a) (suc n) e h = let (u, v) = and_parts _ _ h in and_from _ _ (and_from _ _ e u) v
pad_ok b (full g t i c a) zero e h = absurd (false≢true h)
pad_ok b (full g t i c a) (suc n) e h = let (u, v) = and_parts _ _ h in and_from _ _ (and_from _ _ e u) v

pad_elements : (b : ℕ) (c : Content) → elements (pad b c) ≡ elements c
pad_elements b (end g) = refl
pad_elements b (empty g t a) = refl
pad_elements b (full g t i c a) = refl

padded : (n : List ℕ) (i : ℕ) (K : List ℕ → Type 0) (b : ℕ) (w : List ℕ) → blank b ≡ true → Within n i K w → Within n i K (b ∷ w)
padded n i K b w e k = record { body = pad b k.body; close = k.close; rest = k.rest; is = pad_on b k.body _ ∙ ap (λ y. b ∷ y) k.is; ok = pad_ok b k.body i e k.ok; blanks = k.blanks; then' = k.then' }

padded_root : (b : ℕ) (w : List ℕ) → blank b ≡ true → Root w → Root (b ∷ w)
padded_root b w e k = record { content = pad b k.content; is = pad_on b k.content [] ∙ ap (λ y. b ∷ y) k.is; ok = pad_ok b k.content 6 e k.ok; one' = pad_elements b k.content ∙ k.one' }

child : (n : List ℕ) (s : Stack) (i : ℕ) (w : List ℕ) → Begins (n ∷ s) i w → Tail (suc i) (n ∷ s) w
child n s i w k =
    let r = k.then' in
    record { body = k.first r.body; close = r.close; rest = r.rest; is = k.is r.body _ r.is; ok = k.ok r.body r.ok; blanks = r.blanks; then' = r.then' }

marked : (d : Bool) (w : List ℕ) → Root w → WellMarked (cond d declaration [] ++ w)
marked d w k =
    (record { declared = d; content = k.content }, (and_from _ _ k.ok (eq-eqb _ _ k.one'), ap (λ y. cond d declaration [] ++ y) (sym (append-nil (text k.content)) ∙ content_on_is k.content [] ∙ k.is)))

declares : (m w : List ℕ) → After (Some (declared m)) w → Then m Root w
declares [] w k = at_once (k 5 refl)
declares (c ∷ m) w k = k 5 refl

opened : (b : ℕ) (w : List ℕ) → After (step before b) w → Root (b ∷ w)
opened b w k =
    pick (λ o. After o w) (blank b) _ _ k (λ h r. padded_root b w h (r 5 refl))
    (λ k. pick (λ o. After o w) (eqb b 60) _ _ k (λ h r. subst Root (heads b 60 w h) (rooted (60 ∷ w) (whole [] 5 w (r 5 refl)))) absurd)

back : (p : Place) (i b : ℕ) (w : List ℕ) → i + height p ≡ 5 → After (step p b) w → Rest p i (b ∷ w)
back fresh i b w fit k =
    pick (λ o. After o w) (blank b) _ _ k (λ h r. marked false (b ∷ w) (padded_root b w h (r 5 refl)))
    (λ k. pick (λ o. After o w) (eqb b 60) _ _ k (λ h r. subst WellMarked (heads b 60 w h) (r 5 refl)) absurd)
back angled i b w fit k =
    pick (λ o. After o w) (eqb b 63) _ _ k
    (λ h r. let t = also b 63 h (r 5 refl) in subst WellMarked (ap (λ y. 60 ∷ y) t.is) (marked true t.rest t.then'))
    (λ k. marked false (60 ∷ b ∷ w) (rooted (60 ∷ b ∷ w) (whole [] 5 (b ∷ w) (back_start [] 5 b w refl k))))
back (declaring c m) i b w fit k = pick (λ o. After o w) (eqb b c) _ _ k (λ h r. also b c h (declares m w r)) absurd
back before i b w fit k = opened b w k
back (start s) i b w fit k = back_start s i b w fit k
back (name x s) i b w fit k = back_name x s i b w fit k
back (tag t x s) i b w fit k = back_tag x s i b w fit t k
back (inside n s) i b w fit k =
    pick (λ o. After o w) (blank b) _ _ k (λ h r. padded n i (Tail (suc i) s) b w h (r i fit))
    (λ k. pick (λ o. After o w) (eqb b 60) _ _ k (λ h r. subst (Tail i (n ∷ s)) (heads b 60 w h) (r i fit)) absurd)
back (angle n s) zero b w fit k =
    pick (λ o. After o w) (eqb b 47) _ _ k
    (λ h r. let t = r 0 fit in record { body = end []; close = t.close; rest = t.rest; is = ap (λ y. 60 ∷ y) (ap (λ y. 47 ∷ y) t.is ∙ heads b 47 w h); ok = refl; blanks = t.blanks; then' = t.then' })
    (λ k. pick (λ o. After o w) (ltb (length s) 5) _ _ k (λ h k. absurd (omega (arith, ltb-true (length s) 5 h))) absurd)
back (angle n s) (suc i) b w fit k =
    pick (λ o. After o w) (eqb b 47) _ _ k
    (λ h r. let t = r (suc i) fit in record { body = end []; close = t.close; rest = t.rest; is = ap (λ y. 60 ∷ y) (ap (λ y. 47 ∷ y) t.is ∙ heads b 47 w h); ok = refl; blanks = t.blanks; then' = t.then' })
    (λ k. pick (λ o. After o w) (ltb (length s) 5) _ _ k
    (λ h k. let fits : i + length (n ∷ s) ≡ 5 = omega arith in child n s i (60 ∷ b ∷ w) (whole (n ∷ s) i (b ∷ w) (back_start (n ∷ s) i b w fits k))) absurd)
back (ending [] s) i b w fit k =
    pick (λ o. After o w) (blank b) _ _ k
    (λ h r. let t = r i fit in record { close = b ∷ t.close; rest = t.rest; is = ap (λ y. b ∷ y) t.is; blanks = and_from _ _ h t.blanks; then' = t.then' })
    (λ k. pick (λ o. After o w) (eqb b 62) _ _ k (λ h r. record { close = []; rest = w; is = heads b 62 w h; blanks = refl; then' = closed_tail s i w fit r }) absurd)
back (ending (c ∷ m) s) i b w fit k =
    pick (λ o. After o w) (eqb b c) _ _ k
    (λ h r. let t = r i fit in record { close = t.close; rest = t.rest; is = ap (λ y. c ∷ y) t.is ∙ heads b c w h; blanks = t.blanks; then' = t.then' }) absurd
back after i b w fit k = pick (λ o. After o w) (blank b) _ _ k (λ h r. and_from _ _ h (r 5 refl)) absurd

rebuild : (w : List ℕ) (p : Place) → run p w ≡ Some after → (i : ℕ) → i + height p ≡ 5 → Rest p i w
rebuild [] p e i fit = subst (λ o. After o []) (sym e) (λ j k. refl) i fit
rebuild (b ∷ w) p e i fit =
    back p i b w fit ((elim (step p b) as (λ o. bind o (λ q. run q w) ≡ Some after → After o w) [ None ↦ λ n. subst (λ o. After o []) (sym n) (λ j k. refl) | Some q ↦ λ r. rebuild w q r ]) e)

pub rebuilds : (d : List ℕ) → run fresh d ≡ Some after → WellMarked d
rebuilds d e = rebuild d fresh e 5 refl
