-- One turn of the walk through the elements under a node.
use Rattle.std.proofs.Common.{◌≡◌, ℕ, zero, suc, ◌+◌, ◌-◌, ◌<◌, true, false, ◌&&◌, ◌⊎◌, List, [], ◌∷◌, ◌++◌, length, get_or, take, drop, Some, None, Ok, Err, Option, Result, sym, refl, ap, ◌∙◌, inl, inr, append_assoc, arith, length-append}
use Rattle.std.proofs.lemmas.List.{take_at}
use Rattle.std.proofs.lemmas.Bool.{and_parts, false≢true, both_ways, eqb-true, cond-true, cond-false}
use Rattle.std.proofs.lemmas.Bool.Decides.{nat_tests}
use Rattle.rules.specs.Bytes.{blank, name_byte, all}
use Rattle.rules.specs.Markup.{Attribute, attribute_ok, attributes_text, name_ok, some, Tag, tag_ok, tag_text, Content, end, empty, full, text, content_ok}
use Rattle.rules.specs.Located.{Given, givens, Elements, none, element, located}
use Rattle.rules.specs.declared.schema.Node.{Node}
use Rattle.rules.specs.declared.grounds.Fault.{Fault}
use Rattle.rules.specs.declared.grounds.Fault.TheVariants.{Misplaced, Unfinished}
use Rattle.rules.specs.Values.{under}
use Rattle.theory.specs.On.{attributes_on, tag_on, content_on, stops, closes, ends}
use Rattle.theory.proofs.Compose.{or_else}
use Rattle.theory.proofs.Lists.{all_append, all_with}
use Rattle.theory.proofs.Unique.{attributes_on_is, content_on_is}
use Rattle.tags.specs.Scan.{through, ended}
use Rattle.std.specs.List.{prefix_len}
use Rattle.std.specs.Option.{ok_or}
use Rattle.byte_classes.specs.Runs.{other}
use Rattle.tags.proofs.Fronts.{past, scanned, passed, lies_less, lies_head, lies_next}
use Rattle.tags.proofs.Parts.{blanks_stop, no_slash}
use Rattle.reader.specs.Tree.{step, finished, node_at, follow, tree_first, answer}
use Rattle.reader.specs.declared.nodes.Progress.{Progress}

abbrev pub Reads : List ℕ → ℕ → ℕ → Type 0
Reads d stop close = (l : List Attribute) (g z : List ℕ) → all attribute_ok l ≡ true → all blank g ≡ true → closes z ≡ true → drop stop d ≡ attributes_on l (g ++ z) → close ≡ stop + length (attributes_text l) + length g

closes_name : (z : List ℕ) → closes z ≡ true → stops name_byte z ≡ true
closes_name [] h = refl
closes_name (b ∷ bs) h = grind (arith, nat_tests)

attributes_stop : (l : List Attribute) (g z : List ℕ) → all attribute_ok l ≡ true → all blank g ≡ true → closes z ≡ true → stops name_byte (attributes_on l (g ++ z)) ≡ true
attributes_stop [] g z h hg hz = blanks_stop g z hg (closes_name z hz)
attributes_stop (a ∷ l) g z h hg hz = starts a.before _ (and_parts _ _ (and_parts _ _ h).0).0
  where
    starts : (bs r : List ℕ) → (some bs && all blank bs) ≡ true → stops name_byte (bs ++ r) ≡ true
    starts [] r h = absurd (false≢true h)
    starts (b ∷ bs) r h = let u : blank b ≡ true = (and_parts _ _ h).0 in grind (arith, nat_tests)

ends_stop : (r : List ℕ) → ends r ≡ true → stops blank r ≡ true
ends_stop [] h = refl
ends_stop (b ∷ []) h = absurd (false≢true h)
ends_stop (b ∷ c ∷ r) h = let u = eqb-true b 60 (and_parts _ _ h).0 in rw u refl

ends_close : (r : List ℕ) → ends r ≡ true → ended r ≡ true
ends_close [] h = refl
ends_close (b ∷ []) h = absurd (false≢true h)
ends_close (b ∷ c ∷ r) h = (and_parts _ _ h).1

tag_open : (n r : List ℕ) → name_ok n ≡ true → ended (60 ∷ (n ++ r)) ≡ true → ⊥
tag_open [] r h k = false≢true h
tag_open (b ∷ bs) r h k = no_slash b (and_parts _ _ h).0 (eqb-true b 47 k)

-- the scans of one start tag
tag_read : (d : List ℕ) (place stop close : ℕ) (t : Tag) (z : List ℕ) → stop ≡ place + 1 + prefix_len name_byte (drop (place + 1) d) → Reads d stop close → tag_ok t ≡ true → closes z ≡ true → drop place d ≡ tag_on t z →
    (take (stop - (place + 1)) (drop (place + 1) d) ≡ t.name) × (close ≡ place + length (tag_text t)) × (drop close d ≡ z)
tag_read d place stop close t z hs reads ok hz e =
    let (on, o₁) = and_parts _ _ ok in
    let (oa, og) = and_parts _ _ o₁ in
    let e₁ = lies_next d _ 60 place e in
    let (p, f) = scanned name_byte d t.name _ (place + 1) stop hs (and_parts _ _ on).1 (attributes_stop t.attributes t.gap z oa og hz) e₁ in
    let q = reads t.attributes t.gap z oa og hz f in
    let long : length (tag_text t) ≡ 1 + length t.name + length (attributes_text t.attributes) + length t.gap = simp length-append (omega arith) in
    let g : drop (stop + length (attributes_text t.attributes)) d ≡ t.gap ++ z = past d (attributes_text t.attributes) _ stop (f ∙ sym (attributes_on_is t.attributes _)) in
    let h : drop (stop + length (attributes_text t.attributes) + length t.gap) d ≡ z = past d t.gap z _ g in
    (ap (take (stop - (place + 1))) e₁ ∙ take_at t.name _ _ (omega arith), omega arith, ap (λ n. drop n d) q ∙ h)

-- an element that is one tag
pub record Lone (d : List ℕ) (n i place close : ℕ) (c : Content) (rest name : List ℕ) : Type 0 where
  pub after : Content
  pub gs : List Given
  pub ok : content_ok n after ≡ true
  pub shown : drop close d ≡ (47 ∷ []) ++ 62 ∷ content_on after rest
  pub is : located i c ≡ element name place gs none place (located (close + 2) after)
  pub long : close + 2 + length (text after) ≡ i + length (text c)

-- an element with an end tag
pub record Full (d : List ℕ) (n i place close : ℕ) (c : Content) (rest name : List ℕ) : Type 0 where
  pub inside : Content
  pub gap : List ℕ
  pub after : Content
  pub gs : List Given
  pub deep : content_ok (n - 1) inside ≡ true
  pub ok : content_ok n after ≡ true
  pub shown : drop close d ≡ 62 ∷ content_on inside (60 ∷ 47 ∷ (name ++ (gap ++ 62 ∷ content_on after rest)))
  pub plain : all (other 62) (60 ∷ 47 ∷ (name ++ gap)) ≡ true
  pub is : located i c ≡ element name place gs (located (close + 1) inside) (close + 1 + length (text inside)) (located (close + 1 + length (text inside) + length (60 ∷ 47 ∷ (name ++ gap)) + 1) after)
  pub long : close + 1 + length (text inside) + length (60 ∷ 47 ∷ (name ++ gap)) + 1 + length (text after) ≡ i + length (text c)

pub record Opened (d : List ℕ) (n i place stop close : ℕ) (c : Content) (rest : List ℕ) : Type 0 where
  pub name : List ℕ
  pub named : take (stop - (place + 1)) (drop (place + 1) d) ≡ name
  pub deep : 0 < n
  pub within : close < length d
  pub shape : Lone d n i place close c rest name ⊎ Full d n i place close c rest name

pub six_length : (a b c d e f : List ℕ) → length (((((a ++ b) ++ c) ++ d) ++ e) ++ f) ≡ length a + length b + length c + length d + length e + length f
six_length a b c d e f = simp length-append

name_other : (b : ℕ) → name_byte b ≡ true → other 62 b ≡ true
name_other b h = grind (arith, nat_tests)

blank_other : (b : ℕ) → blank b ≡ true → other 62 b ≡ true
blank_other b h = grind (arith, nat_tests)

module _ (d : List ℕ) (i place stop close : ℕ) (rest : List ℕ) (hp : place ≡ i + prefix_len blank (drop i d)) where
  -- no element begins: the content ends
  pub closed : (n : ℕ) (c : Content) → content_ok n c ≡ true → ends rest ≡ true → drop i d ≡ content_on c rest → ended (drop place d) ≡ true → (located i c ≡ none) × (place ≡ i + length (text c))
  closed n (end b) h r e k = (refl, (scanned blank d b rest i place hp h (ends_stop rest r) e).0)
  closed zero (empty b t after) h r e k = absurd (false≢true h)
  closed (suc n) (empty b t after) h r e k =
      let (u, h₁) = and_parts (all blank b) _ h in
      let (p, f) = scanned blank d b _ i place hp u refl e in
      absurd (tag_open t.name _ (and_parts _ _ (and_parts _ _ h₁).0).0 (ap ended (sym f) ∙ k))
  closed zero (full b t inside c after) h r e k = absurd (false≢true h)
  closed (suc n) (full b t inside c after) h r e k =
      let (u, h₁) = and_parts (all blank b) _ h in
      let (p, f) = scanned blank d b _ i place hp u refl e in
      absurd (tag_open t.name _ (and_parts _ _ (and_parts _ _ h₁).0).0 (ap ended (sym f) ∙ k))

  pub opened : (n : ℕ) (c : Content) → stop ≡ place + 1 + prefix_len name_byte (drop (place + 1) d) → Reads d stop close → content_ok n c ≡ true → ends rest ≡ true → drop i d ≡ content_on c rest → ended (drop place d) ≡ false → Opened d n i place stop close c rest
  opened n (end b) hs reads h r e k = let (p, f) = scanned blank d b rest i place hp h (ends_stop rest r) e in absurd (both_ways (ended rest) (ap ended (sym f) ∙ k) (ends_close rest r))
  opened zero (empty b t after) hs reads h r e k = absurd (false≢true h)
  opened (suc n) (empty b t after) hs reads h r e k =
      let (u, h₁) = and_parts (all blank b) _ h in
      let (v, h₂) = and_parts (tag_ok t) _ h₁ in
      let (p, f) = scanned blank d b _ i place hp u refl e in
      let (q, x, g) = tag_read d place stop close t _ hs reads v refl f in
      let y : i + length b + length (tag_text t) + 2 ≡ close + 2 = omega arith in
      let gs = givens (i + length b + 1 + length t.name) t.attributes in
      record {
        name = t.name;
        named = q;
        deep = omega arith;
        within = lies_less d _ 47 close g;
        shape = inl (record {
          after = after;
          gs = gs;
          ok = h₂;
          shown = g;
          is = λ j. element t.name (sym p j) gs none (sym p j) (located (y j) after);
          long = omega (arith, length-append (b ++ tag_text t) (47 ∷ 62 ∷ text after), length-append b (tag_text t));
        });
      }
  opened zero (full b t inside c after) hs reads h r e k = absurd (false≢true h)
  opened (suc n) (full b t inside c after) hs reads h r e k =
      let (u, h₁) = and_parts (all blank b) _ h in
      let (v, h₂) = and_parts (tag_ok t) _ h₁ in
      let (w, h₃) = and_parts (content_ok n inside) _ h₂ in
      let (a, h₄) = and_parts (all blank c) _ h₃ in
      let (p, f) = scanned blank d b _ i place hp u refl e in
      let (q, x, g) = tag_read d place stop close t _ hs reads v refl f in
      let m : suc n - 1 ≡ n = omega arith in
      let l : length (60 ∷ 47 ∷ (t.name ++ c)) ≡ 2 + length t.name + length c = simp length-append (omega arith) in
      let y : i + length b + length (tag_text t) + 1 ≡ close + 1 = omega arith in
      let z : i + length b + length (tag_text t) + 1 + length (text inside) + 2 + length t.name + length c + 1 ≡ close + 1 + length (text inside) + length (60 ∷ 47 ∷ (t.name ++ c)) + 1 = omega arith in
      let gs = givens (i + length b + 1 + length t.name) t.attributes in
      record {
        name = t.name;
        named = q;
        deep = omega arith;
        within = lies_less d _ 62 close g;
        shape = inr (record {
          inside = inside;
          gap = c;
          after = after;
          gs = gs;
          deep = ap (λ o. content_ok o inside) m ∙ w;
          ok = h₄;
          shown = g;
          plain = all_append (other 62) t.name c (all_with name_byte (other 62) name_other t.name (and_parts _ _ (and_parts _ _ v).0).1) (all_with blank (other 62) blank_other c a);
          is = λ j. element t.name (sym p j) gs (located (y j) inside) (y j + length (text inside)) (located (z j) after);
          long = omega (arith, six_length b (tag_text t) (62 ∷ text inside) (60 ∷ 47 ∷ t.name) c (62 ∷ text after));
        });
      }

-- a child that no row takes
pub misplaced : {f : Fault} {place : ℕ} {o : Option Progress} → Err f ≡ ok_or o (Misplaced place) → o ≡ None → f ≡ Misplaced place
misplaced {f} {place} {o} h e = fault_is f (Misplaced place) (h ∙ ap (λ x. ok_or x (Misplaced place)) e)
  where
    fault_is : (f g : Fault) → ◌≡◌ {A = Result Progress Fault} (Err f) (Err g) → f ≡ g
    fault_is f g e = cc

-- what a turn adds to the answer
module _ (p : Option Node) (i n E : ℕ) (es : Elements) (o : Option Fault) (h : o ≡ tree_first p i n E es) where
  pub finish_ok : (place : ℕ) → es ≡ none → place ≡ E → finished p i n ≡ true → Ok place ≡ answer o E
  finish_ok place e q f = sym (ap (λ x. answer x E) (h ∙ ap (tree_first p i n E) e ∙ cond-true _ _ _ f) ∙ ap Ok (sym q))

  pub finish_err : (place : ℕ) → es ≡ none → place ≡ E → finished p i n ≡ false → Err (Unfinished place) ≡ answer o E
  finish_err place e q f = sym (ap (λ x. answer x E) (h ∙ ap (tree_first p i n E) e ∙ cond-false _ _ _ f) ∙ ap (λ x. Err (Unfinished x)) (sym q))

  pub no_place : (name : List ℕ) (place : ℕ) (gs : List Given) (inside : Elements) (e : ℕ) (rest : Elements) → es ≡ element name place gs inside e rest → step (drop i (under p)) i n name ≡ None → Err (Misplaced place) ≡ answer o E
  no_place name place gs inside e rest q s = sym (ap (λ x. answer x E) (h ∙ ap (tree_first p i n E) q ∙ ap (λ x. follow x (Misplaced place) (λ s. or_else (tree_first (Some (node_at p s.row)) 0 0 e inside) (tree_first p s.row s.count E rest))) s))

  pub takes_place : (name : List ℕ) (place : ℕ) (gs : List Given) (inside : Elements) (e : ℕ) (rest : Elements) (s : Progress) → es ≡ element name place gs inside e rest → step (drop i (under p)) i n name ≡ Some s →
      o ≡ or_else (tree_first (Some (node_at p s.row)) 0 0 e inside) (tree_first p s.row s.count E rest)
  takes_place name place gs inside e rest s q t = h ∙ ap (tree_first p i n E) q ∙ ap (λ x. follow x (Misplaced place) (λ s. or_else (tree_first (Some (node_at p s.row)) 0 0 e inside) (tree_first p s.row s.count E rest))) t

pub answer_ok : (o : Option Fault) (e x : ℕ) → Ok x ≡ answer o e → (o ≡ None) × (x ≡ e)
answer_ok None e x h = (refl, cc)
answer_ok (Some f) e x h = let z : ◌≡◌ {A = ℕ} 0 1 = cc in absurd (omega arith)

pub answer_err : (o : Option Fault) (e : ℕ) (f : Fault) → Err f ≡ answer o e → o ≡ Some f
answer_err None e f h = let z : ◌≡◌ {A = ℕ} 0 1 = cc in absurd (omega arith)
answer_err (Some g) e f h = cc

module _ (E : ℕ) (o x y : Option Fault) (h : o ≡ or_else x y) where
  pub inside_err : (f : Fault) → x ≡ Some f → Err f ≡ answer o E
  inside_err f e = sym (ap (λ z. answer z E) (h ∙ ap (λ z. or_else z y) e))

  pub inside_ok : x ≡ None → o ≡ y
  inside_ok e = h ∙ ap (λ z. or_else z y) e

-- past an element
module _ (d : List ℕ) (n i place close : ℕ) (c : Content) (rest name : List ℕ) (r : ℕ) where
  pub lone_next : (s : Lone d n i place close c rest name) → r ≡ close + through 62 (drop close d) → (r ≡ close + 2) × (drop r d ≡ content_on s.after rest)
  lone_next s is = let (p, e) = passed 62 d (47 ∷ []) (content_on s.after rest) close r is refl s.shown in (omega arith, e)

  pub full_next : (s : Full d n i place close c rest name) (stop : ℕ) → stop ≡ close + 1 + length (text s.inside) → r ≡ stop + through 62 (drop stop d) →
      (r ≡ close + 1 + length (text s.inside) + length (60 ∷ 47 ∷ (name ++ s.gap)) + 1) × (drop r d ≡ content_on s.after rest)
  full_next s stop q is =
      let f = lies_next d _ 62 close s.shown in
      let g = past d (text s.inside) _ (close + 1) (f ∙ sym (content_on_is s.inside _)) in
      let (p, e) = passed 62 d (60 ∷ 47 ∷ (name ++ s.gap)) (content_on s.after rest) stop r is s.plain (ap (λ m. drop m d) q ∙ g ∙ ap (λ x. 60 ∷ 47 ∷ x) (sym (append_assoc name s.gap _))) in
      (omega arith, e)

  pub full_open : (s : Full d n i place close c rest name) → get_or d close 0 ≡ 47 → ⊥
  full_open s h = let e : get_or d close 0 ≡ 62 = lies_head d _ 62 close s.shown in omega arith

  pub lone_shut : (s : Lone d n i place close c rest name) → (get_or d close 0 ≡ 47 → ⊥) → ⊥
  lone_shut s h = h (lies_head d _ 47 close s.shown)
