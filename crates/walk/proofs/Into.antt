-- What comes once a node has been opened.
use Rattle.std.proofs.Common.{◌≡◌, ℕ, zero, suc, ◌+◌, ◌-◌, ◌<◌, Bool, true, false, ◌⊎◌, List, [], ◌∷◌, ◌++◌, length, get_or, take, drop, Some, Option, sym, refl, ap, ◌∙◌, subst, inl, inr, append_assoc, arith, length-append}
use Rattle.std.proofs.lemmas.Bool.{and_parts, false≢true, both_ways}
use Rattle.rules.specs.Bytes.{blank, name_byte, all}
use Rattle.rules.specs.Markup.{attribute_ok, Tag, name_ok, tag_ok, tag_text, Content, end, empty, full, text, content_ok}
use Rattle.rules.specs.Located.{Given, givens, none, located}
use Rattle.rules.specs.Values.{placed}
use Rattle.rules.specs.declared.schema.Node.{Node}
use Rattle.theory.specs.On.{tag_on, content_on, closes}
use Rattle.tags.specs.Scan.{ended}
use Rattle.std.specs.List.{prefix_len}
use Rattle.byte_classes.specs.Runs.{other}
use Rattle.walk.specs.Events.{Start, start, Occurrence, opened, closed, met_at, met_under, told, Tagged, no_element}
use Rattle.walk.specs.Coming.{Placed, Follows, ends, Coming, Gives, shuts}
use Rattle.walk.specs.declared.cursor.Walk.{Walk}
use Rattle.walk.specs.declared.event.Event.{Event}
use Rattle.walk.specs.declared.event.Event.TheVariants.{Opened}
use Rattle.tags.proofs.Fronts.{scanned, lies_less, lies_head, lies_next}
use Rattle.theory.proofs.Lists.{all_append as all-++}
use Rattle.walk.proofs.Leaving.{follows_stops, follows_shuts, comes_to}
use Rattle.walk.proofs.Entering.{placed_parent, Reads, TagRead, tag_read, six_length, all_weaker, name_other, blank_other, holds_none}

-- the start tag of the node k has been read, whose end stands at close with a byte, and what comes after it begins at next
pub record Into (d : List ℕ) (place attributes close : ℕ) (k : Node) (os : List Occurrence) (byte next : ℕ) (bare : Bool) : Type 0 where
  pub byte_is : get_or d close 0 ≡ byte
  pub here : Start
  pub others : List Occurrence
  pub are : os ≡ opened here ∷ others
  pub tells : told (opened here) ≡ Opened (record { node = k; place = place; attributes = attributes; childless = bare })
  pub found : Tagged d here.attributes here.givens
  pub comes : Coming d next (Some k) others

-- a node has been opened: its tag is all of it, or an end tag follows
pub record Entered (d : List ℕ) (place attributes close : ℕ) (p : Option Node) (os : List Occurrence) : Type 0 where
  pub k : Node
  pub is_placed : placed p (take (attributes - (place + 1)) (drop (place + 1) d)) ≡ Some k
  pub within : close < length d
  pub shape : Into d place attributes close k os 47 close true
      ⊎ ((i : ℕ) (bare : Bool) → i ≡ close + 1 + prefix_len blank (drop (close + 1) d) → bare ≡ ended (drop i d) → Into d place attributes close k os 62 (close + 1) bare)

module _ (d : List ℕ) (at place attributes close : ℕ) (p : Option Node) (os more : List Occurrence) (rest : List ℕ) (hp : place ≡ at + prefix_len blank (drop at d))
    (ha : attributes ≡ place + 1 + prefix_len name_byte (drop (place + 1) d)) (reads : Reads d attributes close) (shut : shuts (drop place d) ≡ false) where
  -- the blanks before a tag, and the tag
  record Header (b : List ℕ) (t : Tag) (z : List ℕ) : Type 0 where
    begins : place ≡ at + length b
    scans : TagRead d place attributes close t z
    attributes_are : attributes ≡ at + length b + 1 + length t.name
    found : Tagged d (at + length b + 1 + length t.name) (givens (at + length b + 1 + length t.name) t.attributes)

  header : (b : List ℕ) (t : Tag) (z : List ℕ) → all blank b ≡ true → tag_ok t ≡ true → closes z ≡ true → drop at d ≡ b ++ tag_on t z → Header b t z
  header b t z u v hz e =
      let (x, y) = scanned blank d b (tag_on t z) at place hp u refl e in
      let r : TagRead d place attributes close t z = tag_read d place attributes close t z ha reads v hz y in
      let i : ℕ = at + length b + 1 + length t.name in
      let q : attributes ≡ i = r.name_ends ∙ ap (λ o. o + 1 + length t.name) x in
      let (oa, og) = and_parts (all attribute_ok t.attributes) _ (and_parts (name_ok t.name) _ v).1 in
      record {
        begins = x;
        scans = r;
        attributes_are = q;
        found = record { list = t.attributes; gap = t.gap; more = z; good = oa; blanks = og; shut = hz; shown = ap (λ o. drop o d) (sym q) ∙ r.attributes_lie; are = refl };
      }

  pub enters : (n : ℕ) (c : Content) → content_ok n c ≡ true → drop at d ≡ content_on c rest → Placed p (located at c) → os ≡ met_under p (located at c) more → Follows p (at + length (text c)) rest more →
      Entered d place attributes close p os
  enters n (end b) h e nodes are f =
      let (x, y) = scanned blank d b rest at place hp h (follows_stops f) e in
      absurd (both_ways (shuts (drop place d)) shut (ap shuts y ∙ follows_shuts f))
  enters zero (empty b t after) h e nodes are f = absurd (false≢true h)
  enters (suc n) (empty b t after) h e nodes are f =
      let (u, h₁) = and_parts (all blank b) _ h in
      let (v, h₂) = and_parts (tag_ok t) _ h₁ in
      let z : List ℕ = 47 ∷ 62 ∷ content_on after rest in
      let w : Header b t z = header b t z u v refl e in
      let (k, q, inner, others) = nodes in
      let i : ℕ = at + length b in
      let gs : List Given = givens (i + 1 + length t.name) t.attributes in
      let next : ℕ = i + length (tag_text t) + 2 in
      let long : at + length (text (empty b t after)) ≡ next + length (text after) = omega (arith, length-append (b ++ tag_text t) (47 ∷ 62 ∷ text after), length-append b (tag_text t)) in
      let stand : next ≡ close + 0 + 1 + 1 = omega (arith, w.begins, w.scans.tag_ends) in
      record {
        k = k;
        is_placed = ap (placed p) w.scans.name_is ∙ q;
        within = lies_less d _ 47 close w.scans.end_lies;
        shape = inl (record {
          byte_is = lies_head d _ 47 close w.scans.end_lies;
          here = start k t.name i gs none;
          others = closed k ∷ met_under p (located next after) more;
          are = are ∙ ap (λ o. met_at o (λ j. opened (start j t.name i gs none) ∷ closed j ∷ met_under p (located next after) more) (met_under p (located next after) more)) q;
          tells = λ j. Opened (record { node = k; place = sym w.begins j; attributes = sym w.attributes_are j; childless = true });
          found = w.found;
          comes = record {
            depth = 0;
            content = end [];
            rest = z;
            more = closed k ∷ met_under p (located next after) more;
            good = refl;
            shown = w.scans.end_lies;
            nodes = tt;
            are = refl;
            follows = ends k p (47 ∷ []) (suc n) next after rest more refl (placed_parent p t.name k q) refl refl h₂ refl stand others refl (subst (λ i. Follows p i rest more) long f);
          };
        });
      }
  enters zero (full b t inside c after) h e nodes are f = absurd (false≢true h)
  enters (suc n) (full b t inside c after) h e nodes are f =
      let (u, h₁) = and_parts (all blank b) _ h in
      let (v, h₂) = and_parts (tag_ok t) _ h₁ in
      let (m, h₃) = and_parts (content_ok n inside) _ h₂ in
      let (a, h₄) = and_parts (all blank c) _ h₃ in
      let shut : List ℕ = 60 ∷ 47 ∷ (t.name ++ c) in
      let tail : List ℕ = 60 ∷ 47 ∷ (t.name ++ (c ++ 62 ∷ content_on after rest)) in
      let z : List ℕ = 62 ∷ content_on inside tail in
      let w : Header b t z = header b t z u v refl e in
      let (k, q, inner, others) = nodes in
      let i : ℕ = at + length b in
      let gs : List Given = givens (i + 1 + length t.name) t.attributes in
      let first : ℕ = i + length (tag_text t) + 1 in
      let next : ℕ = first + length (text inside) + 2 + length t.name + length c + 1 in
      let follow : List Occurrence = closed k ∷ met_under p (located next after) more in
      let long : at + length (text (full b t inside c after)) ≡ next + length (text after) = omega (arith, six_length b (tag_text t) (62 ∷ text inside) (60 ∷ 47 ∷ t.name) c (62 ∷ text after)) in
      let goes : first ≡ close + 1 = omega (arith, w.begins, w.scans.tag_ends) in
      let stand : next ≡ first + length (text inside) + length shut + 1 = omega (arith, length-append t.name c) in
      let lies : drop (close + 1) d ≡ content_on inside tail = lies_next d _ 62 close w.scans.end_lies in
      let plain : all (other 62) (t.name ++ c) ≡ true = all-++ (other 62) t.name c (all_weaker name_byte (other 62) name_other t.name (and_parts _ _ (and_parts (name_ok t.name) _ v).0).1) (all_weaker blank (other 62) blank_other c a) in
      let comes : Coming d first (Some k) (met_under (Some k) (located first inside) follow) = record {
        depth = n;
        content = inside;
        rest = tail;
        more = follow;
        good = m;
        shown = ap (λ o. drop o d) goes ∙ lies;
        nodes = inner;
        are = refl;
        follows = ends k p shut (suc n) next after rest more refl (placed_parent p t.name k q) refl plain h₄ (ap (λ l. 60 ∷ 47 ∷ l) (sym (append_assoc t.name c _))) stand others refl (subst (λ i. Follows p i rest more) long f);
      } in
      record {
        k = k;
        is_placed = ap (placed p) w.scans.name_is ∙ q;
        within = lies_less d _ 62 close w.scans.end_lies;
        shape = inr (λ j bare hj hb. record {
          byte_is = lies_head d _ 62 close w.scans.end_lies;
          here = start k t.name i gs (located first inside);
          others = met_under (Some k) (located first inside) follow;
          are = are ∙ ap (λ o. met_at o (λ j. opened (start j t.name i gs (located first inside)) ∷ met_under (Some j) (located first inside) (closed j ∷ met_under p (located next after) more)) (met_under p (located next after) more)) q;
          tells =
              let g : no_element (located first inside) ≡ bare = ap (λ o. no_element (located o inside)) goes ∙ holds_none d (close + 1) j _ n inside hj m lies ∙ sym hb in
              λ l. Opened (record { node = k; place = sym w.begins l; attributes = sym w.attributes_are l; childless = g l });
          found = w.found;
          comes = subst (λ o. Coming d o (Some k) (met_under (Some k) (located first inside) follow)) goes comes;
        });
      }

pub enters_from : (d : List ℕ) (at place attributes close : ℕ) (p : Option Node) (os : List Occurrence) → Coming d at p os → place ≡ at + prefix_len blank (drop at d) →
    attributes ≡ place + 1 + prefix_len name_byte (drop (place + 1) d) → Reads d attributes close → shuts (drop place d) ≡ false → Entered d place attributes close p os
enters_from d at place attributes close p os co hp ha reads shut =
    enters d at place attributes close p os co.more co.rest hp ha reads shut co.depth co.content co.good co.shown co.nodes co.are co.follows

-- once that node is opened, a walk that has come to where the next begins has the others before it
pub into_gives : (d : List ℕ) (place attributes close : ℕ) (k : Node) (os : List Occurrence) (byte next : ℕ) (bare : Bool) → Into d place attributes close k os byte next bare →
    (node : Node) (childless : Bool) (w : Walk) → k ≡ node → childless ≡ bare → w.document.now ≡ d → w.at ≡ next → w.«open» ≡ Some node →
    Gives os d (Some (Opened (record { node = node; place = place; attributes = attributes; childless = childless }))) w
into_gives d place attributes close k os byte next bare z node childless w e f x y o =
    let event : Event = Opened (record { node = node; place = place; attributes = attributes; childless = childless }) in
    let tells : event ≡ told (opened z.here) = (λ i. Opened (record { node = sym e i; place = place; attributes = attributes; childless = f i })) ∙ sym z.tells in
    subst (λ l. Gives l d (Some event) w) (sym z.are) (ap Some tells, z.found, comes_to w d next (Some k) z.others x y (o ∙ ap Some (sym e)) z.comes)
