-- The attributes of a tag, one after the other.
use Rattle.std.proofs.Common.{◌≡◌, ℕ, ◌+◌, ◌≤◌, true, List, [], ◌∷◌, ◌++◌, length, drop, Some, None, Option, sym, refl, ap, ◌∙◌, subst, arith, length-append}
use Rattle.std.proofs.lemmas.Bool.{and_parts}
use Rattle.rules.specs.Bytes.{all}
use Rattle.rules.specs.Catalogues.{Facts}
use Rattle.rules.specs.Faults.{Judgement, FirstOf}
use Rattle.rules.specs.Kept.{resolved}
use Rattle.rules.specs.Located.{Given, given, givens}
use Rattle.rules.specs.Markup.{Attribute, attribute_ok, attribute_text, attributes_text, pieces_bytes}
use Rattle.rules.specs.declared.grounds.Fault.{Fault}
use Rattle.rules.specs.declared.schema.Node.{Node}
use Rattle.theory.specs.On.{attribute_on, attributes_on}
use Rattle.theory.proofs.Compose.{some_nil, In, Apart}
use Rattle.theory.specs.Grounds.{Some_of}
use Rattle.theory.proofs.Lists.{cons_both}
use Rattle.tags.specs.Spans.{part, spans, name_span, value_span}
use Rattle.tags.specs.Attributes.{Reads}
use Rattle.tags.specs.declared.attributes.AttributeSpan.{AttributeSpan}
use Rattle.tags.proofs.Parts.{attribute_length, name_part, no_attributes}
use Rattle.reader.proofs.Slotted.{shows, next}
use Rattle.walk.specs.Events.{Tagged}
use Rattle.layers.specs.Found.{given_in, ValueFinds, unadmitted, unlisted}
use Rattle.layers.proofs.Composed.{rest_judged, first_judged}

-- the spans of an attribute show it as given
given_is : (d : List ℕ) (i : ℕ) (a : Attribute) (rest : List ℕ) → attribute_ok a ≡ true → drop i d ≡ attribute_on a rest → given_in d (spans i a) ≡ given i a
given_is d i a rest ok e =
    let p : part d (name_span i a) ≡ a.name = name_part d i a rest e in
    let v : resolved (part d (value_span i a)) ≡ pieces_bytes a.value = (shows d i a rest ok e).reads in
    λ j. record { name = p j; name_at = (name_span i a).start; value = v j; value_at = (value_span i a).start }

-- the attribute that a scan found, and those that follow it
pub record Next (d : List ℕ) (x : AttributeSpan) (gs : List Given) : Type 0 where
  pub others : List Given
  pub are : gs ≡ given_in d x ∷ others
  pub tagged : Tagged d (x.value.end + 1) others

next_tagged : (d : List ℕ) (i : ℕ) (x : AttributeSpan) (gs : List Given) → Tagged d i gs → Reads d i (Some x) → Next d x gs
next_tagged d i x gs t reads = go t.list t.good t.shown t.are
  where
    go : (l : List Attribute) → all attribute_ok l ≡ true → drop i d ≡ attributes_on l (t.gap ++ t.more) → gs ≡ givens i l → Next d x gs
    go [] h e q = let n = reads.none t.gap t.more t.blanks t.shut e in let w : ◌≡◌ {A = ℕ} 0 1 = cc in absurd (omega arith)
    go (a ∷ l) h e q =
        let (u, v) = and_parts _ _ h in
        let r = reads.attribute a _ u e in
        let s : x ≡ spans i a = cc in
        let k : x.value.end + 1 ≡ i + length (attribute_text a) = omega (arith, ap (λ y. y.value.end) s, attribute_length a) in
        let n : given_in d x ≡ given i a = ap (given_in d) s ∙ given_is d i a _ u e in
        record {
          others = givens (i + length (attribute_text a)) l;
          are = q ∙ cons_both (sym n) refl;
          tagged = record { list = l; gap = t.gap; more = t.more; good = v; blanks = t.blanks; shut = t.shut; shown = ap (λ y. drop y d) k ∙ next d i a _ e; are = ap (λ y. givens y l) (sym k) };
        }

-- a fault of values lies where the value begins
found_at : (facts : Facts) (k : Node) (g : Given) (f : Fault) → ValueFinds facts k g f → (lo : ℕ) → lo ≤ g.value_at → In 5 lo g.value_at f
found_at facts k g f (unadmitted q h n) lo l = record { layered = refl; low = l; high = omega arith }
found_at facts k g f (unlisted q c h a i n) lo l = record { layered = refl; low = l; high = omega arith }

-- the faults of the attributes of a tag lie one after the other
values_apart : (facts : Facts) (k : Node) (l : List Attribute) (lo i hi : ℕ) → lo ≤ i → i + length (attributes_text l) ≤ hi → Apart 5 (ValueFinds facts k) lo hi (givens i l)
values_apart facts k [] lo i hi h u = omega arith
values_apart facts k (a ∷ l) lo i hi h u =
    let n = attribute_length a in
    let m = length-append (attribute_text a) (attributes_text l) in (
      (given i a).value_at,
      omega arith,
      λ f p. found_at facts k (given i a) f p lo (omega arith),
      values_apart facts k l ((given i a).value_at + 1) (i + length (attribute_text a)) hi (omega arith) (omega arith),
    )

-- the judgement of the attributes that are left is the judgement of all
pub record TagLeft (facts : Facts) (k : Node) (d : List ℕ) (i : ℕ) (gs : List Given) : Type 0 where
  pub others : List Given
  pub tagged : Tagged d i others
  pub rest : (o : Option Fault) → Judgement (Some_of (ValueFinds facts k) others) o → Judgement (Some_of (ValueFinds facts k) gs) o

module _ (facts : Facts) (k : Node) (d : List ℕ) (i : ℕ) (gs : List Given) where
  pub tag_first : Tagged d i gs → TagLeft facts k d i gs
  tag_first t = record { others = gs; tagged = t; rest = λ o h. h }

  -- nothing is found at the next attribute
  pub tag_more : (x : AttributeSpan) → Reads d i (Some x) → ((f : Fault) → ValueFinds facts k (given_in d x) f → ⊥) → TagLeft facts k d i gs → TagLeft facts k d (x.value.end + 1) gs
  tag_more x reads j h =
      let n = next_tagged d i x h.others h.tagged reads in
      record { others = n.others; tagged = n.tagged; rest = λ o q. h.rest o (subst (λ y. Judgement (Some_of (ValueFinds facts k) y) o) (sym n.are) (rest_judged (ValueFinds facts k) (given_in d x) n.others j o q)) }

  -- what is found at the next attribute is the first fault
  pub tag_found : (x : AttributeSpan) (f : Fault) → Reads d i (Some x) → FirstOf (ValueFinds facts k (given_in d x)) f → TagLeft facts k d i gs → FirstOf (Some_of (ValueFinds facts k) gs) f
  tag_found x f reads j h =
      let n = next_tagged d i x h.others h.tagged reads in
      let hi = i + length (attributes_text h.tagged.list) in
      let a : Apart 5 (ValueFinds facts k) i hi (given_in d x ∷ n.others) = subst (λ y. Apart 5 (ValueFinds facts k) i hi y) (sym h.tagged.are ∙ n.are) (values_apart facts k h.tagged.list i i hi (omega arith) (omega arith)) in
      h.rest (Some f) (subst (λ y. FirstOf (Some_of (ValueFinds facts k) y) f) (sym n.are) (first_judged 5 (ValueFinds facts k) i hi (given_in d x) n.others a f j))

  -- no attribute is left, so nothing is found
  pub tag_none : Reads d i None → TagLeft facts k d i gs → (f : Fault) → Some_of (ValueFinds facts k) gs f → ⊥
  tag_none reads h =
      let t = h.tagged in
      let e : h.others ≡ [] = t.are ∙ ap (givens i) (no_attributes d i t.list t.gap t.more t.good t.shown reads.attribute) in
      h.rest None (subst (λ y. Judgement (Some_of (ValueFinds facts k) y) None) (sym e) (some_nil (ValueFinds facts k)))
