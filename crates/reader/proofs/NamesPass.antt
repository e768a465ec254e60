-- One attribute more in the pass over a tag.
use Rattle.std.proofs.Common.{◌≡◌, ℕ, ◌+◌, Bool, true, false, cond, List, [], ◌∷◌, ◌++◌, length, drop, Some, None, Ok, Err, Option, Result, sym, refl, ap, ◌∙◌, arith}
use Rattle.std.proofs.lemmas.Bool.{and_parts}
use Rattle.std.specs.Result.{result_and}
use Rattle.rules.specs.Faults.{fault_of}
use Rattle.rules.specs.Bytes.{blank, all}
use Rattle.rules.specs.Schema.{Row}
use Rattle.rules.specs.Markup.{Attribute, attribute_ok, attribute_text}
use Rattle.theory.specs.On.{attribute_on, attributes_on, closes}
use Rattle.theory.proofs.Unique.{attribute_on_is}
use Rattle.tags.specs.Spans.{part, spans, name_span, value_span}
use Rattle.tags.specs.declared.attributes.Span.{Span}
use Rattle.tags.specs.declared.attributes.AttributeSpan.{AttributeSpan}
use Rattle.tags.proofs.Fronts.{past}
use Rattle.tags.proofs.Parts.{attribute_length, name_part}
use Rattle.rules.specs.declared.grounds.Fault.{Fault}
use Rattle.rules.specs.declared.grounds.Fault.TheVariants.{AttributeRefused}
use Rattle.reader.specs.Names.{row_at, taken, with_span, filled, refusal, refusing}

-- the first of two faults that is there
abbrev pub first_of : Option Fault → Option Fault → Option Fault
first_of (Some f) o = Some f
first_of None o = o

pub first_nothing : (r : Option Fault) → first_of r None ≡ r
first_nothing (Some f) = refl
first_nothing None = refl

-- a refused attribute comes before those that follow it
pub first_here : (r : Option Fault) (b : Bool) (x : ℕ) (o : Option ℕ) → first_of r (refusing (cond b (Some x) o)) ≡ first_of (first_of r (cond b (Some (AttributeRefused x)) None)) (refusing o)
first_here (Some f) b x o = refl
first_here None true x o = refl
first_here None false x o = refl

-- a verdict after another
pub and_first : {A B : Type 0} (r : Result A Fault) (p : Result B Fault) → fault_of (result_and r p) ≡ first_of (fault_of r) (fault_of p)
and_first (Ok x) p = refl
and_first (Err f) p = refl

-- the attribute x that stands at i, and what the pass has left
pub record Turn (d : List ℕ) (rs : List Row) (i : ℕ) (s : List (Option Span)) (x : AttributeSpan) (l : List Attribute) (g z : List ℕ) : Type 0 where
  pub left : List Attribute
  pub ok : all attribute_ok left ≡ true
  pub lies : drop (x.value.end + 1) d ≡ attributes_on left (g ++ z)
  pub fills : filled rs s i l ≡ filled rs (with_span (row_at rs 0 (part d x.name)) s x.value) (x.value.end + 1) left
  pub refuses : refusal rs s i l ≡ cond (taken (row_at rs 0 (part d x.name)) s) (Some x.name.start) (refusal rs (with_span (row_at rs 0 (part d x.name)) s x.value) (x.value.end + 1) left)

pub turn : (d : List ℕ) (rs : List Row) (i : ℕ) (s : List (Option Span)) (x : AttributeSpan) (l : List Attribute) (g z : List ℕ) → all attribute_ok l ≡ true → all blank g ≡ true → closes z ≡ true → drop i d ≡ attributes_on l (g ++ z) →
    ((a : Attribute) (rest : List ℕ) → attribute_ok a ≡ true → drop i d ≡ attribute_on a rest → Some x ≡ Some (spans i a)) →
    ((g z : List ℕ) → all blank g ≡ true → closes z ≡ true → drop i d ≡ g ++ z → Some x ≡ None) → Turn d rs i s x l g z
turn d rs i s x [] g z h hg hz e reads none = let q = none g z hg hz e in let w : ◌≡◌ {A = ℕ} 0 1 = cc in absurd (omega arith)
turn d rs i s x (a ∷ l) g z h hg hz e reads none =
    let (u, v) = and_parts _ _ h in
    let t = reads a _ u e in
    let q : x ≡ spans i a = cc in
    let qn : x.name.start ≡ (name_span i a).start = ap (λ y. y.name.start) q in
    let qv : x.value ≡ value_span i a = ap (λ y. y.value) q in
    let k : x.value.end + 1 ≡ i + length (attribute_text a) = omega (arith, ap (λ y. y.end) qv, attribute_length a) in
    let n : a.name ≡ part d x.name = sym (ap (λ y. part d y.name) q ∙ name_part d i a _ e) in
    record {
      left = l;
      ok = v;
      lies = ap (λ n. drop n d) k ∙ past d (attribute_text a) _ i (e ∙ sym (attribute_on_is a _));
      fills = λ j. filled rs (with_span (row_at rs 0 (n j)) s (sym qv j)) (sym k j) l;
      refuses = λ j. cond (taken (row_at rs 0 (n j)) s) (Some (sym qn j)) (refusal rs (with_span (row_at rs 0 (n j)) s (sym qv j)) (sym k j) l);
    }
