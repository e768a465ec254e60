-- What is found at one attribute of a node, and at all of them.
use Rattle.std.proofs.Common.{◌≡◌, ℕ, true, false, List, Some, None, Ok, Err, Option, Result, sym, refl, ap, ◌∙◌, subst, arith}
use Rattle.std.proofs.lemmas.Bool.{both_ways}
use Rattle.rules.specs.Bytes.{Among}
use Rattle.rules.specs.Catalogues.{Facts}
use Rattle.rules.specs.Faults.{rank, not_after, Judgement, FirstOf}
use Rattle.rules.specs.Grounds.{rows, row_of, Standing, ValuesFault, not_admitted, not_in_catalogue}
use Rattle.rules.specs.Kinds.{keep, admitted, catalogue_of}
use Rattle.rules.specs.Located.{Given}
use Rattle.rules.specs.Schema.{Row}
use Rattle.rules.specs.declared.grounds.Fault.{Fault}
use Rattle.rules.specs.declared.grounds.Fault.TheVariants.{NotAdmitted, NotInCatalogue}
use Rattle.rules.specs.declared.schema.Catalogue.{Catalogue}
use Rattle.rules.specs.declared.schema.Kind.{Kind}
use Rattle.rules.specs.declared.schema.Node.{Node}
use Rattle.theory.proofs.Compose.{before_itself, judged_as}
use Rattle.theory.specs.Grounds.{Some_of}
use Rattle.theory.proofs.Options.{none_some, some_same}
use Rattle.values.specs.Judged.{Judged}
use Rattle.values.specs.declared.judgement.ValueFault.{ValueFault}
use Rattle.values.specs.declared.judgement.ValueFault.TheVariants as why
use Rattle.walk.specs.Events.{Occurrence, opened, closed, told, Found, Tagged}
use Rattle.walk.specs.Opening.{opening}
use Rattle.walk.specs.declared.event.Opened.{Opened}
use Rattle.layers.specs.Found.{kind_in, kind_named, ValueFinds, unadmitted, unlisted, fault_at}
use Rattle.layers.specs.Meeting.{opened_node, Met, Starts}
use Rattle.layers.proofs.Named.{told_of}

-- an attribute without a row has no fault of values
pub no_kind : (facts : Facts) (k : Node) (g : Given) → None ≡ kind_named (rows k) g.name → (f : Fault) → ValueFinds facts k g f → ⊥
no_kind facts k g e f (unadmitted q h n) = none_some (sym e) h
no_kind facts k g e f (unlisted q c h a i n) = none_some (sym e) h

-- the fault at a place that the judgement of a value gives
abbrev pub value_fault : ℕ → Result (Option ℕ) ValueFault → Option Fault
value_fault p (Ok x) = None
value_fault p (Err e) = Some (fault_at e p)

module _ (facts : Facts) (k : Node) (g : Given) (q : Kind) (e : Some q ≡ kind_named (rows k) g.name) where
  same_kind : (p : Kind) → kind_named (rows k) g.name ≡ Some p → q ≡ p
  same_kind p h = some_same (sym e) h

  nothing : admitted q g.value ≡ true → ((c : Catalogue) → catalogue_of q ≡ Some c → facts c (keep q g.value) ≡ None → ⊥) → (f : Fault) → ValueFinds facts k g f → ⊥
  nothing a n f (unadmitted p h x) = both_ways _ x (ap (λ y. admitted y g.value) (sym (same_kind p h)) ∙ a)
  nothing a n f (unlisted p c h b i x) = n c (ap catalogue_of (same_kind p h) ∙ i) (ap (λ y. facts c (keep y g.value)) (same_kind p h) ∙ x)

  first_unadmitted : admitted q g.value ≡ false → FirstOf (ValueFinds facts k g) (NotAdmitted g.value_at)
  first_unadmitted n = (unadmitted q (sym e) n, least)
    where
      least : (f : Fault) → ValueFinds facts k g f → not_after (rank (NotAdmitted g.value_at)) (rank f) ≡ true
      least f (unadmitted p h x) = before_itself (NotAdmitted g.value_at)
      least f (unlisted p c h b i x) = absurd (both_ways _ n (ap (λ y. admitted y g.value) (same_kind p h) ∙ b))

  first_unlisted : (c : Catalogue) → catalogue_of q ≡ Some c → admitted q g.value ≡ true → facts c (keep q g.value) ≡ None → FirstOf (ValueFinds facts k g) (NotInCatalogue g.value_at)
  first_unlisted c i a n = (unlisted q c (sym e) a i n, least)
    where
      least : (f : Fault) → ValueFinds facts k g f → not_after (rank (NotInCatalogue g.value_at)) (rank f) ≡ true
      least f (unadmitted p h x) = absurd (both_ways _ x (ap (λ y. admitted y g.value) (sym (same_kind p h)) ∙ a))
      least f (unlisted p c' h b j x) = before_itself (NotInCatalogue g.value_at)

  -- the judgement of a value is that of its attribute
  pub value_judged : (r : Result (Option ℕ) ValueFault) → Judged facts q g.value r → Judgement (ValueFinds facts k g) (value_fault g.value_at r)
  value_judged (Ok None) h = nothing h.1 (λ c i n. none_some h.0 i)
  value_judged (Ok (Some d)) h = nothing h.admits_it (λ c i n. let s : h.catalogue ≡ c = some_same h.is_code i in none_some n (ap (λ y. facts y (keep q g.value)) (sym s) ∙ h.finds))
  value_judged (Err why.NotAdmitted) h = first_unadmitted h
  value_judged (Err (why.NotInCatalogue f)) h = first_unlisted h.catalogue h.is_code h.admits_it h.finds

row_kind : (o : Option Row) (q : Kind) → kind_in o ≡ Some q → (r : Row) × (o ≡ Some r) × (r.kind ≡ q)
row_kind None q h = let z : ◌≡◌ {A = ℕ} 0 1 = cc in absurd (omega arith)
row_kind (Some r) q h = (r, refl, cc)

-- a fault at an attribute of a node is one of the node
attribute_fault : (facts : Facts) (s : Standing) (g : Given) → Among g s.givens → (f : Fault) → ValueFinds facts s.kind g f → ValuesFault facts s f
attribute_fault facts s g a f (unadmitted q h n) = let (r, e, k) = row_kind (row_of (rows s.kind) g.name) q h in not_admitted g r a e (ap (λ y. admitted y g.value) k ∙ n)
attribute_fault facts s g a f (unlisted q c h b i n) =
    let (r, e, k) = row_kind (row_of (rows s.kind) g.name) q h in
    not_in_catalogue g r c a e (ap (λ y. admitted y g.value) k ∙ b) (ap catalogue_of k ∙ i) (ap (λ y. facts c (keep y g.value)) k ∙ n)

at_attribute : (facts : Facts) (s : Standing) (f : Fault) → ValuesFault facts s f → Some_of (ValueFinds facts s.kind) s.givens f
at_attribute facts s f (not_admitted g r a e n) = (g, a, unadmitted r.kind (ap kind_in e) n)
at_attribute facts s f (not_in_catalogue g r c a e u i n) = (g, a, unlisted r.kind c (ap kind_in e) u i n)

-- the judgement of the attributes of a tag is that of the node
pub node_judged : (facts : Facts) (s : Standing) (r : Option Fault) → Judgement (Some_of (ValueFinds facts s.kind) s.givens) r → Judgement (ValuesFault facts s) r
node_judged facts s r h = judged_as (Some_of (ValueFinds facts s.kind) s.givens) (ValuesFault facts s) (λ f (g, a, p). attribute_fault facts s g a f p) (at_attribute facts s) r h

-- a judgement of the values of a tag, at the place that an event tells
abbrev TagJudged : Facts → List ℕ → Opened → Option Fault → Type 0
TagJudged facts d x r = (gs : List Given) → Tagged d x.attributes gs → Judgement (Some_of (ValueFinds facts x.node) gs) r

-- is one of the node that is met
pub values_met : (facts : Facts) (d : List ℕ) (x : Opened) (r : Option Fault) → TagJudged facts d x r → (o : Occurrence) → Some x ≡ opening (told o) → Found d o → Starts o → Judgement (Met (ValuesFault facts) o) r
values_met facts d x r h (opened s) e t u =
    let q : x ≡ told_of s = some_same refl e in
    let k : TagJudged facts d (told_of s) r = subst (λ y. TagJudged facts d y r) q h in
    node_judged facts (opened_node s) r (k s.givens t)
values_met facts d x r h (closed k) e t u = absurd (none_some refl (sym e))
