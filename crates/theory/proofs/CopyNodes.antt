-- The nodes of a fair copy keep the rules that their values keep.
use Rattle.std.proofs.Common.{◌≡◌, ℕ, ◌+◌, true, false, not, List, [], ◌∷◌, ◌++◌, length, Some, None, Option, sym, refl, ap, ◌∙◌, subst, inl, inr, ⊎_elim, arith}
use Rattle.std.proofs.lemmas.Bool.{cond-true, cond-false, and_parts, not-true, or_left, or_right, or_from, or_cases, cases_Bool, both_ways, false≢true}
use Rattle.rules.specs.Bytes.{same, Among}
use Rattle.rules.specs.Markup.{attribute_text, pieces_bytes}
use Rattle.rules.specs.Located.{Given, given, givens}
use Rattle.rules.specs.Kinds.{keep}
use Rattle.rules.specs.Schema.{Row}
use Rattle.rules.specs.Texts.{fair_attribute, fair_attributes, pieces}
use Rattle.rules.specs.Catalogues.{Facts}
use Rattle.rules.specs.Grounds.{rows, row_of, occurs, Standing, NamesFault, refused, missing, ValuesFault, not_admitted, not_in_catalogue}
use Rattle.rules.specs.declared.grounds.Fault.{Fault}
use Rattle.rules.specs.declared.schema.Node.{Node}
use Rattle.theory.proofs.Lists.{nil_cons, cons_head, cons_tail, among_nil, among_cons, Each, each_map, each_among}
use Rattle.theory.proofs.Bytes.{same_is, same_refl, same_not}
use Rattle.theory.proofs.SchemaLaws.{rows_distinct}
use Rattle.theory.proofs.Pieces.{bytes_pieces}
use Rattle.theory.proofs.ReadBack.{has, distinct, other_name}
use Rattle.theory.proofs.LawfulNodes.{InCatalogue, SlotOk, Clean}

-- the slots of rows keep the rules, one by one
abbrev pub SlotsOk : Facts → List Row → List (Option (List ℕ)) → Type 0
SlotsOk facts [] [] = Unit {0}
SlotsOk facts [] (o ∷ s) = ⊥
SlotsOk facts (r ∷ rs) [] = ⊥
SlotsOk facts (r ∷ rs) (o ∷ s) = SlotOk facts r o × SlotsOk facts rs s

-- what holds of each attribute of a fair tag
abbrev Fine : Facts → List Row → Given → Type 0
Fine facts rs g = (has g.name rs ≡ true) × ((r : Row) → row_of rs g.name ≡ Some r → SlotOk facts r (Some (keep r.kind g.value)))

-- one more row in front changes nothing
fine_more : (facts : Facts) (r : Row) (rs : List Row) (g : Given) → has r.name rs ≡ false → Fine facts rs g → Fine facts (r ∷ rs) g
fine_more facts r rs g h f = (or_right _ _ f.0, λ q e. f.1 q (sym (cond-false (same r.name g.name) _ _ (same_not g.name r.name (other_name g.name r rs f.0 h))) ∙ e))

-- the first row's own attribute is fine
fine_here : (facts : Facts) (r : Row) (rs : List Row) (i : ℕ) (x : List ℕ) → SlotOk facts r (Some x) → Fine facts (r ∷ rs) (given i (fair_attribute r.name x))
fine_here facts r rs i x h = (
  or_left _ _ (same_refl r.name),
  λ q e.
      let o : Some r ≡ Some q = sym (cond-true (same r.name r.name) _ _ (same_refl r.name)) ∙ e in
      let w : r ≡ q = cc in
      let v : keep r.kind (pieces_bytes (pieces x)) ≡ x = ap (keep r.kind) (bytes_pieces x) ∙ h.2 in
      subst (λ (y : Row). SlotOk facts y (Some (keep y.kind (pieces_bytes (pieces x))))) w (subst (λ y. SlotOk facts r (Some y)) (sym v) h),
)

-- each attribute of a fair tag is fine
each_fine : (facts : Facts) (rs : List Row) (t : List (Option (List ℕ))) (i : ℕ) → distinct rs ≡ true → SlotsOk facts rs t → Each (Fine facts rs) (givens i (fair_attributes rs t))
each_fine facts [] t i d h = tt
each_fine facts (r ∷ rs) [] i d h = tt
each_fine facts (r ∷ rs) (None ∷ t) i d h =
    let (d₁, d₂) = and_parts (not (has r.name rs)) _ d in
    each_map (Fine facts rs) (Fine facts (r ∷ rs)) (λ g. fine_more facts r rs g (not-true _ d₁)) _ (each_fine facts rs t i d₂ h.1)
each_fine facts (r ∷ rs) (Some x ∷ t) i d h =
    let (d₁, d₂) = and_parts (not (has r.name rs)) _ d in
    (fine_here facts r rs i x h.0, each_map (Fine facts rs) (Fine facts (r ∷ rs)) (λ g. fine_more facts r rs g (not-true _ d₁)) _ (each_fine facts rs t (i + length (attribute_text (fair_attribute r.name x))) d₂ h.1))

-- a name that a row has is found
has_row : (n : List ℕ) (rs : List Row) → has n rs ≡ true → row_of rs n ≡ None → ⊥
has_row n [] h e = false≢true h
has_row n (r ∷ rs) h e =
    ⊎_elim
    (λ s. let z : None ≡ Some r = sym e ∙ cond-true (same r.name n) _ _ (ap (λ m. same r.name m) (same_is n r.name s) ∙ same_refl r.name) in let z' : ◌≡◌ {A = ℕ} 0 1 = cc in omega arith)
    (λ s. ⊎_elim (λ s'. let z : None ≡ Some r = sym e ∙ cond-true (same r.name n) _ _ s' in let z' : ◌≡◌ {A = ℕ} 0 1 = cc in omega arith) (λ s'. has_row n rs s (sym (cond-false (same r.name n) _ _ s') ∙ e)) (cases_Bool (same r.name n)))
    (or_cases _ _ h)

-- no name comes twice
no_name_twice : (facts : Facts) (rs : List Row) (t : List (Option (List ℕ))) (i : ℕ) → distinct rs ≡ true → SlotsOk facts rs t → (before after : List Given) (g : Given) → givens i (fair_attributes rs t) ≡ before ++ g ∷ after → occurs g.name before ≡ false
no_name_twice facts rs t i d h [] after g e = refl
no_name_twice facts [] t i d h (b ∷ before) after g e = absurd (nil_cons b _ e)
no_name_twice facts (r ∷ rs) [] i d h (b ∷ before) after g e = absurd (nil_cons b _ e)
no_name_twice facts (r ∷ rs) (None ∷ t) i d h (b ∷ before) after g e = no_name_twice facts rs t i (and_parts (not (has r.name rs)) _ d).1 h.1 (b ∷ before) after g e
no_name_twice facts (r ∷ rs) (Some x ∷ t) i d h (b ∷ before) after g e =
    let (d₁, d₂) = and_parts (not (has r.name rs)) _ d in
    let j : ℕ = i + length (attribute_text (fair_attribute r.name x)) in
    let f : givens j (fair_attributes rs t) ≡ before ++ g ∷ after = cons_tail e in
    let n : r.name ≡ b.name = ap (λ (y : Given). y.name) (cons_head e) in
    let k = (each_among (Fine facts rs) _ g (each_fine facts rs t j d₂ h.1) (before, after, f)).0 in
    or_from _ _ (ap (same g.name) (sym n) ∙ other_name g.name r rs k (not-true _ d₁)) (no_name_twice facts rs t j d₂ h.1 before after g f)

-- what is required is there
required_there : (facts : Facts) (rs : List Row) (t : List (Option (List ℕ))) (i : ℕ) → SlotsOk facts rs t → (r : Row) → Among r rs → r.required ≡ true → occurs r.name (givens i (fair_attributes rs t)) ≡ true
required_there facts [] t i h r a q = absurd (among_nil r a)
required_there facts (y ∷ rs) [] i h r a q = absurd h
required_there facts (y ∷ rs) (None ∷ t) i h r a q =
    elim (among_cons y rs r a) [
      | inl e ↦ absurd (both_ways y.required h.0 (ap (λ (w : Row). w.required) e ∙ q))
      | inr b ↦ required_there facts rs t i h.1 r b q
    ]
required_there facts (y ∷ rs) (Some x ∷ t) i h r a q =
    elim (among_cons y rs r a) [
      | inl e ↦ or_left _ _ (ap (λ (w : Row). same r.name w.name) e ∙ same_refl r.name)
      | inr b ↦ or_right _ _ (required_there facts rs t (i + length (attribute_text (fair_attribute y.name x))) h.1 r b q)
    ]

module _ (facts : Facts) (k : Node) (t : List (Option (List ℕ))) (h : SlotsOk facts (rows k) t) (at i : ℕ) where
  -- a node of the fair copy
  abbrev stand : Standing
  stand = record { kind = k; at = at; givens = givens i (fair_attributes (rows k) t) }

  no_names : (s : Standing) → s ≡ stand → (f : Fault) → NamesFault s f → ⊥
  no_names s e f (refused g before after l w) =
      let l' : givens i (fair_attributes (rows k) t) ≡ before ++ g ∷ after = ap (λ (y : Standing). y.givens) (sym e) ∙ l in
      ⊎_elim
      (λ n. has_row g.name (rows k) (each_among (Fine facts (rows k)) _ g (each_fine facts (rows k) t i (rows_distinct k) h) (before, after, l')).0 (ap (λ (y : Standing). row_of (rows y.kind) g.name) (sym e) ∙ n))
      (λ o. both_ways _ (no_name_twice facts (rows k) t i (rows_distinct k) h before after g l') o) w
  no_names s e f (missing r a q o) =
      both_ways _ o (ap (λ (y : Standing). occurs r.name y.givens) e ∙ required_there facts (rows k) t i h r (a.0, a.1, ap (λ (y : Standing). rows y.kind) (sym e) ∙ a.2) q)

  no_values : (s : Standing) → s ≡ stand → (f : Fault) → ValuesFault facts s f → ⊥
  no_values s e f (not_admitted g r a o n) =
      let l = ap (λ (y : Standing). y.givens) (sym e) ∙ a.2 in
      both_ways _ n ((each_among (Fine facts (rows k)) _ g (each_fine facts (rows k) t i (rows_distinct k) h) (a.0, a.1, l)).1 r (ap (λ (y : Standing). row_of (rows y.kind) g.name) (sym e) ∙ o)).0
  no_values s e f (not_in_catalogue g r c a o u q n) =
      let l = ap (λ (y : Standing). y.givens) (sym e) ∙ a.2 in
      let w = ((each_among (Fine facts (rows k)) _ g (each_fine facts (rows k) t i (rows_distinct k) h) (a.0, a.1, l)).1 r (ap (λ (y : Standing). row_of (rows y.kind) g.name) (sym e) ∙ o)).1 in
      subst (λ x. InCatalogue facts x (keep r.kind g.value)) q w n

  -- a fair tag whose slots keep the rules has no fault of names or values
  pub clean_rows : Clean facts stand
  clean_rows = (no_names stand refl, no_values stand refl)
