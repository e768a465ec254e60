-- The pass over one tag finds the first fault of its names.
use Rattle.std.proofs.Common.{◌≡◌, ℕ, suc, ◌+◌, ◌<◌, ◌≤◌, Bool, true, false, cond, not, ◌&&◌, ◌⊎◌, List, [], ◌∷◌, ◌++◌, length, get_or, drop, replicate, is_some, Some, None, Option, sym, refl, ap, ◌∙◌, subst, inl, inr, append_assoc, append-nil, zero-add, arith}
use Rattle.std.proofs.lemmas.Bool.{cond-true, cond-false, and_parts, not-true, both_ways, ne_eqb, eq-eqb, le-leb, or_cases, or_parts, cases_Bool, cases_eq}
use Rattle.rules.specs.Bytes.{same, all, Among}
use Rattle.rules.specs.Schema.{Row}
use Rattle.rules.specs.Markup.{Attribute, attribute_ok, attribute_text}
use Rattle.rules.specs.Located.{Given, given, givens}
use Rattle.rules.specs.Grounds.{rows, row_of, occurs, NamesFault, refused, missing}
use Rattle.rules.specs.Faults.{rank, not_after, Judgement}
use Rattle.rules.specs.declared.grounds.Fault.{Fault}
use Rattle.rules.specs.declared.grounds.Fault.TheVariants.{AttributeRefused, AttributeMissing}
use Rattle.rules.specs.declared.schema.Node.{Node}
use Rattle.theory.specs.On.{attributes_on}
use Rattle.theory.proofs.SchemaLaws.{distinct_by, row_name, rows_distinct}
use Rattle.tags.specs.Spans.{name_span, value_span}
use Rattle.tags.specs.declared.attributes.Span.{Span}
use Rattle.tags.proofs.Parts.{attribute_length}
use Rattle.reader.specs.Names.{row_at, taken, with_span, filled, refusal, lacks, refusing}
use Rattle.reader.specs.Slots.{standing_of, Filled}
use Rattle.reader.proofs.NameRows.{few}
use Rattle.reader.proofs.Slotted.{names_in, at_name, Seen, seen_occurs, seen_more, shows, next, seen_all, seen_none, seen_filled}

unknown_row : (rs : List Row) (i : ℕ) (n : List ℕ) → row_at rs i n ≡ None → row_of rs n ≡ None
unknown_row [] i n e = refl
unknown_row (r ∷ rs) i n e =
    elim (cases_Bool (same r.name n)) [
      | inl s ↦ let f = sym (cond-true _ _ _ s) ∙ e in absurd (let z : ◌≡◌ {A = ℕ} 0 1 = cc in omega arith)
      | inr s ↦ cond-false _ _ _ s ∙ unknown_row rs (i + 1) n (sym (cond-false _ _ _ s) ∙ e)
    ]

row_unknown : (rs : List Row) (i : ℕ) (n : List ℕ) → row_of rs n ≡ None → row_at rs i n ≡ None
row_unknown [] i n e = refl
row_unknown (r ∷ rs) i n e =
    elim (cases_Bool (same r.name n)) [
      | inl s ↦ let f = sym (cond-true _ _ _ s) ∙ e in absurd (let z : ◌≡◌ {A = ℕ} 0 1 = cc in omega arith)
      | inr s ↦ cond-false _ _ _ s ∙ row_unknown rs (i + 1) n (sym (cond-false _ _ _ s) ∙ e)
    ]

-- a refused attribute, after those before it
abbrev pub Bad : List Row → List Given → Given → Type 0
Bad rs before g = (row_of rs g.name ≡ None) ⊎ (occurs g.name before ≡ true)

abbrev pub Refuses : List Row → List Given → List Given → Option ℕ → Type 0
Refuses rs gs l None = (g : Given) (before after : List Given) → l ≡ before ++ g ∷ after → Bad rs (gs ++ before) g → ⊥
Refuses rs gs l (Some p) = (g : Given) × (before : List Given) × (after : List Given) × (l ≡ before ++ g ∷ after) × Bad rs (gs ++ before) g × (p ≡ g.name_at)
    × ((g' : Given) (before' after' : List Given) → l ≡ before' ++ g' ∷ after' → Bad rs (gs ++ before') g' → p ≤ g'.name_at)

pub no_split : (before : List Given) (g : Given) (after : List Given) → [] ≡ before ++ g ∷ after → ⊥
no_split [] g after e = let z : ◌≡◌ {A = ℕ} 0 1 = cc in omega arith
no_split (b ∷ bs) g after e = let z : ◌≡◌ {A = ℕ} 0 1 = cc in omega arith

pub cons_split : (x : Given) (xs before : List Given) (g : Given) (after : List Given) → x ∷ xs ≡ before ++ g ∷ after → ((before ≡ []) × (x ≡ g)) ⊎ ((bs : List Given) × (before ≡ x ∷ bs) × (xs ≡ bs ++ g ∷ after))
cons_split x xs [] g after e = inl (refl, cc)
cons_split x xs (y ∷ bs) g after e = let q : y ≡ x = cc in inr (bs, ap (λ z. z ∷ bs) q, cc)

pub names_from : (l : List Attribute) (i : ℕ) (before : List Given) (g : Given) (after : List Given) → givens i l ≡ before ++ g ∷ after → i ≤ g.name_at
names_from [] i before g after e = absurd (no_split before g after e)
names_from (a ∷ l) i before g after e =
    elim (cons_split (given i a) (givens (i + length (attribute_text a)) l) before g after e) [
      | inl x ↦ omega (arith, ap (λ y. y.name_at) x.1)
      | inr x ↦ omega (arith, names_from l (i + length (attribute_text a)) x.0 g after x.2)
    ]

module _ (d : List ℕ) (rs : List Row) (apart : distinct_by row_name rs ≡ true) (few_rows : length rs ≤ 22) where
  bad_taken : (s : List (Option Span)) (gs : List Given) (g : Given) → Seen d rs s gs → (taken (row_at rs 0 g.name) s ≡ true) → Bad rs gs g
  bad_taken s gs g h = go (row_at rs 0 g.name) refl
    where
      go : (o : Option ℕ) → row_at rs 0 g.name ≡ o → taken o s ≡ true → Bad rs gs g
      go None e t = inl (unknown_row rs 0 g.name e)
      go (Some j) e t = let (l, q) = at_name rs g.name j e in inr (ap (λ n. occurs n gs) (sym q) ∙ sym (seen_occurs d rs s gs h j l) ∙ t)

  taken_bad : (s : List (Option Span)) (gs : List Given) (g : Given) → Seen d rs s gs → Bad rs gs g → taken (row_at rs 0 g.name) s ≡ true
  taken_bad s gs g h b = go (row_at rs 0 g.name) refl
    where
      go : (o : Option ℕ) → row_at rs 0 g.name ≡ o → taken o s ≡ true
      go None e = refl
      go (Some j) e =
          let (l, q) = at_name rs g.name j e in
          elim b [
            | inl u ↦ let f = sym e ∙ row_unknown rs 0 g.name u in absurd (let z : ◌≡◌ {A = ℕ} 0 1 = cc in omega arith)
            | inr u ↦ seen_occurs d rs s gs h j l ∙ ap (λ n. occurs n gs) q ∙ u
          ]

  pub first_refused : (l : List Attribute) (s : List (Option Span)) (i : ℕ) (gs : List Given) (z : List ℕ) → all attribute_ok l ≡ true → drop i d ≡ attributes_on l z → Seen d rs s gs → Refuses rs gs (givens i l) (refusal rs s i l)
  first_refused [] s i gs z ok lies h = λ g before after e b. absurd (no_split before g after e)
  first_refused (a ∷ l) s i gs z ok lies h = go (taken (row_at rs 0 a.name) s) refl (first_refused l _ (i + length (attribute_text a)) (gs ++ given i a ∷ []) z (and_parts _ _ ok).1 (next d i a _ lies) (seen_more d rs apart few_rows s gs (given i a) (value_span i a) (shows d i a _ (and_parts _ _ ok).0 lies) h))
    where
      rest : Option ℕ
      rest = refusal rs (with_span (row_at rs 0 a.name) s (value_span i a)) (i + length (attribute_text a)) l

      tail : List Given
      tail = givens (i + length (attribute_text a)) l

      shift : (bs : List Given) (g : Given) → Bad rs (gs ++ given i a ∷ bs) g → Bad rs ((gs ++ given i a ∷ []) ++ bs) g
      shift bs g b = subst (λ x. Bad rs x g) (sym (append_assoc gs (given i a ∷ []) bs)) b

      here : (g : Given) (before : List Given) → before ≡ [] → given i a ≡ g → Bad rs (gs ++ before) g → Bad rs gs (given i a)
      here g before p q b = subst (λ x. Bad rs gs x) (sym q) (subst (λ x. Bad rs x g) (append-nil gs) (subst (λ x. Bad rs (gs ++ x) g) p b))

      go : (b : Bool) → taken (row_at rs 0 a.name) s ≡ b → Refuses rs (gs ++ given i a ∷ []) tail rest → Refuses rs gs (given i a ∷ tail) (cond b (Some (name_span i a).start) rest)
      go true t r = (
        given i a,
        [],
        tail,
        refl,
        subst (λ x. Bad rs x (given i a)) (sym (append-nil gs)) (bad_taken s gs (given i a) h t),
        refl,
        λ g before after e b.
            elim (cons_split (given i a) tail before g after e) [
              | inl x ↦ omega (arith, ap (λ y. y.name_at) x.1)
              | inr x ↦ omega (arith, names_from l (i + length (attribute_text a)) x.0 g after x.2, attribute_length a)
            ],
      )
      go false t r = later rest r
        where
          later : (o : Option ℕ) → Refuses rs (gs ++ given i a ∷ []) tail o → Refuses rs gs (given i a ∷ tail) o
          later None r = λ g before after e b.
              elim (cons_split (given i a) tail before g after e) [
                | inl x ↦ both_ways _ t (taken_bad s gs (given i a) h (here g before x.0 x.1 b))
                | inr x ↦ r g x.0 after x.2 (shift x.0 g (subst (λ y. Bad rs (gs ++ y) g) x.1 b))
              ]
          later (Some p) r =
              let (g₀, b₀, a₀, e₀, h₀, q₀, least) = r in (
                g₀,
                given i a ∷ b₀,
                a₀,
                ap (λ y. given i a ∷ y) e₀,
                subst (λ x. Bad rs x g₀) (append_assoc gs (given i a ∷ []) b₀) h₀,
                q₀,
                λ g before after e b.
                    elim (cons_split (given i a) tail before g after e) [
                      | inl x ↦ absurd (both_ways _ t (taken_bad s gs (given i a) h (here g before x.0 x.1 b)))
                      | inr x ↦ least g x.0 after x.2 (shift x.0 g (subst (λ y. Bad rs (gs ++ y) g) x.1 b))
                    ],
              )

lacks_row : (rs : List Row) (i : ℕ) (s : List (Option Span)) → lacks rs i s ≡ true → (before : List Row) × (r : Row) × (after : List Row) × (rs ≡ before ++ r ∷ after) × (r.required ≡ true) × (is_some (get_or s (i + length before) None) ≡ false)
lacks_row [] i s h = absurd (both_ways false refl h)
lacks_row (r ∷ rs) i s h =
    elim (or_cases (r.required && not (is_some (get_or s i None))) (lacks rs (i + 1) s) h) [
      | inl k ↦ let (u, v) = and_parts _ _ k in let q : i ≡ i + 0 = omega arith in ([], r, rs, refl, u, ap (λ m. is_some (get_or s m None)) (sym q) ∙ not-true _ v)
      | inr k ↦
          let (b, x, a, e, u, v) = lacks_row rs (i + 1) s k in
          let q : i + 1 + length b ≡ i + suc (length b) = omega arith in
          (r ∷ b, x, a, ap (λ y. r ∷ y) e, u, ap (λ m. is_some (get_or s m None)) (sym q) ∙ v)
    ]

lacks_no_row : (rs : List Row) (i : ℕ) (s : List (Option Span)) → lacks rs i s ≡ false → (before after : List Row) (r : Row) → rs ≡ before ++ r ∷ after → r.required ≡ true → is_some (get_or s (i + length before) None) ≡ true
lacks_no_row rs i s h [] after r e u =
    let k = or_parts (r.required && not (is_some (get_or s i None))) (lacks after (i + 1) s) (ap (λ t. lacks t i s) (sym e) ∙ h) in
    let q : i ≡ i + 0 = omega arith in
    elim (cases_Bool (is_some (get_or s (i + 0) None))) [
      | inl v ↦ v
      | inr v ↦ absurd (both_ways (r.required && not (is_some (get_or s i None))) k.0 (ap (λ b. b && not (is_some (get_or s i None))) u ∙ ap not (ap (λ m. is_some (get_or s m None)) q ∙ v)))
    ]
lacks_no_row rs i s h (b ∷ before) after r e u =
    let k = or_parts (b.required && not (is_some (get_or s i None))) (lacks (before ++ r ∷ after) (i + 1) s) (ap (λ t. lacks t i s) (sym e) ∙ h) in
    let q : i + 1 + length before ≡ i + suc (length before) = omega arith in
    ap (λ m. is_some (get_or s m None)) (sym q) ∙ lacks_no_row (before ++ r ∷ after) (i + 1) s k.1 before after r refl u

name_there : (before after : List Row) (r : Row) → get_or (names_in (before ++ r ∷ after)) (length before) [] ≡ r.name
name_there [] after r = refl
name_there (b ∷ before) after r = name_there before after r

row_there : (before after : List Row) (r : Row) → length before < length (before ++ r ∷ after)
row_there [] after r = omega arith
row_there (b ∷ before) after r = omega (arith, row_there before after r)

-- the verdict on one tag, whose attributes l begin at a place of the document
module _ (d : List ℕ) (k : Node) (at : ℕ) (l : List Attribute) (z : List ℕ) (ok : all attribute_ok l ≡ true) (lies : drop at d ≡ attributes_on l z) (s : List (Option Span)) (hs : s ≡ filled (rows k) (replicate 22 None) at l) where
  seen : Seen d (rows k) s (givens at l)
  seen = subst (λ x. Seen d (rows k) x (givens at l)) (sym hs) (seen_all d (rows k) (rows_distinct k) (few k) l (replicate 22 None) at [] z ok lies (seen_none d (rows k)))

  pub slots_filled : Filled d (rows k) (givens at l) s
  slots_filled = seen_filled d (rows k) (givens at l) s (omega (arith, few k, seen.long)) seen.shown seen.free

  -- the slot of a row tells whether its attribute is given
  row_occurs : (before after : List Row) (r : Row) → rows k ≡ before ++ r ∷ after → is_some (get_or s (0 + length before) None) ≡ occurs r.name (givens at l)
  row_occurs before after r e =
      ap (λ m. is_some (get_or s m None)) (zero-add (length before))
      ∙ seen_occurs d (rows k) s (givens at l) seen (length before) (subst (λ t. length before < length t) (sym e) (row_there before after r))
      ∙ ap (λ n. occurs n (givens at l)) (ap (λ t. get_or (names_in t) (length before) []) e ∙ name_there before after r)

  pub judged_names : (i : ℕ) → i < at → (b : Bool) (o : Option ℕ) → o ≡ refusal (rows k) (replicate 22 None) at l → b ≡ lacks (rows k) 0 s →
      Judgement (NamesFault (standing_of k i (givens at l))) (cond b (Some (AttributeMissing i)) (refusing o))
  judged_names i low b o ho hb = go b o (sym hb) (subst (λ x. Refuses (rows k) [] (givens at l) x) (sym ho) (first_refused d (rows k) (rows_distinct k) (few k) l (replicate 22 None) at [] z ok lies (seen_none d (rows k))))
    where
      full : lacks (rows k) 0 s ≡ false → (r : Row) → Among r (rows k) → r.required ≡ true → occurs r.name (givens at l) ≡ true
      full h r (before, after, e) q = sym (row_occurs before after r e) ∙ lacks_no_row (rows k) 0 s h before after r e q

      missing_first : (g : Fault) → NamesFault (standing_of k i (givens at l)) g → not_after (rank (AttributeMissing i)) (rank g) ≡ true
      missing_first g (refused x c a e w) = let h = names_from l at c x a e in cond-false _ _ _ (ne_eqb i x.name_at (λ q. omega arith)) ∙ le-leb i x.name_at (omega arith)
      missing_first g (missing r a q u) = cond-true _ _ _ (eq-eqb i i refl)

      go : (b : Bool) (o : Option ℕ) → lacks (rows k) 0 s ≡ b → Refuses (rows k) [] (givens at l) o → Judgement (NamesFault (standing_of k i (givens at l))) (cond b (Some (AttributeMissing i)) (refusing o))
      go true o h r =
          let (before, row, after, e, u, v) = lacks_row (rows k) 0 s h in
          (missing row (before, after, e) u (sym (row_occurs before after row e) ∙ v), missing_first)
      go false None h r = none
        where
          none : (f : Fault) → NamesFault (standing_of k i (givens at l)) f → ⊥
          none f (refused x c a e w) = r x c a e w
          none f (missing row among q u) = both_ways _ u (full h row among q)
      go false (Some p) h r = (subst (λ x. NamesFault (standing_of k i (givens at l)) (AttributeRefused x)) (sym r.5) (refused r.0 r.1 r.2 r.3 r.4), least)
        where
          least : (f : Fault) → NamesFault (standing_of k i (givens at l)) f → not_after (rank (AttributeRefused p)) (rank f) ≡ true
          least f (refused x c a e w) = elim (cases_eq p x.name_at) [
            | inl q ↦ cond-true _ _ _ (eq-eqb p x.name_at q)
            | inr q ↦ cond-false _ _ _ (ne_eqb p x.name_at q) ∙ le-leb p x.name_at (r.6 x c a e w)
          ]
          least f (missing row among q u) = absurd (both_ways _ u (full h row among q))
