-- What the slots hold after the attributes so far.
use Rattle.std.proofs.Common.{◌≡◌, ℕ, zero, suc, ◌+◌, ◌<◌, ◌≤◌, Bool, true, false, cond, not, ◌&&◌, ◌||◌, ◌≢◌, List, [], ◌∷◌, ◌++◌, length, get_or, drop, set, replicate, is_some, Some, None, Option, sym, refl, ap, ◌∙◌, subst, inl, inr, append_assoc, append-nil, add-zero, zero-add, arith, length-set}
use Rattle.std.proofs.lemmas.List.{get_or-set_same, get_or-set_other}
use Rattle.std.proofs.lemmas.Bool.{cond-true, cond-false, and_parts, not-true, both_ways, or_parts, cases_Bool}
use Rattle.rules.specs.Bytes.{same, all, blank}
use Rattle.rules.specs.Kinds.{keep}
use Rattle.rules.specs.Schema.{Row}
use Rattle.rules.specs.Markup.{Attribute, attribute_ok, attribute_text, some, name_ok, piece_ok}
use Rattle.rules.specs.Located.{Given, given, givens}
use Rattle.rules.specs.Values.{kept_of}
use Rattle.rules.specs.Grounds.{occurs}
use Rattle.rules.specs.Kept.{resolved}
use Rattle.theory.specs.On.{attribute_on, attributes_on}
use Rattle.theory.proofs.Resolved.{resolved_pieces}
use Rattle.theory.proofs.SchemaLaws.{has_by, distinct_by, row_name}
use Rattle.theory.proofs.Unique.{attribute_on_is}
use Rattle.tags.specs.Spans.{value_span}
use Rattle.tags.specs.declared.attributes.Span.{Span}
use Rattle.tags.proofs.Fronts.{past}
use Rattle.tags.proofs.Parts.{value_part, value_within}
use Rattle.reader.specs.Names.{row_at, with_span, filled}
use Rattle.reader.specs.Slots.{given_as, Shows, Shown, kept_in, Filled}
use Rattle.reader.proofs.Steps.{same_decides}

-- the names of the rows
abbrev pub names_in : List Row → List (List ℕ)
names_in [] = []
names_in (r ∷ rs) = r.name ∷ names_in rs

-- the row that is found has the name
row_sound : (rs : List Row) (i : ℕ) (n : List ℕ) (j : ℕ) → row_at rs i n ≡ Some j → (m : ℕ) × (j ≡ i + m) × (m < length rs) × (get_or (names_in rs) m [] ≡ n)
row_sound [] i n j e = absurd (let z : ◌≡◌ {A = ℕ} 0 1 = cc in omega arith)
row_sound (r ∷ rs) i n j e =
    elim (cases_Bool (same r.name n)) [
      | inl s ↦ let f = sym (cond-true _ _ _ s) ∙ e in let q : i ≡ j = cc in (0, omega arith, omega arith, (same_decides r.name n).0 s)
      | inr s ↦ let (m, p, l, q) = row_sound rs (i + 1) n j (sym (cond-false _ _ _ s) ∙ e) in (suc m, omega arith, omega arith, q)
    ]

pub at_name : (rs : List Row) (n : List ℕ) (j : ℕ) → row_at rs 0 n ≡ Some j → (j < length rs) × (get_or (names_in rs) j [] ≡ n)
at_name rs n j e = let (m, p, l, q) = row_sound rs 0 n j e in let z : m ≡ j = omega arith in (omega arith, ap (λ x. get_or (names_in rs) x []) (sym z) ∙ q)

absent_at : (n : List ℕ) (rs : List Row) (m : ℕ) → m < length rs → has_by row_name n rs ≡ false → same n (get_or (names_in rs) m []) ≡ false
absent_at n [] m l h = absurd (omega arith)
absent_at n (r ∷ rs) zero l h = (or_parts (same n r.name) _ h).0
absent_at n (r ∷ rs) (suc m) l h = absent_at n rs m (omega arith) (or_parts (same n r.name) _ h).1

-- a row is found by its name
row_found : (rs : List Row) (i m : ℕ) → distinct_by row_name rs ≡ true → m < length rs → row_at rs i (get_or (names_in rs) m []) ≡ Some (i + m)
row_found [] i m d l = absurd (omega arith)
row_found (r ∷ rs) i zero d l = cond-true _ _ _ ((same_decides r.name r.name).1 refl) ∙ ap Some (sym (add-zero i))
row_found (r ∷ rs) i (suc m) d l =
    let (u, v) = and_parts (not (has_by row_name r.name rs)) (distinct_by row_name rs) d in
    let q : i + 1 + m ≡ i + suc m = omega arith in
    cond-false _ _ _ (absent_at r.name rs m (omega arith) (not-true _ u)) ∙ row_found rs (i + 1) m v (omega arith) ∙ ap Some q

only_row : (rs : List Row) → distinct_by row_name rs ≡ true → (n : List ℕ) (m : ℕ) → m < length rs → same (get_or (names_in rs) m []) n ≡ true → row_at rs 0 n ≡ Some m
only_row rs apart n m l s = ap (row_at rs 0) (sym ((same_decides (get_or (names_in rs) m []) n).0 s)) ∙ row_found rs 0 m apart l ∙ ap Some (zero-add m)

-- one attribute more
abbrev or_given : Option Given → Option Given → Option Given
or_given None o = o
or_given (Some g) o = Some g

given_push : (n : List ℕ) (gs : List Given) (g : Given) → given_as n (gs ++ g ∷ []) ≡ or_given (given_as n gs) (cond (same n g.name) (Some g) None)
given_push n [] g = refl
given_push n (x ∷ xs) g =
    elim (cases_Bool (same n x.name)) [
      | inl s ↦ cond-true _ _ _ s ∙ sym (ap (λ o. or_given o (cond (same n g.name) (Some g) None)) (cond-true _ _ _ s))
      | inr s ↦ cond-false _ _ _ s ∙ given_push n xs g ∙ sym (ap (λ o. or_given o (cond (same n g.name) (Some g) None)) (cond-false _ _ _ s))
    ]

given_other : (n : List ℕ) (gs : List Given) (g : Given) → same n g.name ≡ false → given_as n (gs ++ g ∷ []) ≡ given_as n gs
given_other n gs g s = given_push n gs g ∙ ap (or_given (given_as n gs)) (cond-false _ _ _ s) ∙ last (given_as n gs)
  where
    last : (o : Option Given) → or_given o None ≡ o
    last None = refl
    last (Some x) = refl

given_again : (n : List ℕ) (gs : List Given) (g : Given) → is_some (given_as n gs) ≡ true → given_as n (gs ++ g ∷ []) ≡ given_as n gs
given_again n gs g h = given_push n gs g ∙ first (given_as n gs) _ h
  where
    first : (o p : Option Given) → is_some o ≡ true → or_given o p ≡ o
    first None p h = absurd (let z : ◌≡◌ {A = Bool} false true = h in both_ways false refl z)
    first (Some x) p h = refl

given_first : (n : List ℕ) (gs : List Given) (g : Given) → is_some (given_as n gs) ≡ false → same n g.name ≡ true → given_as n (gs ++ g ∷ []) ≡ Some g
given_first n gs g h s = given_push n gs g ∙ first (given_as n gs) _ h ∙ cond-true _ _ _ s
  where
    first : (o p : Option Given) → is_some o ≡ false → or_given o p ≡ p
    first None p h = refl
    first (Some x) p h = absurd (both_ways true h refl)

pub given_occurs : (n : List ℕ) (gs : List Given) → is_some (given_as n gs) ≡ occurs n gs
given_occurs n [] = refl
given_occurs n (g ∷ gs) =
    elim (cases_Bool (same n g.name)) [
      | inl s ↦ ap is_some (cond-true _ _ _ s) ∙ sym (ap (λ b. b || occurs n gs) s)
      | inr s ↦ ap is_some (cond-false _ _ _ s) ∙ given_occurs n gs ∙ sym (ap (λ b. b || occurs n gs) s)
    ]

shown_same : (d : List ℕ) (o : Option Given) (s : Option Span) → Shown d o s → is_some s ≡ is_some o
shown_same d None None h = refl
shown_same d None (Some s) h = absurd h
shown_same d (Some g) None h = absurd h
shown_same d (Some g) (Some s) h = refl

-- the slots hold the attributes so far
pub record Seen (d : List ℕ) (rs : List Row) (s : List (Option Span)) (gs : List Given) : Type 0 where
  pub long : length s ≡ 22
  pub shown : (m : ℕ) → m < length rs → Shown d (given_as (get_or (names_in rs) m []) gs) (get_or s m None)
  pub free : (m : ℕ) → length rs ≤ m → get_or s m None ≡ None

pub seen_occurs : (d : List ℕ) (rs : List Row) (s : List (Option Span)) (gs : List Given) → Seen d rs s gs → (m : ℕ) → m < length rs → is_some (get_or s m None) ≡ occurs (get_or (names_in rs) m []) gs
seen_occurs d rs s gs h m l = shown_same d _ _ (h.shown m l) ∙ given_occurs (get_or (names_in rs) m []) gs

module _ (d : List ℕ) (rs : List Row) (apart : distinct_by row_name rs ≡ true) (few : length rs ≤ 22) where
  pub seen_more : (s : List (Option Span)) (gs : List Given) (g : Given) (v : Span) → Shows d g v → Seen d rs s gs → Seen d rs (with_span (row_at rs 0 g.name) s v) (gs ++ g ∷ [])
  seen_more s gs g v x h = go (row_at rs 0 g.name) refl
    where
      name : ℕ → List ℕ
      name m = get_or (names_in rs) m []

      -- another row: nothing changes there
      other : (m : ℕ) → m < length rs → same (name m) g.name ≡ false → Shown d (given_as (name m) (gs ++ g ∷ [])) (get_or s m None)
      other m l e = subst (λ o. Shown d o (get_or s m None)) (sym (given_other (name m) gs g e)) (h.shown m l)

      go : (o : Option ℕ) → row_at rs 0 g.name ≡ o → Seen d rs (with_span o s v) (gs ++ g ∷ [])
      go None e = record {
        long = h.long;
        shown = λ m l. elim (cases_Bool (same (name m) g.name)) [
          | inl y ↦ let f = sym e ∙ only_row rs apart g.name m l y in absurd (let z : ◌≡◌ {A = ℕ} 0 1 = cc in omega arith)
          | inr y ↦ other m l y
        ];
        free = h.free;
      }
      go (Some j) e = elim (cases_Bool (is_some (get_or s j None))) [
        | inl t ↦ subst (λ y. Seen d rs y (gs ++ g ∷ [])) (sym (cond-true _ _ _ t)) (record {
          long = h.long;
          shown = λ m l. elim (cases_Bool (same (name m) g.name)) [
            | inl y ↦
                let f = sym e ∙ only_row rs apart g.name m l y in
                let q : j ≡ m = cc in
                let u : is_some (given_as (name m) gs) ≡ true = sym (shown_same d _ _ (h.shown m l)) ∙ ap (λ y. is_some (get_or s y None)) (sym q) ∙ t in
                subst (λ o. Shown d o (get_or s m None)) (sym (given_again (name m) gs g u)) (h.shown m l)
            | inr y ↦ other m l y
          ];
          free = h.free;
        })
        | inr t ↦ subst (λ y. Seen d rs y (gs ++ g ∷ [])) (sym (cond-false _ _ _ t)) (record {
          long = length-set s j (Some v) ∙ h.long;
          shown = λ m l. elim (cases_Bool (same (name m) g.name)) [
            | inl y ↦
                let f = sym e ∙ only_row rs apart g.name m l y in
                let q : j ≡ m = cc in
                let w : m < length s = omega (arith, h.long) in
                let u : is_some (given_as (name m) gs) ≡ false = sym (shown_same d _ _ (h.shown m l)) ∙ ap (λ y. is_some (get_or s y None)) (sym q) ∙ t in
                let p : get_or (set s j (Some v)) m None ≡ Some v = ap (λ y. get_or (set s y (Some v)) m None) q ∙ get_or-set_same s m (Some v) None w in
                subst (λ o. Shown d o (get_or (set s j (Some v)) m None)) (sym (given_first (name m) gs g u y)) (subst (λ o. Shown d (Some g) o) (sym p) x)
            | inr y ↦
                let ne : m ≢ j = λ q. both_ways _ y ((same_decides (name m) g.name).1 (ap name q ∙ (at_name rs g.name j e).1)) in
                subst (λ o. Shown d (given_as (name m) (gs ++ g ∷ [])) o) (sym (get_or-set_other s j m (Some v) None ne)) (other m l y)
          ];
          free = λ m l. let ne : m ≢ j = λ q. absurd (omega (arith, (at_name rs g.name j e).0)) in get_or-set_other s j m (Some v) None ne ∙ h.free m l;
        })
      ]

-- the value of an attribute in the document
pub shows : (d : List ℕ) (i : ℕ) (a : Attribute) (rest : List ℕ) → attribute_ok a ≡ true → drop i d ≡ attribute_on a rest → Shows d (given i a) (value_span i a)
shows d i a rest ok e =
    let o₁ = (and_parts (some a.before && all blank a.before) _ ok).1 in
    let o₂ = (and_parts (name_ok a.name) _ o₁).1 in
    let o₃ = (and_parts (all blank a.left) _ o₂).1 in
    let v = (and_parts (all blank a.right) (all piece_ok a.value) o₃).1 in
    record { begins = refl; ordered = omega arith; within = value_within d i a rest e; reads = ap resolved (value_part d i a rest e) ∙ resolved_pieces a.value v }

-- what is left after an attribute
pub next : (d : List ℕ) (i : ℕ) (a : Attribute) (rest : List ℕ) → drop i d ≡ attribute_on a rest → drop (i + length (attribute_text a)) d ≡ rest
next d i a rest e = past d (attribute_text a) rest i (e ∙ sym (attribute_on_is a rest))

-- after all of them
pub seen_all : (d : List ℕ) (rs : List Row) → distinct_by row_name rs ≡ true → length rs ≤ 22 → (l : List Attribute) (s : List (Option Span)) (i : ℕ) (gs : List Given) (rest : List ℕ) → all attribute_ok l ≡ true → drop i d ≡ attributes_on l rest → Seen d rs s gs →
    Seen d rs (filled rs s i l) (gs ++ givens i l)
seen_all d rs apart few [] s i gs rest h e k = subst (λ x. Seen d rs s x) (sym (append-nil gs)) k
seen_all d rs apart few (a ∷ l) s i gs rest h e k =
    let (u, v) = and_parts _ _ h in
    subst (λ x. Seen d rs (filled rs s i (a ∷ l)) x) (append_assoc gs (given i a ∷ []) (givens (i + length (attribute_text a)) l))
    (seen_all d rs apart few l _ (i + length (attribute_text a)) (gs ++ given i a ∷ []) rest v (next d i a _ e) (seen_more d rs apart few s gs (given i a) (value_span i a) (shows d i a _ u e) k))

nothing_yet : (n m : ℕ) → ◌≡◌ {A = Option Span} (get_or (replicate n None) m None) None
nothing_yet zero m = refl
nothing_yet (suc n) zero = refl
nothing_yet (suc n) (suc m) = nothing_yet n m

pub seen_none : (d : List ℕ) (rs : List Row) → Seen d rs (replicate 22 None) []
seen_none d rs = record { long = refl; shown = λ m l. subst (λ o. Shown d None o) (sym (nothing_yet 22 m)) tt; free = λ m l. nothing_yet 22 m }

-- the kept form that a slot gives
abbrev keep_of : Row → Option Given → Option (List ℕ)
keep_of r None = None
keep_of r (Some g) = Some (keep r.kind g.value)

kept_given : (r : Row) (gs : List Given) → kept_of r gs ≡ keep_of r (given_as r.name gs)
kept_given r [] = refl
kept_given r (g ∷ gs) =
    elim (cases_Bool (same r.name g.name)) [
      | inl s ↦ cond-true _ _ _ s ∙ sym (ap (keep_of r) (cond-true _ _ _ s))
      | inr s ↦ cond-false _ _ _ s ∙ kept_given r gs ∙ sym (ap (keep_of r) (cond-false _ _ _ s))
    ]

kept_shown : (d : List ℕ) (r : Row) (o : Option Given) (s : Option Span) → Shown d o s → keep_of r o ≡ kept_in d r.kind s
kept_shown d r None None h = refl
kept_shown d r None (Some s) h = absurd h
kept_shown d r (Some g) None h = absurd h
kept_shown d r (Some g) (Some s) h = ap (λ v. Some (keep r.kind v)) (sym h.reads)

pub seen_filled : (d : List ℕ) (rs : List Row) (gs : List Given) (s : List (Option Span)) → length rs ≤ length s →
    ((m : ℕ) → m < length rs → Shown d (given_as (get_or (names_in rs) m []) gs) (get_or s m None)) → ((m : ℕ) → length rs ≤ m → get_or s m None ≡ None) → Filled d rs gs s
seen_filled d [] gs [] l h f = tt
seen_filled d [] gs (x ∷ s) l h f = (f 0 (omega arith), seen_filled d [] gs s (omega arith) (λ m k. absurd (omega arith)) (λ m k. f (suc m) (omega arith)))
seen_filled d (r ∷ rs) gs [] l h f = absurd (omega arith)
seen_filled d (r ∷ rs) gs (x ∷ s) l h f = (
  record { shown = h 0 (omega arith); kept = kept_given r gs ∙ kept_shown d r (given_as r.name gs) x (h 0 (omega arith)) },
  seen_filled d rs gs s (omega arith) (λ m k. h (suc m) (omega arith)) (λ m k. f (suc m) (omega arith)),
)
