-- Steps through the rows of a node's attributes.
use Rattle.std.proofs.Common.{◌≡◌, ℕ, suc, ◌+◌, ◌≤◌, Bool, cond, not, ◌&&◌, ◌||◌, leb, List, [], ◌∷◌, map, length, get_or, drop, is_some, Some, None, Option, sym, refl, ap, ◌∙◌, inl, inr, zero-add, arith, ◌<◌, true, false, ◌⊎◌, Decides, ⊎_elim}
use lib.ListN.{length-map}
use lib.Dec.{ltb}
use Rattle.std.specs.List.{position_or_len, list_any, zip}
use Rattle.std.proofs.lemmas.Grind.{common_steps}
use Rattle.std.proofs.lemmas.List.{drop_more, drop_all, drop-map}
use Rattle.std.proofs.lemmas.Bool.{leb-true, cases_Bool, cond-true, cond-false, or_left, and_from, and_left, and_right, not_from_false, not_from_true}
use Rattle.std.specs.Str.{bytes_eq}
use Rattle.std.proofs.lemmas.Slice.Eq.{slice_eq-Decides}
use Rattle.std.proofs.lemmas.Bool.Decides.{Decides-eqb}
use Rattle.rules.specs.Bytes.{same}
use Rattle.reader.proofs.Steps.{same_from}
use Rattle.rules.specs.Grounds.{rows}
use Rattle.rules.specs.declared.schema.Node.{Node}
use Rattle.theory.proofs.SchemaLaws.{at_node}
use Rattle.schema.specs.Meant.{row_meant}
use Rattle.schema.specs.declared.attributes.Row.{Row}
use Rattle.reader.specs.Names.{row_at, lacks}
use Rattle.tags.specs.declared.attributes.Span.{Span}

-- no node has more rows than there are slots
pub few : (k : Node) → length (rows k) ≤ 22
few k = leb-true (length (rows k)) 22 (at_node (λ j. leb (length (rows j)) 22) refl k)

-- as the code has them
pub few_rows : (k : Node) (rs : List Row) → map row_meant rs ≡ rows k → length rs ≤ 22
few_rows k rs e = omega (arith, few k, ap length e, length-map rs row_meant)

-- whether a row has a name, as the code compares it
abbrev pub has_name : List ℕ → Row → Bool
has_name n r = bytes_eq r.name.now n

same_bytes : (xs ys : List ℕ) → same xs ys ≡ bytes_eq xs ys
same_bytes xs ys = same_from xs ys (bytes_eq xs ys) (slice_eq-Decides Decides-eqb xs ys (bytes_eq xs ys) refl)

-- the place of the row that has a name, counted from i
row_found : (i m l : ℕ) → cond (ltb (1 + m) (suc l)) (Some (i + (1 + m))) None ≡ cond (ltb m l) (Some (i + 1 + m)) None
row_found i m l = grind (arith, common_steps)

row_at-position : (rs : List Row) (i : ℕ) (n : List ℕ) →
    row_at (map row_meant rs) i n ≡ cond (ltb (position_or_len (has_name n) rs) (length rs)) (Some (i + position_or_len (has_name n) rs)) None
row_at-position [] i n = refl
row_at-position (r ∷ rs) i n = elim (cases_Bool (has_name n r)) [
  | inl s ↦ rw (same_bytes r.name.now n) (grind (arith, common_steps, s))
  | inr s ↦ rw (same_bytes r.name.now n, s) (row_at-position rs (i + 1) n ∙ sym (row_found i (position_or_len (has_name n) rs) (length rs)))
]

pub row_at-first : (rs : List Row) (n : List ℕ) →
    row_at (map row_meant rs) 0 n ≡ cond (ltb (position_or_len (has_name n) rs) (length rs)) (Some (position_or_len (has_name n) rs)) None
row_at-first rs n = row_at-position rs 0 n ∙ ap (λ k. cond (ltb (position_or_len (has_name n) rs) (length rs)) (Some k) None) (zero-add (position_or_len (has_name n) rs))

-- whether a row, with its slot, lacks its value
abbrev pub lacks_value : Row × Option Span → Bool
lacks_value p = p.0.required && not (is_some p.1)

lacks_from : (rs : List Row) (i : ℕ) (s : List (Option Span)) → i + length rs ≤ length s → list_any lacks_value (zip rs (drop i s)) ≡ lacks (map row_meant rs) i s
lacks_from [] i s h = refl
lacks_from (r ∷ rs) i s h =
    ap (λ l. list_any lacks_value (zip (r ∷ rs) l)) (drop_more s i None (omega arith))
    ∙ ap (λ b. (r.required && not (is_some (get_or s i None))) || b) (lacks_from rs (i + 1) s (omega arith))

pub lacks-any : (rs : List Row) (s : List (Option Span)) → length rs ≤ length s → list_any lacks_value (zip rs s) ≡ lacks (map row_meant rs) 0 s
lacks-any rs s h = lacks_from rs 0 s (omega arith)

-- the row i, and those that follow it
module _ (rs : List Row) (i : ℕ) (z : Row) (within : i < length rs) where
  at_row : drop i (map row_meant rs) ≡ row_meant (get_or rs i z) ∷ drop (i + 1) (map row_meant rs)
  at_row = drop-map row_meant i rs ∙ ap (map row_meant) (drop_more rs i z within) ∙ ap (λ x. row_meant (get_or rs i z) ∷ x) (sym (drop-map row_meant (i + 1) rs))

  -- its name has been compared with another
  module _ (n : List ℕ) (r : Bool) (eq : Decides r ((get_or rs i z).name.now ≡ n)) where
    pub here : r ≡ true → row_at (drop i (map row_meant rs)) i n ≡ Some i
    here h = ap (λ x. row_at x i n) at_row ∙ cond-true _ _ _ (same_from _ n r eq ∙ h)

    pub beyond : r ≡ false → row_at (drop i (map row_meant rs)) i n ≡ row_at (drop (i + 1) (map row_meant rs)) (i + 1) n
    beyond h = ap (λ x. row_at x i n) at_row ∙ cond-false _ _ _ (same_from _ n r eq ∙ h)

no_rows : (rs : List Row) (i : ℕ) → length rs ≤ i → drop i (map row_meant rs) ≡ []
no_rows rs i h = drop-map row_meant i rs ∙ ap (map row_meant) (drop_all i rs h)

pub nowhere : (rs : List Row) (i : ℕ) (n : List ℕ) → length rs ≤ i → row_at (drop i (map row_meant rs)) i n ≡ None
nowhere rs i n h = ap (λ x. row_at x i n) (no_rows rs i h)

-- whether the row i lacks its value
module _ (rs : List Row) (s : List (Option Span)) (i : ℕ) (z : Row) (within : i < length rs) where
  pub lacks_here : (get_or rs i z).required ≡ true → is_some (get_or s i None) ≡ false → lacks (drop i (map row_meant rs)) i s ≡ true
  lacks_here h k = ap (λ x. lacks x i s) (at_row rs i z within) ∙ or_left _ _ (and_from _ _ h (not_from_false _ k))

  pub lacks_later : ((get_or rs i z).required ≡ false) ⊎ (is_some (get_or s i None) ≡ true) → lacks (drop i (map row_meant rs)) i s ≡ lacks (drop (i + 1) (map row_meant rs)) (i + 1) s
  lacks_later h =
      ap (λ x. lacks x i s) (at_row rs i z within)
      ∙ ap (λ b. b || lacks (drop (i + 1) (map row_meant rs)) (i + 1) s) (⊎_elim (and_left _ _) (λ k. and_right (get_or rs i z).required _ (not_from_true _ k)) h)

pub lacks_none : (rs : List Row) (s : List (Option Span)) (i : ℕ) → length rs ≤ i → lacks (drop i (map row_meant rs)) i s ≡ false
lacks_none rs s i h = ap (λ x. lacks x i s) (no_rows rs i h)
