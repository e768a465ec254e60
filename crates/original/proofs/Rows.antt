-- The fields of a node's rows, each with its slot.
use Rattle.std.proofs.Common.{◌≡◌, ℕ, ◌+◌, ◌<◌, zero, suc, List, [], ◌∷◌, ◌++◌, map, length, get_or, take, drop, Some, None, Option, Bor, sym, refl, ap, ◌∙◌, append_assoc, ◌≤◌, Bool, true, false, ⊎_elim, arith}
use Rattle.std.specs.List.{zip}
use Rattle.std.proofs.lemmas.List.{drop_more, drop-map, drop_at, take-append-drop, drop_all, get_or_past}
use Rattle.rules.specs.Located.{Given}
use Rattle.rules.specs.Schema.{Row, attributes, namespaces}
use Rattle.rules.specs.Values.{slots}
use Rattle.rules.specs.Texts.{field_if, own_fields}
use Rattle.rules.specs.Grounds.{rows}
use Rattle.rules.specs.declared.schema.Kind.{Kind}
use Rattle.rules.specs.declared.schema.Node.{Node}
use Rattle.schema.specs.Meant.{row_meant}
use Rattle.schema.specs.declared.attributes.Row.{Row as CodeRow}
use Rattle.tags.specs.declared.attributes.Span.{Span}
use Rattle.reader.specs.Slots.{kept_in, Filled}
use Rattle.original.specs.Joined.{text_in}
use Rattle.std.proofs.lemmas.Bool.{cases_lt, cond-false}

-- a row and its slot, as a loop over both meets them
abbrev pub met_pair : Bor CodeRow × Bor (Option Span) → CodeRow × Option Span
met_pair p = (p.0.now, p.1.now)

-- the fields of rows, each with its slot
abbrev pub paired_fields : List ℕ → List (CodeRow × Option Span) → List (List ℕ)
paired_fields d [] = []
paired_fields d (p ∷ ps) = field_if p.0.in_cadena (text_in d p.1) ++ paired_fields d ps

pub paired_append : (d : List ℕ) (ps qs : List (CodeRow × Option Span)) → paired_fields d (ps ++ qs) ≡ paired_fields d ps ++ paired_fields d qs
paired_append d [] qs = refl
paired_append d (p ∷ ps) qs = ap (λ l. field_if p.0.in_cadena (text_in d p.1) ++ l) (paired_append d ps qs) ∙ sym (append_assoc (field_if p.0.in_cadena (text_in d p.1)) (paired_fields d ps) (paired_fields d qs))

-- the fields of the rows before the row k, those of that row, and those of the rows after it
pub paired_split : (d : List ℕ) (all seen : List (CodeRow × Option Span)) (k : ℕ) (p : CodeRow × Option Span) → seen ≡ take k all → k < length all → p ≡ get_or all k p →
    (paired_fields d seen ++ field_if p.0.in_cadena (text_in d p.1)) ++ paired_fields d (drop (k + 1) all) ≡ paired_fields d all
paired_split d all seen k p s h e =
    append_assoc (paired_fields d seen) (field_if p.0.in_cadena (text_in d p.1)) (paired_fields d (drop (k + 1) all))
    ∙ (λ i. paired_fields d (s i) ++ paired_fields d (e i ∷ drop (k + 1) all))
    ∙ ap (λ l. paired_fields d (take k all) ++ paired_fields d l) (sym (drop_more all k p h))
    ∙ sym (paired_append d (take k all) (drop k all))
    ∙ ap (paired_fields d) (take-append-drop k all)

paired_zip : (d : List ℕ) (rs : List CodeRow) (ss : List (Option Span)) → paired_fields d (zip rs ss) ≡ own_fields (map row_meant rs) (map (text_in d) ss)
paired_zip d [] ss = refl
paired_zip d (r ∷ rs) [] = refl
paired_zip d (r ∷ rs) (s ∷ ss) = ap (λ l. field_if r.in_cadena (text_in d s) ++ l) (paired_zip d rs ss)

zip_none : (rs : List CodeRow) → zip {X = Option Span} rs [] ≡ []
zip_none [] = refl
zip_none (r ∷ rs) = refl

drop-zip : (n : ℕ) (rs : List CodeRow) (ss : List (Option Span)) → drop n (zip rs ss) ≡ zip (drop n rs) (drop n ss)
drop-zip zero rs ss = refl
drop-zip (suc n) [] ss = refl
drop-zip (suc n) (r ∷ rs) [] = sym (zip_none (drop n rs))
drop-zip (suc n) (r ∷ rs) (s ∷ ss) = drop-zip n rs ss

-- the rows after those that fix the namespaces are the node's own
pub paired_own : (d : List ℕ) (k : Node) (rs : List CodeRow) (ss : List (Option Span)) (n : ℕ) → n ≡ length (namespaces k) → map row_meant rs ≡ rows k →
    paired_fields d (drop n (zip rs ss)) ≡ own_fields (attributes k) (map (text_in d) (drop (length (namespaces k)) ss))
paired_own d k rs ss n h e =
    ap (λ m. paired_fields d (drop m (zip rs ss))) h
    ∙ ap (paired_fields d) (drop-zip (length (namespaces k)) rs ss)
    ∙ paired_zip d (drop (length (namespaces k)) rs) (drop (length (namespaces k)) ss)
    ∙ ap (λ l. own_fields l (map (text_in d) (drop (length (namespaces k)) ss)))
    (sym (drop-map row_meant (length (namespaces k)) rs) ∙ ap (drop (length (namespaces k))) e ∙ drop_at (namespaces k) (attributes k) (length (namespaces k)) refl)

-- the fields of the rows from the row i on
abbrev pub own_from : List ℕ → List CodeRow → List (Option Span) → ℕ → List (List ℕ)
own_from d rs ss i = own_fields (map row_meant (drop i rs)) (map (text_in d) (drop i ss))

own_none : (rs : List Row) → own_fields rs [] ≡ []
own_none [] = refl
own_none (r ∷ rs) = refl

-- the row i, and then those that follow it
pub own_more : (d : List ℕ) (rs : List CodeRow) (ss : List (Option Span)) (i : ℕ) (z : CodeRow) → i < length rs →
    own_from d rs ss i ≡ field_if (get_or rs i z).in_cadena (text_in d (get_or ss i None)) ++ own_from d rs ss (i + 1)
own_more d rs ss i z h =
    ap (λ l. own_fields (map row_meant l) (map (text_in d) (drop i ss))) (drop_more rs i z h)
    ∙ ⊎_elim
    (λ k. ap (λ l. own_fields (row_meant (get_or rs i z) ∷ map row_meant (drop (i + 1) rs)) (map (text_in d) l)) (drop_more ss i None k))
    (λ k.
    let left : List Row = map row_meant (drop (i + 1) rs) in
    ap (λ l. own_fields (row_meant (get_or rs i z) ∷ left) (map (text_in d) l)) (drop_all i ss k)
    ∙ sym ((λ j. field_if (get_or rs i z).in_cadena (text_in d (get_or_past ss i None k j)) ++ own_fields left (map (text_in d) (drop_all (i + 1) ss (omega arith) j))) ∙ own_none left))
    (cases_lt i (length ss))

unmarked : (b : Bool) (o : Option (List ℕ)) → b ≡ false → field_if b o ≡ []
unmarked b None h = refl
unmarked b (Some v) h = cond-false _ _ _ h

-- the row i, which is part of the cadena or not, and whose slot holds s
module _ (d : List ℕ) (rs : List CodeRow) (ss : List (Option Span)) (i : ℕ) (z : CodeRow) (h : i < length rs) where
  pub own_field : (s : Option Span) → (get_or rs i z).in_cadena ≡ true → s ≡ get_or ss i None → own_from d rs ss i ≡ field_if true (text_in d s) ++ own_from d rs ss (i + 1)
  own_field s t e = own_more d rs ss i z h ∙ (λ j. field_if (t j) (text_in d (sym e j)) ++ own_from d rs ss (i + 1))

  pub own_skips : (get_or rs i z).in_cadena ≡ false → own_from d rs ss i ≡ own_from d rs ss (i + 1)
  own_skips t = own_more d rs ss i z h ∙ ap (λ l. l ++ own_from d rs ss (i + 1)) (unmarked _ (text_in d (get_or ss i None)) t)

-- no row is left
pub own_end : (d : List ℕ) (rs : List CodeRow) (ss : List (Option Span)) (i : ℕ) → length rs ≤ i → own_from d rs ss i ≡ []
own_end d rs ss i h = ap (λ l. own_fields (map row_meant l) (map (text_in d) (drop i ss))) (drop_all i rs h)

-- the rows after those that fix the namespaces are the node's own
pub own_rows : (d : List ℕ) (k : Node) (rs : List CodeRow) (ss : List (Option Span)) → map row_meant rs ≡ rows k → own_from d rs ss (length (namespaces k)) ≡ own_fields (attributes k) (map (text_in d) (drop (length (namespaces k)) ss))
own_rows d k rs ss e =
    ap (λ l. own_fields l (map (text_in d) (drop (length (namespaces k)) ss)))
    (sym (drop-map row_meant (length (namespaces k)) rs) ∙ ap (drop (length (namespaces k))) e ∙ drop_at (namespaces k) (attributes k) (length (namespaces k)) refl)

pub kept_text : (d : List ℕ) (k : Kind) (s : Option Span) → kept_in d k s ≡ text_in d s
kept_text d k None = refl
kept_text d k (Some s) = refl

-- full slots give the fields of the attributes
pub own_filled : (d : List ℕ) (gs : List Given) (rs : List Row) (ss : List (Option Span)) → Filled d rs gs ss → own_fields rs (map (text_in d) ss) ≡ own_fields rs (slots rs gs)
own_filled d gs [] ss h = refl
own_filled d gs (r ∷ rs) [] h = absurd h
own_filled d gs (r ∷ rs) (s ∷ ss) (h, f) = λ j. field_if r.in_cadena ((sym (kept_text d r.kind s) ∙ sym h.kept) j) ++ own_filled d gs rs ss f j

-- the slots of the rows that follow some
pub filled_past : (d : List ℕ) (gs : List Given) (ns rs : List Row) (ss : List (Option Span)) → Filled d (ns ++ rs) gs ss → Filled d rs gs (drop (length ns) ss)
filled_past d gs [] rs ss h = h
filled_past d gs (n ∷ ns) rs [] h = absurd h
filled_past d gs (n ∷ ns) rs (s ∷ ss) (h, f) = filled_past d gs ns rs ss f
