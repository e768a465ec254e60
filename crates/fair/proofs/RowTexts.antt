-- The attributes that the rows of a node and its slots give.
use Rattle.std.proofs.Common.{◌≡◌, ℕ, ◌+◌, ◌<◌, ◌≤◌, Bool, true, not, List, [], ◌∷◌, ◌++◌, map, length, get_or, drop, is_some, Some, None, Option, sym, refl, ap, ◌∙◌, subst, ⊎_elim, arith}
use Rattle.std.specs.Borrow.{Bor}
use Rattle.std.specs.Option.{option_or, option_map}
use Rattle.std.specs.Prelude.{MatchOption}
use Rattle.std.proofs.lemmas.List.{drop_more, drop_all, drop-map, get_or_past}
use Rattle.std.proofs.lemmas.Bool.{cases_lt, and_parts, false≢true}
use Rattle.rules.specs.Bytes.{all}
use Rattle.rules.specs.Grounds.{rows}
use Rattle.rules.specs.Kept.{resolved, kept}
use Rattle.rules.specs.Located.{Given}
use Rattle.rules.specs.Markup.{attribute_text, attributes_text}
use Rattle.rules.specs.Schema.{Row, attributes, namespaces}
use Rattle.rules.specs.Texts.{only_text, fair_attribute, fair_attributes, fixed_attributes}
use Rattle.rules.specs.Values.{slots}
use Rattle.rules.specs.declared.schema.FixedText.TheVariants.{Version, CfdiNamespace, XsiNamespace, SchemaLocation}
use Rattle.rules.specs.declared.schema.Kind.{Kind}
use Rattle.rules.specs.declared.schema.Kind.TheVariants.{Fixed, Text, Amount, Positive, DateTime, Digits, Mark, Rfc, Seal, Code}
use Rattle.rules.specs.declared.schema.Node.{Node}
use Rattle.theory.proofs.SchemaLaws.{at_node}
use Rattle.schema.specs.Meant.{row_meant}
use Rattle.schema.specs.declared.attributes.Row.{Row as CodeRow}
use Rattle.tags.specs.declared.attributes.Span.{Span}
use Rattle.reader.specs.Slots.{raw_in, lent, kept_in, Filled}
use Rattle.fair.specs.Rows.{namespace_text, row_value, given_value, row_values, row_text}

-- a text that a kind fixes is its own kept form
only_kept : (k : Kind) → kept (resolved (only_text k)) ≡ only_text k
only_kept (Fixed Version) = refl
only_kept (Fixed CfdiNamespace) = refl
only_kept (Fixed XsiNamespace) = refl
only_kept (Fixed SchemaLocation) = refl
only_kept (Text n) = refl
only_kept Amount = refl
only_kept Positive = refl
only_kept DateTime = refl
only_kept (Digits n) = refl
only_kept Mark = refl
only_kept Rfc = refl
only_kept Seal = refl
only_kept (Code c) = refl

-- a kind that fixes a namespace has no other text
namespace_only : (k : Kind) → is_some (namespace_text k) ≡ true → namespace_text k ≡ Some (only_text k)
namespace_only (Fixed Version) h = absurd (false≢true h)
namespace_only (Fixed CfdiNamespace) h = refl
namespace_only (Fixed XsiNamespace) h = refl
namespace_only (Fixed SchemaLocation) h = refl
namespace_only (Text n) h = absurd (false≢true h)
namespace_only Amount h = absurd (false≢true h)
namespace_only Positive h = absurd (false≢true h)
namespace_only DateTime h = absurd (false≢true h)
namespace_only (Digits n) h = absurd (false≢true h)
namespace_only Mark h = absurd (false≢true h)
namespace_only Rfc h = absurd (false≢true h)
namespace_only Seal h = absurd (false≢true h)
namespace_only (Code c) h = absurd (false≢true h)

-- a row of a namespace has its text
pub namespace_row : (d : List ℕ) (r : Row) (s : Option Span) (t : List ℕ) → namespace_text r.kind ≡ Some t → attribute_text (fair_attribute r.name (kept (resolved t))) ≡ row_text r (row_value d r s)
namespace_row d r s t e =
    let is : only_text r.kind ≡ t = let f = namespace_only r.kind (ap is_some e) in cc in
    ap (λ x. attribute_text (fair_attribute r.name x)) (subst (λ x. kept (resolved x) ≡ x) is (only_kept r.kind)) ∙ ap (λ o. row_text r (option_or o (kept_in d r.kind s))) (sym e)

-- a row that has a text is written with it
pub row_written : (r : Row) (n raw : Option (Bor (List ℕ))) (t : Bor (List ℕ)) → MatchOption n (namespace_text r.kind ≡ None) (λ b. namespace_text r.kind ≡ Some b.now) → Some t ≡ option_or n raw →
    attribute_text (fair_attribute r.name (kept (resolved t.now))) ≡ row_text r (given_value r (lent raw))
row_written r (Some b) raw t m e =
    let is : only_text r.kind ≡ t.now = let f = namespace_only r.kind (ap is_some m) in cc in
    let same : b.now ≡ t.now = cc in
    ap (λ x. attribute_text (fair_attribute r.name x)) (subst (λ x. kept (resolved x) ≡ x) is (only_kept r.kind)) ∙ ap (λ o. row_text r (option_or o (option_map (λ x. kept (resolved x)) (lent raw)))) (sym (m ∙ ap Some same))
row_written r None (Some b) t m e = let same : t.now ≡ b.now = cc in ap (λ x. attribute_text (fair_attribute r.name (kept (resolved x)))) same ∙ ap (λ o. row_text r (option_or o (Some (kept (resolved b.now))))) (sym m)
row_written r None None t m e = absurd cc

-- the raw value that a slot's span holds is kept as the slot's
slot_value : (d : List ℕ) (r : Row) (s : Option Span) → given_value r (raw_in d s) ≡ row_value d r s
slot_value d r None = refl
slot_value d r (Some s) = refl

-- a row of a namespace, or of another attribute
abbrev of_namespace : Row → Bool
of_namespace r = is_some (namespace_text r.kind)

abbrev of_another : Row → Bool
of_another r = not (of_namespace r)

other_or : (o v : Option (List ℕ)) → not (is_some o) ≡ true → option_or o v ≡ v
other_or None v h = refl
other_or (Some t) v h = absurd (false≢true h)

module _ (d : List ℕ) (gs : List Given) where
  -- rows of other attributes have the kept forms given
  given_values : (rs : List Row) (ss : List (Option Span)) → all of_another rs ≡ true → Filled d rs gs ss → row_values d rs ss ≡ slots rs gs
  given_values [] ss h f = refl
  given_values (r ∷ rs) [] h f = absurd f
  given_values (r ∷ rs) (s ∷ ss) h (q, f) =
      let (u, v) = and_parts (of_another r) _ h in
      λ i. (other_or (namespace_text r.kind) _ u ∙ sym q.kept) i ∷ given_values rs ss v f i

  -- rows of namespaces have their fixed texts
  fixed_first : (qs rs : List Row) (ss : List (Option Span)) → all of_namespace qs ≡ true → all of_another rs ≡ true → Filled d (qs ++ rs) gs ss →
      fair_attributes (qs ++ rs) (row_values d (qs ++ rs) ss) ≡ fixed_attributes qs ++ fair_attributes rs (slots rs gs)
  fixed_first [] rs ss h k f = ap (fair_attributes rs) (given_values rs ss k f)
  fixed_first (q ∷ qs) rs [] h k f = absurd f
  fixed_first (q ∷ qs) rs (s ∷ ss) h k (x, f) =
      let (u, v) = and_parts (of_namespace q) _ h in
      ap (λ o. fair_attributes (q ∷ (qs ++ rs)) (option_or o (kept_in d q.kind s) ∷ row_values d (qs ++ rs) ss)) (namespace_only q.kind u)
      ∙ ap (λ l. fair_attribute q.name (only_text q.kind) ∷ l) (fixed_first qs rs ss v k f)

  -- the attributes of a node's tag
  pub tag_attributes : (k : Node) (ss : List (Option Span)) → Filled d (rows k) gs ss →
      fair_attributes (rows k) (row_values d (rows k) ss) ≡ fixed_attributes (namespaces k) ++ fair_attributes (attributes k) (slots (attributes k) gs)
  tag_attributes k ss f =
      fixed_first (namespaces k) (attributes k) ss (at_node (λ j. all of_namespace (namespaces j)) refl k) (at_node (λ j. all of_another (attributes j)) refl k) f

-- the text of the rows from i on
abbrev pub rows_text : List ℕ → List Row → List (Option Span) → List ℕ
rows_text d rs ss = attributes_text (fair_attributes rs (row_values d rs ss))

first_text : (r : Row) (v : Option (List ℕ)) (rs : List Row) (vs : List (Option (List ℕ))) → attributes_text (fair_attributes (r ∷ rs) (v ∷ vs)) ≡ row_text r v ++ attributes_text (fair_attributes rs vs)
first_text r None rs vs = refl
first_text r (Some v) rs vs = refl

module _ (d : List ℕ) (rs : List CodeRow) (ss : List (Option Span)) (i : ℕ) where
  next_value : (r : Row) (q : List Row) (o : Option Span) → o ≡ get_or ss i None → row_values d (r ∷ q) (drop i ss) ≡ row_value d r o ∷ row_values d q (drop (i + 1) ss)
  next_value r q o e = ⊎_elim
      (λ k. ap (row_values d (r ∷ q)) (drop_more ss i None k) ∙ ap (λ x. row_value d r x ∷ row_values d q (drop (i + 1) ss)) (sym e))
      (λ k. ap (row_values d (r ∷ q)) (drop_all i ss k) ∙ (λ j. row_value d r (sym (e ∙ get_or_past ss i None k) j) ∷ row_values d q (sym (drop_all (i + 1) ss (omega arith)) j)))
      (cases_lt i (length ss))

  pub next_row : (z : CodeRow) (raw : Option (List ℕ)) → i < length rs → raw ≡ raw_in d (get_or ss i None) →
      rows_text d (drop i (map row_meant rs)) (drop i ss) ≡ row_text (row_meant (get_or rs i z)) (given_value (row_meant (get_or rs i z)) raw) ++ rows_text d (drop (i + 1) (map row_meant rs)) (drop (i + 1) ss)
  next_row z raw h e =
      let r : Row = row_meant (get_or rs i z) in
      let q : List Row = drop (i + 1) (map row_meant rs) in
      let at_row : drop i (map row_meant rs) ≡ r ∷ q = drop-map row_meant i rs ∙ ap (map row_meant) (drop_more rs i z h) ∙ ap (λ x. r ∷ x) (sym (drop-map row_meant (i + 1) rs)) in
      ap (λ x. rows_text d x (drop i ss)) at_row
      ∙ ap (λ x. attributes_text (fair_attributes (r ∷ q) x)) (next_value r q _ refl)
      ∙ first_text r (row_value d r (get_or ss i None)) q (row_values d q (drop (i + 1) ss))
      ∙ ap (λ v. row_text r v ++ rows_text d q (drop (i + 1) ss)) (sym (ap (given_value r) e ∙ slot_value d r (get_or ss i None)))

  pub no_more_rows : length rs ≤ i → rows_text d (drop i (map row_meant rs)) (drop i ss) ≡ []
  no_more_rows h = ap (λ x. rows_text d x (drop i ss)) (drop-map row_meant i rs ∙ ap (map row_meant) (drop_all i rs h))
