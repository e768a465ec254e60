-- The parts that the texts of the fair copy are written in.
use Rattle.std.proofs.Common.{◌≡◌, ℕ, ◌+◌, ◌<◌, Bool, true, cond, List, [], ◌∷◌, ◌++◌, map, length, get_or, drop, None, Option, sym, ap, ◌∙◌, subst, append_assoc}
use Rattle.rules.specs.Bytes.{blank, all}
use Rattle.rules.specs.Grounds.{rows}
use Rattle.rules.specs.Located.{Given, givens}
use Rattle.rules.specs.Markup.{pieces_text, Attribute, attribute_ok, attribute_text, attributes_text}
use Rattle.rules.specs.Schema.{Row, tag}
use Rattle.rules.specs.Texts.{pieces, fair_attribute}
use Rattle.rules.specs.declared.schema.Node.{Node}
use Rattle.theory.specs.On.{attributes_on, closes}
use Rattle.tags.specs.declared.attributes.Span.{Span}
use Rattle.schema.specs.Meant.{row_meant}
use Rattle.schema.specs.declared.attributes.Row.{Row as CodeRow}
use Rattle.reader.specs.Slots.{raw_in, Filled}
use Rattle.walk.specs.Events.{Tagged}
use Rattle.sinks.specs.Writers.{Writing}
use Rattle.fair.specs.Rows.{given_value, row_text}
use Rattle.fair.specs.Copy.{start_text, end_text}
use Rattle.fair.proofs.Progress.{Left, all_left, left_as}
use Rattle.fair.proofs.RowTexts.{rows_text, tag_attributes, next_row}

-- a value up to its closing quote
abbrev pub value_part : List ℕ → List ℕ
value_part v = pieces_text (pieces v) ++ 34 ∷ []

-- an attribute after its space
abbrev pub named_part : List ℕ → List ℕ → List ℕ
named_part n v = n ++ ((61 ∷ 34 ∷ []) ++ value_part v)

attribute_parts : (n v : List ℕ) → attribute_text (fair_attribute n v) ≡ (32 ∷ []) ++ named_part n v
attribute_parts n v = simp append_assoc

-- a tag after its '<'
abbrev pub tag_part : List ℕ → List ℕ → List ℕ → List ℕ
tag_part n l z = n ++ (l ++ z)

tag_parts : (n l z : List ℕ) → 60 ∷ n ++ l ++ [] ++ z ≡ (60 ∷ []) ++ tag_part n l z
tag_parts n l z = simp append_assoc

-- the slots of a tag hold the attributes that stand in it
tagged_filled : {d : List ℕ} {at : ℕ} {gs : List Given} (rs : List Row) (ss : List (Option Span)) → Tagged d at gs →
    ((l : List Attribute) (g z : List ℕ) → all attribute_ok l ≡ true → all blank g ≡ true → closes z ≡ true → drop at d ≡ attributes_on l (g ++ z) → Filled d rs (givens at l) ss) → Filled d rs gs ss
tagged_filled {d} {at} {gs} rs ss t f = subst (λ x. Filled d rs x ss) (sym t.are) (f t.list t.gap t.more t.good t.blanks t.shut t.shown)

module _ {W : Type 0} {w : Writing W} {a : W} where
  -- an attribute that is to be written
  pub attribute_left : (n v v' : List ℕ) → v' ≡ v → Left w a (attribute_text (fair_attribute n v)) ((32 ∷ []) ++ named_part n v') a
  attribute_left n v v' e = left_as (attribute_parts n v ∙ ap (λ x. (32 ∷ []) ++ named_part n x) (sym e)) all_left

  -- a start tag that is to be written
  pub start_left : {d : List ℕ} {at : ℕ} {gs : List Given} (d' : List ℕ) (k : Node) (ss : List (Option Span)) (b : Bool) (n z : List ℕ) → d' ≡ d → Tagged d at gs →
      ((l : List Attribute) (g z : List ℕ) → all attribute_ok l ≡ true → all blank g ≡ true → closes z ≡ true → drop at d ≡ attributes_on l (g ++ z) → Filled d (rows k) (givens at l) ss) →
      n ≡ tag k → cond b (47 ∷ 62 ∷ []) (62 ∷ []) ≡ z → Left w a (start_text k gs b) ((60 ∷ []) ++ tag_part n (rows_text d' (rows k) ss) z) a
  start_left {d} {at} {gs} d' k ss b n z same t f e q =
      let has = tag_attributes d gs k ss (tagged_filled (rows k) ss t f) in
      let shown = ap attributes_text (sym has) ∙ ap (λ x. rows_text x (rows k) ss) (sym same) in
      left_as (tag_parts (tag k) _ (cond b (47 ∷ 62 ∷ []) (62 ∷ [])) ∙ (λ i. (60 ∷ []) ++ tag_part (sym e i) (shown i) (q i))) all_left

  -- an end tag that is to be written
  pub end_left : (k : Node) (n : List ℕ) → n ≡ tag k → Left w a (end_text k) ((60 ∷ 47 ∷ []) ++ (n ++ 62 ∷ [])) a
  end_left k n e = left_as (ap (λ x. (60 ∷ 47 ∷ []) ++ (x ++ 62 ∷ [])) (sym e)) all_left

  -- the rows that are to be written from the row i on
  pub rows_left : {b : W} {whole : List ℕ} (d : List ℕ) (rs : List CodeRow) (ss : List (Option Span)) (i : ℕ) (z : CodeRow) (raw : Option (List ℕ)) → i < length rs → raw ≡ raw_in d (get_or ss i None) →
      Left w a whole (rows_text d (drop i (map row_meant rs)) (drop i ss)) b →
      Left w a whole (row_text (row_meant (get_or rs i z)) (given_value (row_meant (get_or rs i z)) raw) ++ rows_text d (drop (i + 1) (map row_meant rs)) (drop (i + 1) ss)) b
  rows_left d rs ss i z raw h q p = left_as (next_row d rs ss i z raw h q) p
