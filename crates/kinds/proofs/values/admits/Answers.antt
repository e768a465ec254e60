use Rattle.std.proofs.Common.{◌≡◌, ℕ, Bool, List, is_some, Some, None, Option, sym, ap, ◌∙◌}
use Rattle.std.proofs.lemmas.Bool.{and_parts}
use Rattle.rules.specs.Bytes.{same}
use Rattle.rules.specs.Kept.{resolved, kept}
use Rattle.rules.specs.Kinds.{date_time_ok, code_ok, amount_ok, admits, admitted, KindLaw}
use Rattle.rules.specs.declared.schema.Kind.{Kind}
use Rattle.rules.specs.declared.schema.Kind.TheVariants.{Fixed, Text, Amount, Positive, DateTime, Digits, Mark, Rfc, Seal}
use Rattle.theory.proofs.KindLaws.{kind_law}
use Rattle.kinds.specs.declared.millionths.Amount.{Amount as Worth}
use Rattle.kinds.proofs.AmountParts.{Reads}
use Rattle.kinds.proofs.Solid.{digits_solid, alphas_solid, seal_solid, code_solid, date_time_solid}
use Rattle.kinds.proofs.Trims.{by_piece}
use Rattle.kinds.proofs.values.admits.Goals as goal

judged : (k j : Kind) (raw : List ℕ) (r : Bool) → k ≡ j → r ≡ admitted j (resolved raw) → record { value : r ≡ admitted k (resolved raw); law : KindLaw k (resolved raw) }
judged k j raw r e h = record { value = h ∙ ap (λ i. admitted i (resolved raw)) (sym e); law = kind_law k (resolved raw) }

some_amount : (s : List ℕ) (r : Option Worth) → Reads s r → is_some r ≡ amount_ok s
some_amount s None h = sym h
some_amount s (Some a) h = sym h.0

pub returns-in-Fixed : goal.returns-in-Fixed
returns-in-Fixed c = judged c.args.kind (Fixed c.in-Fixed.text) c.args.raw.now _ c.in-Fixed.is (c.is_same.ensures ∙ ap (λ s. same s c.text.result.now) c.new.ensures ∙ ap (λ t. same (kept (resolved c.args.raw.now)) t) c.text.ensures)

pub returns-in-Text : goal.returns-in-Text
returns-in-Text c = judged c.args.kind (Text c.in-Text.most) c.args.raw.now _ c.in-Text.is (let h = c.is_text.ensures in let is = ap (admits (Text c.in-Text.most)) c.new-in-Text.ensures in cc)

pub returns-in-Amount : goal.returns-in-Amount
returns-in-Amount c = judged c.args.kind Amount c.args.raw.now _ c.in-Amount.is (c.is_some.ensures ∙ some_amount (kept (resolved c.args.raw.now)) c.amount.result c.amount.ensures)

pub returns-in-Positive : goal.returns-in-Positive
returns-in-Positive c = judged c.args.kind Positive c.args.raw.now _ c.in-Positive.is c.is_positive.ensures

pub returns-in-DateTime : goal.returns-in-DateTime
returns-in-DateTime c = judged c.args.kind DateTime c.args.raw.now _ c.in-DateTime.is (c.is_date_time.ensures ∙ by_piece date_time_ok date_time_solid c.args.raw.now c.piece.result.now c.piece.ensures.part)

pub returns-in-Digits : goal.returns-in-Digits
returns-in-Digits c = judged c.args.kind (Digits c.in-Digits.count) c.args.raw.now _ c.in-Digits.is (c.is_digits.ensures ∙ by_piece (admits (Digits c.in-Digits.count)) (λ s h. digits_solid s (and_parts _ _ h).1) c.args.raw.now c.piece-in-Digits.result.now c.piece-in-Digits.ensures.part)

pub returns-in-Mark : goal.returns-in-Mark
returns-in-Mark c = judged c.args.kind Mark c.args.raw.now _ c.in-Mark.is (c.is_mark.ensures ∙ by_piece (admits Mark) (λ s h. alphas_solid s (and_parts _ _ h).1) c.args.raw.now c.piece-in-Mark.result.now c.piece-in-Mark.ensures.part)

pub returns-in-Rfc : goal.returns-in-Rfc
returns-in-Rfc c = judged c.args.kind Rfc c.args.raw.now _ c.in-Rfc.is c.is_rfc.ensures

pub returns-in-Seal : goal.returns-in-Seal
returns-in-Seal c = judged c.args.kind Seal c.args.raw.now _ c.in-Seal.is (c.is_seal.ensures ∙ by_piece (admits Seal) seal_solid c.args.raw.now c.piece-in-Seal.result.now c.piece-in-Seal.ensures.part)

pub returns-in-Code : goal.returns-in-Code
returns-in-Code c = judged c.args.kind _ c.args.raw.now _ c.in-Code.is (c.is_code.ensures ∙ by_piece code_ok code_solid c.args.raw.now c.piece-in-Code.result.now c.piece-in-Code.ensures.part)
