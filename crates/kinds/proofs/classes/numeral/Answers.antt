use Rattle.std.proofs.Common.{◌≡◌, ◌^◌, ◌<◌, length, sym, ◌∙◌, subst, arith}
use Rattle.std.specs.Char.{is_ascii_digit}
use Rattle.kinds.proofs.Numbers.{all_more, all_not, all_end, number_more, number_end, grows}
use Rattle.kinds.proofs.classes.numeral.Goals as goal

pub returns-then-not-is_ascii_digit : goal.returns-then-not-is_ascii_digit
returns-then-not-is_ascii_digit c = sym c.loop-b.invariant.1 ∙ all_not is_ascii_digit c.args.text.now c.loop-b.b-index (omega arith) (sym c.if-not-is_ascii_digit.ensures.value)

pub loop-b-preserved : goal.loop-b-preserved
loop-b-preserved c =
    let is = c.if-not-is_ascii_digit.ensures in (
      grows _ _ _ c.loop-b.invariant.0 (omega (arith, is.cases)),
      sym (all_more is_ascii_digit c.args.text.now c.loop-b.b-index (omega arith) (sym is.value)) ∙ c.loop-b.invariant.1,
      sym (number_more c.args.text.now c.loop-b.b-index c.loop-b.n _ (omega arith) (omega (arith, c.from.ensures))) ∙ c.loop-b.invariant.2,
    )

pub returns : goal.returns
returns c =
    let all = sym c.loop-b.invariant.1 ∙ all_end is_ascii_digit c.args.text.now c.loop-b.b-index (omega arith) in
    let is = sym (number_end c.args.text.now c.loop-b.b-index c.loop-b.n (omega arith)) ∙ c.loop-b.invariant.2 in
    let e : c.loop-b.b-index ≡ length c.args.text.now = omega arith in
    (all, is, subst (λ k. c.loop-b.n < 10 ^ k) e c.loop-b.invariant.0)
