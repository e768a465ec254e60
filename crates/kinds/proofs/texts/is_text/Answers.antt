use Rattle.std.proofs.Common.{ap, ◌∙◌, arith}
use Rattle.rules.specs.Kinds.{admits}
use Rattle.rules.specs.declared.schema.Kind.TheVariants.{Text}
use Rattle.kinds.specs.Reading.{rest}
use Rattle.kinds.proofs.Counts.{too_many, all_read}
use Rattle.kinds.proofs.texts.is_text.Goals as goal

pub returns-then-count-most : goal.returns-then-count-most
returns-then-count-most c =
    too_many c.args.most c.loop-b.count c.loop-b.more c.to_come-more.result c.in-Some.b (rest c.into_iter-b-iterator.result) _ _ c.loop-b.invariant.1 c.in-Some.ensures.steps.byte c.to_come-more.ensures c.if-more-eq0.true (omega arith) ∙ ap (λ k. admits (Text c.args.most) (rest k)) c.into_iter-b-iterator.ensures.into_iter_gives

pub returns : goal.returns
returns c = all_read c.args.most c.loop-b.count c.loop-b.more (rest c.into_iter-b-iterator.result) _ c.loop-b.invariant.0 c.loop-b.invariant.1 c.loop-b.invariant.2 c.in-None.ensures.steps.byte.0 ∙ ap (λ k. admits (Text c.args.most) (rest k)) c.into_iter-b-iterator.ensures.into_iter_gives
