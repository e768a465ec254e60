use Rattle.std.proofs.Common.{sym, ◌∙◌, arith}
use Rattle.kinds.proofs.Letters.{more_letters, tail_is}
use Rattle.kinds.proofs.rfcs.is_rfc_after.Goals as goal

pub loop-preserved : goal.loop-preserved
loop-preserved c = sym (more_letters c.args.letters c.loop.counter _ _ _ (omega arith) c.if-not-is_letter_next.false c.is_letter_next.ensures) ∙ c.loop.invariant

pub returns : goal.returns
returns c = c.is_tail_left.ensures ∙ sym (tail_is c.args.letters c.loop.counter _ (omega arith)) ∙ c.loop.invariant
