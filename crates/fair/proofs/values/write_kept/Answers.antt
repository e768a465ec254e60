use Rattle.std.proofs.Common.{true, is_ok, ap, subst, rules}
use Rattle.rules.specs.Markup.{pieces_text}
use Rattle.rules.specs.Texts.{pieces}
use Rattle.kinds.specs.Reading.{rest}
use Rattle.sinks.specs.Writers.{Written}
use Rattle.fair.proofs.Progress.{all_left, left_as, more_written, refused, none_left}
use Rattle.fair.proofs.values.write_kept.Goals as goal

pub loop-byte-init : goal.loop-byte-init
loop-byte-init g c = all_left

pub loop-byte-preserved : goal.loop-byte-preserved
loop-byte-preserved g c = more_written c.in_ok-write_byte.ensures (left_as (ap (λ t. pieces_text (pieces t)) c.in-Some.ensures.steps.byte) c.loop-byte.invariant)

pub returns-in_err-write_byte : goal.returns-in_err-write_byte
returns-in_err-write_byte g c =
    subst (λ k. Written g.W.Writer.writing c.args.to.now (pieces_text (pieces (rest k))) (is_ok c.from_residual.result) c.write_byte.new.to) c.into_iter-byte-iterator.ensures.into_iter_gives
    (refused (search rules) _ c.in_err-write_byte.ensures (left_as (ap (λ t. pieces_text (pieces t)) c.in-Some.ensures.steps.byte) c.loop-byte.invariant))

pub returns : goal.returns
returns g c =
    subst (λ k. Written g.W.Writer.writing c.args.to.now (pieces_text (pieces (rest k))) true c.loop-byte.to) c.into_iter-byte-iterator.ensures.into_iter_gives
    (none_left (left_as (ap (λ t. pieces_text (pieces t)) c.in-None.ensures.steps.byte.0) c.loop-byte.invariant))
