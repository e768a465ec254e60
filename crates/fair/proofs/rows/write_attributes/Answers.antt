use Rattle.std.proofs.Common.{true, is_ok, subst, arith, rules}
use Rattle.sinks.specs.Writers.{Written}
use Rattle.fair.proofs.Parts.{rows_left}
use Rattle.fair.proofs.Progress.{all_left, left_as, more_written, refused, none_left}
use Rattle.fair.proofs.RowTexts.{rows_text, no_more_rows}
use Rattle.fair.proofs.rows.write_attributes.Goals as goal

pub loop-i-init : goal.loop-i-init
loop-i-init g c = all_left

pub returns-in_err-write_row : goal.returns-in_err-write_row
returns-in_err-write_row g c =
    subst (λ rs. Written g.W.Writer.writing c.args.to.now (rows_text c.args.slots.now.document.now rs c.args.slots.now.spans) (is_ok c.from_residual.result) c.write_row.new.to) c.rows-row-items.ensures
    (refused (search rules) _ c.in_err-write_row.ensures
    (rows_left c.args.slots.now.document.now c.rows-row-items.result.now c.args.slots.now.spans c.loop-i.i _ _ (omega arith) c.raw.ensures c.loop-i.invariant))

pub loop-i-preserved : goal.loop-i-preserved
loop-i-preserved g c =
    more_written c.in_ok-write_row.ensures
    (rows_left c.args.slots.now.document.now c.rows-row-items.result.now c.args.slots.now.spans c.loop-i.i _ _ (omega arith) c.raw.ensures c.loop-i.invariant)

pub returns : goal.returns
returns g c =
    subst (λ rs. Written g.W.Writer.writing c.args.to.now (rows_text c.args.slots.now.document.now rs c.args.slots.now.spans) true c.loop-i.to) c.rows-row-items.ensures
    (none_left (left_as (no_more_rows c.args.slots.now.document.now c.rows-row-items.result.now c.args.slots.now.spans c.loop-i.i (omega arith)) c.loop-i.invariant))
