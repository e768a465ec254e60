use Rattle.std.proofs.Common.{map, drop}
use Rattle.schema.specs.Meant.{row_meant}
use Rattle.fair.proofs.Progress.{Left}
use Rattle.fair.proofs.RowTexts.{rows_text}
use Rattle.fair.proofs.rows.write_attributes.Given as goal

abbrev pub invariant-loop-i : goal.invariant-loop-i
invariant-loop-i g l =
    Left g.W.Writer.writing l.initial.to (rows_text l.slots.document.now (map row_meant l.row-items) l.slots.spans) (rows_text l.slots.document.now (drop l.i (map row_meant l.row-items)) (drop l.i l.slots.spans)) l.to
