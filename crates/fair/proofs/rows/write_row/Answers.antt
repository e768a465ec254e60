use Rattle.std.proofs.Common.{is_ok, subst}
use Rattle.schema.specs.Meant.{row_meant}
use Rattle.sinks.specs.Writers.{Written}
use Rattle.fair.proofs.RowTexts.{row_written}
use Rattle.fair.proofs.rows.write_row.Goals as goal

pub returns-in-Some : goal.returns-in-Some
returns-in-Some g c =
    subst (λ l. Written g.W.Writer.writing c.args.to.now l (is_ok c.write_attribute.result) c.write_attribute.new.to)
    (row_written (row_meant c.args.row) c.namespace.result c.args.raw _ c.namespace.ensures c.in-Some.ensures)
    c.write_attribute.ensures
