use Rattle.std.proofs.Common.{map, Ok}
use Rattle.original.proofs.Rows.{met_pair, paired_fields}
use Rattle.original.specs.Wrote.{owed, Wrote, Same}
use Rattle.original.proofs.fields.Fields.own.Given as goal

abbrev pub invariant-loop-row : goal.invariant-loop-row
invariant-loop-row g l = record {
  same : Same l.initial.self l.self;
  wrote : Wrote g.W.Writer.writing l.initial.self (paired_fields l.initial.self.document.now (map met_pair l.yielded)) (owed l.initial.self) (Ok tt) l.self;
}
