use Rattle.std.proofs.Common.{◌≡◌}
use Rattle.rules.specs.Markup.{Document, Marks}
use Rattle.walk.specs.Coming.{InOrder}
use Rattle.original.specs.Totals.{no_totals}
use Rattle.original.specs.Wrote.{owed, WellNamed, Same}
use Rattle.original.proofs.Passing.{Underway}
use Rattle.original.proofs.fields.Fields.all.Given as goal

abbrev pub invariant-loop-event : goal.invariant-loop-event
invariant-loop-event g l = record {
  same : Same l.initial.self l.self;
  walks : l.event-iterator.document.now ≡ l.initial.self.document.now;
  under : (m : Document) → Marks l.initial.self.document.now m → InOrder l.initial.self.document.now m → WellNamed m → owed l.initial.self ≡ no_totals →
      Underway g.W.Writer.writing l.initial.self.document.now m l.initial.self.to.now l.initial.self.begun l.event-iterator l.self;
}
