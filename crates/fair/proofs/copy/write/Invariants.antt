use Rattle.std.proofs.Common.{◌≡◌}
use Rattle.rules.specs.Located.{elements_of}
use Rattle.rules.specs.Markup.{Document, Marks}
use Rattle.rules.specs.Texts.{fair_copy}
use Rattle.rules.specs.Values.{values_of}
use Rattle.walk.specs.Coming.{InOrder}
use Rattle.fair.specs.Copy.{AllNamed}
use Rattle.fair.proofs.Copying.{Copying}
use Rattle.fair.proofs.copy.write.Given as goal

abbrev pub invariant-loop-event : goal.invariant-loop-event
invariant-loop-event g l = record {
  walks : l.event-iterator.document.now ≡ l.document;
  copies : (m : Document) → Marks l.document m → InOrder l.document m → AllNamed m → Copying g.W.Writer.writing l.initial.to (fair_copy (values_of (elements_of m))) l.event-iterator l.childless l.to;
}
