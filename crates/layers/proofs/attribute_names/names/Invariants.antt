use Rattle.rules.specs.Grounds.{NamesFault, standing}
use Rattle.rules.specs.Located.{elements_of}
use Rattle.rules.specs.Markup.{Document, Marks}
use Rattle.walk.specs.Coming.{InOrder}
use Rattle.layers.proofs.Going.{Left}
use Rattle.layers.proofs.attribute_names.names.Given as goal

abbrev pub invariant-loop-event : goal.invariant-loop-event
invariant-loop-event l = (m : Document) → Marks l.document m → InOrder l.document m → Left 4 NamesFault l.document (standing (elements_of m)) l.event-iterator
