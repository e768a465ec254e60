use Rattle.rules.specs.Grounds.{ValuesFault, standing}
use Rattle.rules.specs.Located.{elements_of}
use Rattle.rules.specs.Markup.{Document, Marks}
use Rattle.walk.specs.Coming.{InOrder}
use Rattle.layers.proofs.Going.{Left}
use Rattle.layers.proofs.attribute_values.all_values.Given as goal

abbrev pub invariant-loop-event : goal.invariant-loop-event
invariant-loop-event g l = (m : Document) → Marks l.document m → InOrder l.document m → Left 5 (ValuesFault (g.C.CatalogueSet.facts l.set)) l.document (standing (elements_of m)) l.event-iterator
