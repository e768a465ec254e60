use Rattle.std.proofs.Common.{◌≡◌, List}
use Rattle.rules.specs.Located.{Given}
use Rattle.walk.specs.Events.{Tagged}
use Rattle.layers.proofs.InTags.{TagLeft}
use Rattle.layers.proofs.attribute_values.tag_values.Given as goal

abbrev pub invariant-loop-a : goal.invariant-loop-a
invariant-loop-a g l = record {
  same : l.a-iterator.document.now ≡ l.document;
  left : (gs : List Given) → Tagged l.document l.at gs → TagLeft (g.C.CatalogueSet.facts l.set) l.node l.document l.a-iterator.at gs;
}
