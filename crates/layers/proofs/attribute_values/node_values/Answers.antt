use Rattle.std.proofs.Common.{ap, ◌∙◌}
use Rattle.rules.specs.Faults.{fault_of}
use Rattle.walk.specs.Opening.{opening}
use Rattle.layers.proofs.Valued.{values_met}
use Rattle.layers.proofs.attribute_values.node_values.Goals as goal

pub returns-in-Some : goal.returns-in-Some
returns-in-Some g c = λ o e f s. values_met (g.C.CatalogueSet.facts c.args.set.now) c.args.document.now c.in-Some.opened (fault_of c.tag_values.result) c.tag_values.ensures o (c.in-Some.ensures ∙ ap opening e) f s
