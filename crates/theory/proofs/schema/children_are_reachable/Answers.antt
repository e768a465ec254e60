use Rattle.theory.proofs.SchemaLaws.{children_reachable}
use Rattle.theory.proofs.schema.children_are_reachable.Goals as goal

pub returns : goal.returns
returns c = children_reachable
