use Rattle.theory.proofs.SchemaLaws.{children_apart}
use Rattle.theory.proofs.schema.children_are_apart.Goals as goal

pub returns : goal.returns
returns c = children_apart
