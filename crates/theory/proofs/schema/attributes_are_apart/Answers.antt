use Rattle.theory.proofs.SchemaLaws.{attributes_apart}
use Rattle.theory.proofs.schema.attributes_are_apart.Goals as goal

pub returns : goal.returns
returns c = attributes_apart
