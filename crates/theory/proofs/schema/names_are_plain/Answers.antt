use Rattle.theory.proofs.SchemaLaws.{names_plain}
use Rattle.theory.proofs.schema.names_are_plain.Goals as goal

pub returns : goal.returns
returns c = names_plain
