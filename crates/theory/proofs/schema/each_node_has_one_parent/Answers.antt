use Rattle.theory.proofs.SchemaLaws.{one_parent}
use Rattle.theory.proofs.schema.each_node_has_one_parent.Goals as goal

pub returns : goal.returns
returns c = one_parent
