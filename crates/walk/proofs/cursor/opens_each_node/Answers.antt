use Rattle.walk.proofs.Stands.{opens_each}
use Rattle.walk.proofs.cursor.opens_each_node.Goals as goal

pub returns : goal.returns
returns c = opens_each
