use Rattle.theory.proofs.ShapeLaws.{copy_keeps_shape}
use Rattle.theory.proofs.shape.fair_copy_keeps_shape.Goals as goal

pub returns : goal.returns
returns c = copy_keeps_shape
