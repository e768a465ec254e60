use Rattle.theory.proofs.ShapeLaws.{lawful_has_shape}
use Rattle.theory.proofs.shape.lawful_has_shape.Goals as goal

pub returns : goal.returns
returns c = lawful_has_shape
