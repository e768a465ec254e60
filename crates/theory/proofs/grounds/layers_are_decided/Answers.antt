use Rattle.theory.proofs.Decided.{layers_decided}
use Rattle.theory.proofs.grounds.layers_are_decided.Goals as goal

pub returns : goal.returns
returns c = layers_decided
