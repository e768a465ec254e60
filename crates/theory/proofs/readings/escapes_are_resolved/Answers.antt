use Rattle.theory.proofs.Resolved.{resolved_pieces}
use Rattle.theory.proofs.readings.escapes_are_resolved.Goals as goal

pub returns : goal.returns
returns c = resolved_pieces
