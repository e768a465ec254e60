use Rattle.theory.proofs.Unique.{one_reading}
use Rattle.theory.proofs.readings.one_reading_at_most.Goals as goal

pub returns : goal.returns
returns c = one_reading
