use Rattle.promises.proofs.Sending.{passed_exactly}
use Rattle.promises.proofs.what_passes_is_longest.Goals as goal

pub returns : goal.returns
returns c = passed_exactly
