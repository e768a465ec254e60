use Rattle.theory.proofs.FairCopyLaws.{copy_tells_values}
use Rattle.theory.proofs.fair_copy.fair_copy_tells_values.Goals as goal

pub returns : goal.returns
returns c = copy_tells_values
