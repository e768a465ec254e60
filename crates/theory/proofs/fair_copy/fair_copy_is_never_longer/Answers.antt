use Rattle.theory.proofs.FairCopyLaws.{copy_never_longer}
use Rattle.theory.proofs.fair_copy.fair_copy_is_never_longer.Goals as goal

pub returns : goal.returns
returns c = copy_never_longer
