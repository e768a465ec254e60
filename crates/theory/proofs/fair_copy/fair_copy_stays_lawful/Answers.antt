use Rattle.theory.proofs.FairCopyLaws.{copy_stays_lawful}
use Rattle.theory.proofs.fair_copy.fair_copy_stays_lawful.Goals as goal

pub returns : goal.returns
returns c = copy_stays_lawful
