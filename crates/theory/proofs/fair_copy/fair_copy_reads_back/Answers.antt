use Rattle.theory.proofs.FairCopyLaws.{copy_reads_back}
use Rattle.theory.proofs.fair_copy.fair_copy_reads_back.Goals as goal

pub returns : goal.returns
returns c = copy_reads_back
