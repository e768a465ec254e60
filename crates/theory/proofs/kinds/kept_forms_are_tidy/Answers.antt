use Rattle.theory.proofs.KeptLaws.{kept_law}
use Rattle.theory.proofs.kinds.kept_forms_are_tidy.Goals as goal

pub returns : goal.returns
returns c = kept_law
