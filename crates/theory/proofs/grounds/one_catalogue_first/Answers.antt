use Rattle.theory.proofs.FirstLaws.{one_catalogue_first}
use Rattle.theory.proofs.grounds.one_catalogue_first.Goals as goal

pub returns : goal.returns
returns c = one_catalogue_first
