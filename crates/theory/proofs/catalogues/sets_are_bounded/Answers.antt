use Rattle.theory.proofs.CatalogueLaws.{sets_bounded}
use Rattle.theory.proofs.catalogues.sets_are_bounded.Goals as goal

pub returns : goal.returns
returns c = sets_bounded
