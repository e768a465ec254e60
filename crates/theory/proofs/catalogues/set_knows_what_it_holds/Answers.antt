use Rattle.theory.proofs.CatalogueLaws.{knows_what_it_holds}
use Rattle.theory.proofs.catalogues.set_knows_what_it_holds.Goals as goal

pub returns : goal.returns
returns c = knows_what_it_holds
