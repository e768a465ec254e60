use Rattle.theory.proofs.CatalogueFirsts.{every_judged}
use Rattle.theory.proofs.catalogues.every_catalogue_is_judged.Goals as goal

pub returns : goal.returns
returns c = every_judged
