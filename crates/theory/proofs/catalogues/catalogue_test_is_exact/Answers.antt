use Rattle.theory.proofs.CatalogueLaws.{test_exact}
use Rattle.theory.proofs.catalogues.catalogue_test_is_exact.Goals as goal

pub returns : goal.returns
returns c = test_exact
