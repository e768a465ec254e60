use Rattle.theory.proofs.Example.{plain_passes, serie_passes, folio_passes, point_passes}
use Rattle.theory.proofs.fair_copy.examples_pass.Goals as goal

pub returns : goal.returns
returns c = record { plain_passes = plain_passes; serie_passes = serie_passes; folio_passes = folio_passes; point_passes = point_passes }
