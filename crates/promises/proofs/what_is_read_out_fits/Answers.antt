use Rattle.promises.proofs.RegisterLaws.{reading_out_fits}
use Rattle.promises.proofs.what_is_read_out_fits.Goals as goal

pub returns : goal.returns
returns c = reading_out_fits
