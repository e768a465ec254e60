use Rattle.promises.proofs.RegisterExample.{two_entries}
use Rattle.promises.proofs.two_entries_with_one_cadena.Goals as goal

pub returns : goal.returns
returns c = two_entries
