use Rattle.promises.proofs.RegisterLaws.{promises}
use Rattle.promises.proofs.every_run_keeps_its_promises.Goals as goal

pub returns : goal.returns
returns c = promises
