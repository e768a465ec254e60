use Rattle.promises.proofs.RegisterLaws.{promises}
use Rattle.promises.proofs.Stored.{holds_none, holds_from}
use Rattle.promises.proofs.StoredCopies.{copies_none}
use Rattle.register.proofs.open.Register+Open.open.Goals as goal

pub invariant_of-result : goal.invariant_of-result
invariant_of-result c = record { held = holds_from (holds_none c.args.memory.now); copies = ∣ copies_none ∣₁ }

pub returns-clause-promises : goal.returns-clause-promises
returns-clause-promises c = promises c.args.memory.now
