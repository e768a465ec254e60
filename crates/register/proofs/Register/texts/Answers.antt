use Rattle.promises.proofs.Stored.{holds_true}
use Rattle.register.proofs.Laid.{laid_held}
use Rattle.register.proofs.Register.texts.Goals as goal

pub invariant_of-result : goal.invariant_of-result
invariant_of-result g c =
    let self = c.args.self.now in
    record { laid = laid_held (holds_true self.memory.now self.used self.count self.held); copies = self.copies }
