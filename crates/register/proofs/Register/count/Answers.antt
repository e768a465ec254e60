use Rattle.register.proofs.Live.{still_there}
use Rattle.std.proofs.Common.{sym, refl, ap}
use Rattle.rules.specs.Register.{counting}
use Rattle.promises.proofs.Stored.{length_decoded}
use Rattle.register.proofs.Register.count.Goals as goal

pub returns : goal.returns
returns g c = (still_there _ g.P.Phase.answers, (ap counting (sym (length_decoded c.args.self.now.count c.args.self.now.memory.now)), refl))
