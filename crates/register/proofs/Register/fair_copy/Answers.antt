use Rattle.register.proofs.Live.{still_there}
use Rattle.register.specs.States.{texts}
use Rattle.register.proofs.Places.{nth_there}
use Rattle.register.proofs.Asking.{copy_asked}
use Rattle.register.proofs.Register.fair_copy.Goals as goal

pub returns : goal.returns
returns g c = copy_asked c.args.self.now g.P.Phase.phase (still_there _ g.P.Phase.answers) (nth_there (texts c.args.self.now) c.args.number _ c.text.result c.in_ok-copy.ensures.value c.text.ensures) c.send_to.ensures
