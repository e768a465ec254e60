use Rattle.std.proofs.Common.{arith}
use Rattle.std.proofs.lemmas.Iterator.Consumers.{nth_from_yields_List, YieldsList-from_first}
use Rattle.promises.specs.Stored.{decoded}
use Rattle.promises.proofs.Stored.{length_decoded, no_entry_past}
use Rattle.register.specs.States.{texts}
use Rattle.register.proofs.Places.{nth_given}
use Rattle.register.proofs.Register.text.Goals as goal

pub returns-then-number-self : goal.returns-then-number-self
returns-then-number-self g c =
    let s = c.args.self.now in
    no_entry_past (texts s) c.args.number (omega (arith, length_decoded s.count s.memory.now, c.if-number-self.true))

pub returns : goal.returns
returns g c = nth_given (texts c.args.self.now) c.in_ok-before.before c.args.number (omega arith) c.nth.result (nth_from_yields_List c.nth.result c.nth.new.self c.in_ok-before.before c.nth.ensures.ran (YieldsList-from_first (λ x. x.now) (λ s. decoded s.left s.rest.now) (texts c.args.self.now) c.texts.ensures))
