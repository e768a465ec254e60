use Rattle.std.proofs.Common.{sym}
use Rattle.rules.specs.Register.{closed}
use Rattle.promises.proofs.Stored.{holds_true, memory_at}
use Rattle.register.proofs.Asking.{all_read_out}
use Rattle.register.proofs.closed.Register+Closed.read_out.Goals as goal

pub returns-clause-step : goal.returns-clause-step
returns-clause-step g c = all_read_out {sink = g.S.Sink} c.args.self c.texts.ensures c.send_text-answer.ensures

pub returns-clause-memory : goal.returns-clause-memory
returns-clause-memory g c =
    let self = c.args.self in
    sym (memory_at closed (holds_true self.memory.now self.used self.count self.held))
