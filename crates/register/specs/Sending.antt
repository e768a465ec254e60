-- What a call of a register does that sends to a sink.
use Rattle.std.specs.Prelude.{◌≡◌, Result}
use Rattle.rules.specs.declared.grounds.Fault.{Fault}
use Rattle.rules.specs.Sinks.{Sink}
use Rattle.rules.specs.Register.{State, Call, sending, Step}
use Rattle.sinks.specs.declared.sink.Sink.{Ghosts}

-- a call that sends to a sink, which was k and is k': the step of the register, the rule of the sink, and what else of the sink stays
pub record Sends {S : Type 0} (sink : Ghosts S) (s : State) (call : Sink → Call) (k : S) (r : Result (Unit {0}) Fault) (k' : S) (t : State) : Type 0 where
  pub step : Step s (call (record { allows = sink.allows k; taken = sink.taken k })) (sending r (sink.taken k')) t
  pub same_rule : sink.allows k' ≡ sink.allows k
  pub stayed : sink.stays.since k k'
