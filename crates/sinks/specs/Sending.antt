-- What a call that sends a text to a sink does.
use Rattle.std.specs.Prelude.{ℕ, List, Result}
use Rattle.rules.specs.declared.grounds.Fault.{Fault}
use Rattle.rules.specs.Sinks.{Sent}
use Rattle.sinks.specs.declared.sink.Sink.{Ghosts}

-- a call sent a text to a sink, which was s and is s'
pub record SentTo {S : Type 0} (sink : Ghosts S) (s : S) (text : List ℕ) (answer : Result (Unit {0}) Fault) (s' : S) : Type 0 where
  pub sent : Sent (sink.allows s) (sink.taken s) text answer (sink.allows s') (sink.taken s')
  pub stayed : sink.stays.since s s'
