-- What a register in memory means.
use Rattle.std.specs.Prelude.{List, ℕ}
use Rattle.rules.specs.Register.{Phase, State, opened, closed}
use Rattle.promises.specs.Stored.{decoded, state_at}
use Rattle.register.specs.declared.Register.{Register}
use Rattle.register.specs.declared.phases.Open.{Open}
use Rattle.register.specs.declared.phases.Closed.{Closed}

-- the register that one in a phase means
abbrev pub state_of : {P : Type 0} → Phase → Register P → State
state_of p r = state_at p r.memory.now r.used r.count

-- the register that an open one means
abbrev pub open_state : Register Open → State
open_state r = state_of opened r

-- the register that a closed one means
abbrev pub closed_state : Register Closed → State
closed_state r = state_of closed r

-- the fair copies of entries in memory
abbrev pub texts : {P : Type 0} → Register P → List (List ℕ)
texts r = decoded r.count r.memory.now
