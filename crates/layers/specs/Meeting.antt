-- What is found at a node that a walk meets.
use Rattle.std.specs.Prelude.{◌<◌}
use Rattle.rules.specs.Grounds.{Standing}
use Rattle.rules.specs.declared.grounds.Fault.{Fault}
use Rattle.walk.specs.Events.{Start, Occurrence, opened, closed}

-- the node that is opened, with its place and attributes
abbrev pub opened_node : Start → Standing
opened_node s = record { kind = s.node; at = s.place; givens = s.givens }

-- what is found where a node is opened; nothing is found where one is closed
abbrev pub Met : (Standing → Fault → Type 0) → Occurrence → Fault → Type 0
Met P (opened s) f = P (opened_node s) f
Met P (closed k) f = ⊥

-- the attributes of a node begin after its '<'
abbrev pub Starts : Occurrence → Type 0
Starts (opened s) = s.place < s.attributes
Starts (closed k) = Unit {0}
