-- The node that an event opens.
use Rattle.std.specs.Prelude.{Some, None, Option}
use Rattle.walk.specs.declared.event.Event.{Event}
use Rattle.walk.specs.declared.event.Event.TheVariants as event
use Rattle.walk.specs.declared.event.Opened.{Opened}

-- the node that an event opens, if it opens one
abbrev pub opening : Event → Option Opened
opening (event.Opened o) = Some o
opening (event.Closed k) = None
