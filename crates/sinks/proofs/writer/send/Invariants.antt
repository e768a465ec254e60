use Rattle.std.proofs.Common.{true, take}
use Rattle.sinks.specs.Writers.{Written}
use Rattle.sinks.proofs.writer.send.Given as goal

abbrev pub invariant-loop-byte : goal.invariant-loop-byte
invariant-loop-byte g l = Written g.W.Writer.writing l.initial.to (take l.byte-index l.bytes) true l.to
