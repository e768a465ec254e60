use Rattle.std.proofs.Common.{◌≡◌, ◌-◌, ◌<◌, length}
use Rattle.markup.specs.Machine.{Stack, tag}
use Rattle.markup.specs.Reads.{GoesOn, Begun}
use Rattle.markup.proofs.reader.Reader.start_tag.Given as goal

abbrev pub invariant-loop-b : goal.invariant-loop-b
invariant-loop-b l = record {
  same : l.self.doc.now ≡ l.fn.self.doc.now;
  further : l.fn.self.at < l.self.at;
  reads : (s : Stack) → Begun l.fn.self s → GoesOn l.self (tag l.tag.state l.name s);
}

abbrev pub decreases-loop-b : goal.decreases-loop-b
decreases-loop-b l = length l.self.doc.now - l.self.at
