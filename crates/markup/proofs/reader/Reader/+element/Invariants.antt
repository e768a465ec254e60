use Rattle.std.proofs.Common.{◌≡◌, ◌+◌, ◌-◌, ◌<◌, length}
use Rattle.markup.specs.Machine.{Stack, inside}
use Rattle.markup.specs.Reads.{GoesOn, Begun}
use Rattle.markup.proofs.reader.Reader.+element.Given as goal

abbrev pub decreases-element : goal.decreases-element
decreases-element l = l.depth

abbrev pub invariant-loop-self : goal.invariant-loop-self
invariant-loop-self l = record {
  same : l.self.doc.now ≡ l.fn.self.doc.now;
  further : l.fn.self.at < l.self.at;
  reads : (s : Stack) → length s + l.depth ≡ 5 → Begun l.fn.self s → GoesOn l.self (inside l.name s);
}

abbrev pub decreases-loop-self : goal.decreases-loop-self
decreases-loop-self l = length l.self.doc.now - l.self.at
