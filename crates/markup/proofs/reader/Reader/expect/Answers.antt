use Rattle.std.proofs.Common.{◌≡◌, ◌<◌, length, get_or, refl, sym, rules}
use Rattle.rules.specs.Bytes.{blank}
use Rattle.markup.proofs.Scanning.{Skips, skips}
use Rattle.markup.proofs.Steps.{refused, awaited, unawaited}
use Rattle.markup.proofs.reader.Reader.expect.Goals as goal
use Rattle.markup.proofs.reader.Reader.expect.Goals.{After-skip}

-- the blanks that are skipped
scan : (c : After-skip) → Skips blank c.skip.new.self.doc.now c.args.self.now.at c.skip.new.self.at
scan c = rw c.skip.ensures.same (skips c.args.self.now.inside c.skip.ensures.is)

pub returns-then-ne-clause-reads : goal.returns-then-ne-clause-reads
returns-then-ne-clause-reads c =
    let h = scan (goal.at.returns-then-ne-clause-reads c).After-skip in
    rw (sym c.skip.ensures.same) (λ p q w k. refused refl (unawaited w h k (λ lt e. search rules)))

pub returns-clause-reads : goal.returns-clause-reads
returns-clause-reads c =
    let h = scan (goal.at.returns-clause-reads c).After-skip in
    let lt : c.skip.new.self.at < length c.skip.new.self.doc.now = search rules in
    let is : get_or c.skip.new.self.doc.now c.skip.new.self.at 0 ≡ c.args.mark = search rules in
    rw (sym c.skip.ensures.same) (λ p q w k. awaited w h k _ refl lt is)
