use Rattle.std.proofs.Common.{[], inl, inr, arith}
use Rattle.rules.specs.Markup.{declaration}
use Rattle.markup.specs.Machine.{before, start}
use Rattle.markup.proofs.Scanning.{Shares, shares}
use Rattle.markup.proofs.Steps.{refused}
use Rattle.markup.proofs.Parts.{cut_off, root_begun, before_root, awaits_before}
use Rattle.markup.proofs.reader.Reader.prolog.Goals as goal
use Rattle.markup.proofs.reader.Reader.prolog.Goals.{After-shared}

-- how much of the declaration stands at the start
head : (c : After-shared) → Shares c.args.self.now.doc.now c.args.self.now.at declaration c.shared.result
head c = shares c.args.self.now.inside c.shared.ensures.is

pub returns-in-0-clause-reads : goal.returns-in-0-clause-reads
returns-in-0-clause-reads c =
    let told = c.shared.ensures in
    λ zero. c.expect.ensures.reads before (start []) awaits_before (rw (told.same, told.to) (before_root zero (head (goal.at.returns-in-0-clause-reads c).After-shared) (inl c.in-0.is)))

pub returns-in-1-clause-reads : goal.returns-in-1-clause-reads
returns-in-1-clause-reads c =
    let told = c.shared.ensures in
    λ zero. rw (told.same, told.to) (root_begun zero (head (goal.at.returns-in-1-clause-reads c).After-shared) c.in-1.is)

pub returns-in_default-clause-reads : goal.returns-in_default-clause-reads
returns-in_default-clause-reads c =
    let told = c.shared.ensures in
    λ zero. c.expect-in_default.ensures.reads before (start []) awaits_before (rw (told.same, told.to) (before_root zero (head (goal.at.returns-in_default-clause-reads c).After-shared) (inr (omega arith))))

pub returns-in_default-2-clause-reads : goal.returns-in_default-2-clause-reads
returns-in_default-2-clause-reads c =
    let told = c.shared.ensures in
    let h = head (goal.at.returns-in_default-2-clause-reads c).After-shared in
    λ zero. rw told.same (refused told.to (cut_off zero h (omega arith) (omega (arith, h.short))))
