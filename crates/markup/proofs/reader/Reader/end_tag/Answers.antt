use Rattle.std.proofs.Common.{[]}
use Rattle.markup.specs.Machine.{ending, closed}
use Rattle.markup.proofs.Scanning.{shares}
use Rattle.markup.proofs.Steps.{refused}
use Rattle.markup.proofs.Parts.{misnamed, end_named, awaits_ending}
use Rattle.markup.proofs.reader.Reader.end_tag.Goals as goal

pub returns-then-shared-name-clause-reads : goal.returns-then-shared-name-clause-reads
returns-then-shared-name-clause-reads c =
    let told = c.shared.ensures in
    λ s e. rw told.same (refused told.to (misnamed s (shares c.args.self.now.inside told.is) e c.if-shared-name.true))

pub returns-clause-reads : goal.returns-clause-reads
returns-clause-reads c =
    let told = c.shared.ensures in
    λ s e. c.expect.ensures.reads (ending [] s) (closed s) (awaits_ending s) (rw (told.same, told.to) (end_named s (shares c.args.self.now.inside told.is) e c.if-shared-name.false))
