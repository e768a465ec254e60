use Rattle.std.proofs.Common.{◌≡◌, min, length}
use Rattle.tags.proofs.Parts.{clamped}
use Rattle.tags.proofs.attributes.Span.of.Goals as goal

pub returns : goal.returns
returns c =
    let start : c.min-start.result ≡ min c.args.self.start c.min-end.result = cc in
    let stop : c.min-end.result ≡ min c.args.self.end (length c.args.document.now) = cc in
    clamped c.args.document.now c.args.self.start c.args.self.end _ _ start stop
