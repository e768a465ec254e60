use Rattle.std.proofs.Common.{ap, ◌∙◌, refl}
use Rattle.catalogues.proofs.Scans.{line_read}
use Rattle.catalogues.proofs.lines.line_from.Goals as goal

pub returns : goal.returns
returns c = ap (λ x. x.now) c.unwrap_or.ensures ∙ line_read c.args.text.now c.args.at c.skip-end.result c.get.result _ c.skip-end.ensures.is c.skip-end.ensures.within c.get.ensures.lookup refl
