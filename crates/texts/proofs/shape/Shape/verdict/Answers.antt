use Rattle.std.proofs.Common.{refl}
use Rattle.texts.proofs.Judged.{shape_told}
use Rattle.texts.proofs.shape.Shape.verdict.Goals as goal

pub returns : goal.returns
returns c = record { told = refl; shape = shape_told _ c.args.self.now.found c.args.self.now.ok }
