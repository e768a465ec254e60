use Rattle.std.proofs.Common.{refl}
use Rattle.rules.specs.Kinds.{code_ok}
use Rattle.kinds.proofs.Solid.{code_solid}
use Rattle.kinds.proofs.Trims.{kept_piece}
use Rattle.kinds.proofs.codes.code.Goals as goal

pub returns : goal.returns
returns c = kept_piece code_ok code_solid c.args.raw.now c.piece-text.result.now c.piece-text.ensures.part _ c.is_code.ensures _ refl _ c.then_some.ensures
