use Rattle.std.proofs.Common.{refl}
use Rattle.rules.specs.Kinds.{date_time_ok}
use Rattle.kinds.proofs.Solid.{date_time_solid}
use Rattle.kinds.proofs.Trims.{kept_piece}
use Rattle.kinds.proofs.dates.date_time.Goals as goal

pub returns : goal.returns
returns c = kept_piece date_time_ok date_time_solid c.args.raw.now c.piece-text.result.now c.piece-text.ensures.part _ c.is_date_time.ensures _ refl _ c.then_some.ensures
