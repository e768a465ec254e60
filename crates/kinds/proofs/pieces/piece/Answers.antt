use Rattle.std.proofs.Common.{◌∙◌}
use Rattle.kinds.proofs.Trims.{both_ends, kept_is_piece}
use Rattle.kinds.proofs.pieces.piece.Goals as goal

pub returns : goal.returns
returns c =
    let ends = c.blanks_after.ensures in
    let part = both_ends c.args.raw.now c.skip.result c.blanks_after.result c.skip.ensures.is ends.within ends.blanks ends.ended in
    record { part = part; kept = λ h. part ∙ kept_is_piece c.args.raw.now h }
