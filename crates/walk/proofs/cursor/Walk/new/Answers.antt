use Rattle.std.proofs.Common.{refl}
use Rattle.walk.proofs.Starting.{comes_first}
use Rattle.walk.proofs.cursor.Walk.new.Goals as goal

pub returns : goal.returns
returns c = record { same = refl; comes = λ m h good. comes_first c.args.document.now m h good c.content_start.result (c.content_start.ensures.is m h) }
