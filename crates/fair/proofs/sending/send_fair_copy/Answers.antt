use Rattle.std.proofs.Common.{refl}
use Rattle.fair.proofs.sending.send_fair_copy.Goals as goal

pub returns : goal.returns
returns g c = λ m k o n bound. c.send_text.ensures _ (record { document = m; marks = k; in_order = o; all_named = n; is = refl }) bound
