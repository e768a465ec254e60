use Rattle.std.proofs.Common.{refl}
use Rattle.fair.proofs.sending.fair_copy_length.Goals as goal

pub returns : goal.returns
returns c = λ m k o n bound. c.text_length.ensures _ (record { document = m; marks = k; in_order = o; all_named = n; is = refl }) bound
