use Rattle.std.proofs.Common.{refl, rules}
use Rattle.fair.proofs.Progress.{more_written, rest_written, refused}
use Rattle.fair.proofs.Parts.{end_left}
use Rattle.fair.proofs.copy.write_end.Goals as goal

pub returns-in_err-send : goal.returns-in_err-send
returns-in_err-send g c = refused (search rules) _ c.in_err-send.ensures (end_left c.args.node _ refl)

pub returns-in_err-send-2 : goal.returns-in_err-send-2
returns-in_err-send-2 g c = refused (search rules) _ c.in_err-send-2.ensures (more_written c.in_ok-send.ensures (end_left c.args.node _ c.tag.ensures))

pub returns : goal.returns
returns g c = rest_written c.write.ensures (more_written c.in_ok-send-2.ensures (more_written c.in_ok-send.ensures (end_left c.args.node _ c.tag.ensures)))
