use Rattle.std.proofs.Common.{refl, rules}
use Rattle.rules.specs.Kept.{resolved, kept}
use Rattle.fair.proofs.Progress.{more_written, rest_written, refused}
use Rattle.fair.proofs.Parts.{attribute_left}
use Rattle.fair.proofs.values.write_attribute.Goals as goal

pub returns-in_err-send : goal.returns-in_err-send
returns-in_err-send g c = refused (search rules) _ c.in_err-send.ensures (more_written c.in_ok-write.ensures (attribute_left c.args.name.now (kept (resolved c.args.raw.now)) _ refl))

pub returns-in_err-send-2 : goal.returns-in_err-send-2
returns-in_err-send-2 g c =
    refused (search rules) _ c.in_err-send-2.ensures (more_written c.in_ok-send.ensures (more_written c.in_ok-write.ensures (attribute_left c.args.name.now (kept (resolved c.args.raw.now)) _ refl)))

pub returns-in_err-write_kept : goal.returns-in_err-write_kept
returns-in_err-write_kept g c =
    refused (search rules) _ c.in_err-write_kept.ensures
    (more_written c.in_ok-send-2.ensures (more_written c.in_ok-send.ensures (more_written c.in_ok-write.ensures (attribute_left c.args.name.now (kept (resolved c.args.raw.now)) _ c.new.ensures))))

pub returns : goal.returns
returns g c =
    rest_written c.write-2.ensures
    (more_written c.in_ok-write_kept.ensures
    (more_written c.in_ok-send-2.ensures (more_written c.in_ok-send.ensures (more_written c.in_ok-write.ensures (attribute_left c.args.name.now (kept (resolved c.args.raw.now)) _ c.new.ensures)))))
