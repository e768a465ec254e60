use Rattle.std.proofs.Common.{refl, rules}
use Rattle.std.proofs.lemmas.Bool.{cond-true, cond-false}
use Rattle.fair.proofs.Progress.{more_written, rest_written, refused}
use Rattle.fair.proofs.Parts.{start_left}
use Rattle.fair.proofs.copy.write_start.Goals as goal

pub returns-in_err-write : goal.returns-in_err-write
returns-in_err-write g c = λ gs t low named.
    refused (search rules) _ c.in_err-write.ensures
    (start_left c.in-Ok.slots.document.now c.args.opened.node c.in-Ok.slots.spans c.args.opened.childless _ _ c.in-Ok.ensures.document t c.in-Ok.ensures.holds refl refl)

pub returns-in_err-send : goal.returns-in_err-send
returns-in_err-send g c = λ gs t low named.
    refused (search rules) _ c.in_err-send.ensures
    (more_written c.in_ok-write.ensures
    (start_left c.in-Ok.slots.document.now c.args.opened.node c.in-Ok.slots.spans c.args.opened.childless _ _ c.in-Ok.ensures.document t c.in-Ok.ensures.holds c.tag.ensures refl))

pub returns-in_err-write_attributes : goal.returns-in_err-write_attributes
returns-in_err-write_attributes g c = λ gs t low named.
    refused (search rules) _ c.in_err-write_attributes.ensures
    (more_written c.in_ok-send.ensures
    (more_written c.in_ok-write.ensures
    (start_left c.in-Ok.slots.document.now c.args.opened.node c.in-Ok.slots.spans c.args.opened.childless _ _ c.in-Ok.ensures.document t c.in-Ok.ensures.holds c.tag.ensures refl)))

pub returns-then-opened : goal.returns-then-opened
returns-then-opened g c = λ gs t low named.
    rest_written c.send-then-opened.ensures
    (more_written c.in_ok-write_attributes.ensures
    (more_written c.in_ok-send.ensures
    (more_written c.in_ok-write.ensures
    (start_left c.in-Ok.slots.document.now c.args.opened.node c.in-Ok.slots.spans c.args.opened.childless _ _ c.in-Ok.ensures.document t c.in-Ok.ensures.holds c.tag.ensures (cond-true _ _ _ c.if-opened.true)))))

pub returns : goal.returns
returns g c = λ gs t low named.
    rest_written c.write-2.ensures
    (more_written c.in_ok-write_attributes.ensures
    (more_written c.in_ok-send.ensures
    (more_written c.in_ok-write.ensures
    (start_left c.in-Ok.slots.document.now c.args.opened.node c.in-Ok.slots.spans c.args.opened.childless _ _ c.in-Ok.ensures.document t c.in-Ok.ensures.holds c.tag.ensures (cond-false _ _ _ c.if-opened.false)))))
