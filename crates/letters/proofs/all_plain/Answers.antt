use Rattle.std.proofs.Common.{take, ap, ◌∙◌}
use Rattle.std.proofs.lemmas.List.{take_more, take_all}
use Rattle.rules.specs.Bytes.{all}
use Rattle.letters.specs.Plain.{plain_byte}
use Rattle.letters.proofs.Bytes.{all_more}
use Rattle.letters.proofs.all_plain.Goals as goal

pub loop-b-preserved : goal.loop-b-preserved
loop-b-preserved c =
    let bs = c.args.bytes.now in
    let i = c.loop-b.b-index in
    let e = ap (all plain_byte) (take_more bs i 0 c.loop-b-test.true) ∙ all_more plain_byte (take i bs) _ in cc

pub returns : goal.returns
returns c = c.loop-b.invariant ∙ ap (all plain_byte) (take_all _ _ c.loop-b-test.false)
