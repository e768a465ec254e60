use Rattle.std.proofs.Common.{rules}
use Rattle.register.proofs.Cadenas.{cadena_refused, feed_refused, line_written, all_written}
use Rattle.register.proofs.texts.TextsText.write.Goals as goal

pub returns-in_err-write : goal.returns-in_err-write
returns-in_err-write g c = cadena_refused c.in-Some.ensures.steps c.loop-text.text-iterator.copies (search rules) c.in_err-write.ensures c.loop-text.invariant.2

pub returns-in_err-write-2 : goal.returns-in_err-write-2
returns-in_err-write-2 g c = feed_refused c.in-Some.ensures.steps c.loop-text.text-iterator.copies (search rules) c.in_ok-write.ensures c.in_err-write-2.ensures c.loop-text.invariant.2

pub loop-text-preserved : goal.loop-text-preserved
loop-text-preserved g c = (tt, tt, line_written c.in-Some.ensures.steps c.loop-text.text-iterator.copies c.in_ok-write.ensures c.in_ok-write-2.ensures c.loop-text.invariant.2)

pub returns : goal.returns
returns g c = all_written c.in-None.ensures.steps.0 c.loop-text.invariant.2
