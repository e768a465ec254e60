use Rattle.rules.specs.Markup.{pieces_text}
use Rattle.rules.specs.Texts.{pieces}
use Rattle.kinds.specs.Reading.{rest}
use Rattle.fair.proofs.Progress.{Left}
use Rattle.fair.proofs.values.write_kept.Given as goal

abbrev pub invariant-loop-byte : goal.invariant-loop-byte
invariant-loop-byte g l = Left g.W.Writer.writing l.initial.to (pieces_text (pieces (rest l.initial.byte-iterator))) (pieces_text (pieces (rest l.byte-iterator))) l.to
