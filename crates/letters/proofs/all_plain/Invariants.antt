use Rattle.std.proofs.Common.{◌≡◌, take}
use Rattle.rules.specs.Bytes.{all}
use Rattle.letters.specs.Plain.{plain_byte}
use Rattle.letters.proofs.all_plain.Given as goal

abbrev pub invariant-loop-b : goal.invariant-loop-b
invariant-loop-b l = l.plain ≡ all plain_byte (take l.b-index l.bytes)
