use Rattle.std.proofs.Common.{◌≡◌, ◌^◌, ◌<◌, drop}
use Rattle.std.specs.Char.{is_ascii_digit}
use Rattle.rules.specs.Bytes.{all}
use Rattle.rules.specs.Kinds.{number, number_from}
use Rattle.kinds.proofs.classes.numeral.Given as goal

abbrev pub invariant-loop-b : goal.invariant-loop-b
invariant-loop-b l = (l.n < 10 ^ l.b-index) × (all is_ascii_digit (drop l.b-index l.text) ≡ all is_ascii_digit l.text) × (number_from l.n (drop l.b-index l.text) ≡ number l.text)
