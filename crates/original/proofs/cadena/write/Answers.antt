use Rattle.std.proofs.Common.{true, codes, rules}
use Rattle.rules.specs.Located.{elements_of}
use Rattle.rules.specs.Texts.{fields, joined}
use Rattle.rules.specs.Values.{values_of}
use Rattle.sinks.proofs.Sending.{then, cut, passed_on}
use Rattle.original.proofs.cadena.write.Goals as goal

pub returns-in_err-send : goal.returns-in_err-send
returns-in_err-send g c = λ m h good named. passed_on (search rules) (cut (cut c.in_err-send.ensures (joined (fields (λ k. true) (values_of (elements_of m))))) (codes "||"))

pub returns-in_err-write_fields : goal.returns-in_err-write_fields
returns-in_err-write_fields g c = λ m h good named. passed_on (search rules) (cut (then c.in_ok-send.ensures (c.in_err-write_fields.ensures m h good named)) (codes "||"))

pub returns : goal.returns
returns g c = λ m h good named. then (then c.in_ok-send.ensures (c.in_ok-write_fields.ensures m h good named)) c.send-2.ensures
