use Rattle.std.proofs.Common.{true, sym, subst, rules}
use Rattle.rules.specs.Located.{elements_of}
use Rattle.rules.specs.Markup.{Marks}
use Rattle.rules.specs.Texts.{fields}
use Rattle.rules.specs.Values.{values_of}
use Rattle.walk.specs.Coming.{InOrder}
use Rattle.original.specs.Joined.{text_in}
use Rattle.original.proofs.Joining.{fields_written}
use Rattle.original.proofs.cadena.write_fields.Goals as goal

pub returns : goal.returns
returns g c = λ m h good named.
    let same = sym c.new.ensures.document in
    let writer = c.all.ensures.same.writer in
    fields_written (fields (λ k. true) (values_of (elements_of m))) c.new.ensures.to c.new.ensures.begun (search rules) (c.all.ensures.wrote m (subst (λ d. Marks d m) same h) (subst (λ d. InOrder d m) same good) named (λ i. record { retained = text_in c.new.result.document.now (c.new.ensures.retained i); transferred = text_in c.new.result.document.now (c.new.ensures.transferred i) }))
