use Rattle.std.proofs.Common.{codes, [], ◌∷◌, ap, ◌∙◌, arith}
use Rattle.std.specs.Bool.{then_some}
use Rattle.catalogues.proofs.Scans.{any_one_of, then_some-when, same_length}
use Rattle.catalogues.proofs.ruled.by_form.Goals as goal

pub returns-in-TipoFactor : goal.returns-in-TipoFactor
returns-in-TipoFactor c =
    rw c.in-TipoFactor.is
    (c.then_some-in-TipoFactor.ensures
    ∙ ap (λ b. then_some b 0) (c.contains-in-TipoFactor.ensures.value ∙ any_one_of c.args.code.now (codes "Tasa" ∷ codes "Cuota" ∷ codes "Exento" ∷ []))
    ∙ then_some-when _ 0)

pub returns-in_default : goal.returns-in_default
returns-in_default c =
    let s = c.args.code.now in
    rw (c.in-Moneda.is, same_length s (codes "MXN") (λ e. omega arith), same_length s (codes "USD") (λ e. omega arith), same_length s (codes "XXX") (λ e. omega arith))

pub returns-in_default-9 : goal.returns-in_default-9
returns-in_default-9 c =
    let s = c.args.code.now in
    rw (c.in-Moneda.is, same_length s (codes "MXN") (λ e. omega arith), same_length s (codes "USD") (λ e. omega arith), same_length s (codes "XXX") (λ e. omega arith))
