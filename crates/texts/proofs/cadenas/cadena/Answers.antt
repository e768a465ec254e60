use Rattle.std.proofs.Common.{Err, refl, ap, ◌∙◌}
use Rattle.std.proofs.lemmas.Result.{err_from_is_err_and}
use Rattle.rules.specs.Located.{elements_of}
use Rattle.rules.specs.Values.{values_of}
use Rattle.theory.proofs.ShapeLaws.{lawful_has_shape}
use Rattle.texts.specs.Answered.{refused, sent}
use Rattle.texts.proofs.Judged.{in_order, well_named, cadena_fits}
use Rattle.texts.proofs.cadenas.cadena.Goals as goal

pub returns-in_err-check : goal.returns-in_err-check
returns-in_err-check g c =
    let p = err_from_is_err_and c.from_residual.result c.from_residual.ensures.1 in
    refused c.in_err-check.field-0.0 c.in_err-check.ensures.judged (p.1 ∙ ap Err p.2) refl

pub returns : goal.returns
returns g c =
    let p = c.in_ok-check.ensures.passes in
    let l = p.lawful in
    let shape = lawful_has_shape _ _ l in
    let m = p.has_values.0 in
    let k = p.has_values.1 in
    sent (values_of (elements_of m)) l (m, k, refl)
    (c.send_cadena.ensures m k (in_order _ shape m k) (λ s f a x. well_named _ shape m k s a f x) (cadena_fits _ shape (values_of (elements_of m)) (m, k, refl)))
