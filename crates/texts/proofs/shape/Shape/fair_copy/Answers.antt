use Rattle.std.proofs.Common.{Err, sym, refl, ap, ◌∙◌}
use Rattle.std.proofs.lemmas.Result.{err_from_is_err_and}
use Rattle.rules.specs.Located.{elements_of}
use Rattle.rules.specs.Values.{values_of}
use Rattle.theory.proofs.ShapeLaws.{copy_keeps_shape}
use Rattle.texts.specs.OfShape.{refused, sent}
use Rattle.texts.proofs.Judged.{in_order, well_named, copy_fits}
use Rattle.texts.proofs.shape.Shape.fair_copy.Goals as goal

pub returns-in_err-verdict : goal.returns-in_err-verdict
returns-in_err-verdict g c =
    let p = err_from_is_err_and c.from_residual.result c.from_residual.ensures.1 in
    record { answered = refused c.in_err-verdict.field-0.0 (sym c.in_err-verdict.ensures.told) (p.1 ∙ ap Err p.2) refl; law = copy_keeps_shape _ }

pub returns : goal.returns
returns g c =
    let h = c.in_ok-verdict.ensures.shape in
    let shape = h.shaped in
    let m = h.has_values.0 in
    let k = h.has_values.1 in
    record {
      answered =
          sent (values_of (elements_of m)) (sym c.in_ok-verdict.ensures.told) shape (m, k, refl)
          (c.send_fair_copy.ensures m k (in_order _ shape m k) (well_named _ shape m k) (copy_fits _ shape (values_of (elements_of m)) (m, k, refl)));
      law = copy_keeps_shape _;
    }
