use Rattle.std.proofs.Common.{◌≡◌, ◌&&◌, ◌∷◌, ◌++◌, sym, ap, ◌∙◌}
use Rattle.rules.specs.Kinds.{code_ok}
use Rattle.catalogues.specs.Lines.{is_named, pair_ok}
use Rattle.catalogues.proofs.Scans.{pair_missing, pair_parts, told_where}
use Rattle.catalogues.proofs.lines.pair.Goals as goal
use Rattle.catalogues.proofs.lines.pair.Goals.{then-is_name, else-is_name}

pub returns-in_err-code : goal.returns-in_err-code
returns-in_err-code c =
    let s = c.args.text.now in
    let h = pair_missing s c.split_at.result.1.now c.skip.result c.skip.ensures.is c.split_at.ensures.back c.in_err-code.ensures.cases in
    rw c.from_residual.ensures h

pub returns : goal.returns
returns c =
    let s = c.args.text.now in
    let name = c.split_at.result.0.now in
    let code = c.in_ok-code.code.now in
    let (e, f) = pair_parts s c.split_at.result.1.now c.skip.result c.skip.ensures.is c.split_at.ensures.back name code c.split_at.ensures.front c.in_ok-code.ensures.cases.1 c.in_ok-code.ensures.cases.0 in
    let b : c.if-is_name.then_some ≡ (is_named name && code_ok code) =
    elim c.if-is_name.branch [
      | then-is_name w ↦ w.then_some-is ∙ w.is_code.ensures ∙ ap (λ x. x && code_ok code) (sym w.if-is_name.true ∙ c.is_name.ensures)
      | else-is_name w ↦ w.then_some-is ∙ w.if-is_name.false ∙ ap (λ x. x && code_ok code) (sym w.if-is_name.false ∙ c.is_name.ensures)
    ] in
    told_where (λ p. s ≡ p.0.now ++ 124 ∷ p.1.now) (pair_ok s) c.if-is_name.then_some (c.split_at.result.0, c.in_ok-code.code) c.then_some.result (b ∙ sym e) c.then_some.ensures f
