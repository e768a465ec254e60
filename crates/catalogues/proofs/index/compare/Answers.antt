use Rattle.std.proofs.Common.{◌≡◌, [], ◌∷◌, sym, ap, ◌∙◌, arith}
use Rattle.std.specs.Cmp.Lexicographic.{slice_cmp}
use Rattle.std.specs.Ordering.{nat_cmp, ordering_then}
use Rattle.std.specs.declared.cmp.Ordering.TheVariants.{Less}
use Rattle.std.proofs.lemmas.List.{nil_from_length, take_rest}
use Rattle.catalogues.proofs.Orders.{cmp_parts, cmp_first}
use Rattle.catalogues.proofs.index.compare.Goals as goal

pub returns-in-empty : goal.returns-in-empty
returns-in-empty c =
    let back = c.split_at.result.1.now in
    let none : back ≡ [] = nil_from_length back (omega arith) in
    c.then.ensures
    ∙ ap (λ o. ordering_then o Less) c.cmp-order.ensures
    ∙ ap (λ b. ordering_then (slice_cmp nat_cmp c.split_at.result.0.now c.args.name.now) (slice_cmp nat_cmp b (124 ∷ c.args.code.now))) (sym none)
    ∙ sym (cmp_parts c.args.key.now c.args.name.now (124 ∷ c.args.code.now) c.split_at.result.0.now back c.min.result c.min.ensures c.split_at.ensures.front c.split_at.ensures.back)

pub returns-in-len1-up : goal.returns-in-len1-up
returns-in-len1-up c =
    let back = c.split_at.result.1.now in
    let rest = c.cmp-in-len1-up.ensures ∙ ap (λ l. slice_cmp nat_cmp l c.args.code.now) (take_rest back 1) in
    c.then-in-len1-up-2.ensures
    ∙ ap (λ o. ordering_then o c.cmp-in-len1-up.result) (c.then-in-len1-up.ensures ∙ ap (λ o. ordering_then o c.cmp.result) c.cmp-order.ensures)
    ∙ cmp_first back c.args.code.now _ c.cmp.result c.cmp-in-len1-up.result c.in-len1-up.len_at_least c.cmp.ensures rest
    ∙ sym (cmp_parts c.args.key.now c.args.name.now (124 ∷ c.args.code.now) c.split_at.result.0.now back c.min.result c.min.ensures c.split_at.ensures.front c.split_at.ensures.back)
