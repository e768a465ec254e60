use Rattle.std.proofs.lemmas.Result.{err_from_is_err_and}
use Rattle.layers.proofs.Layered.{letters_first, markup_first, tree_first, names_first, passed}
use Rattle.layers.proofs.judging.judge_layers.Goals as goal

pub returns-in_err-check : goal.returns-in_err-check
returns-in_err-check g c =
    let told = err_from_is_err_and c.from_residual.result c.from_residual.ensures.1 in
    let e = letters_first (g.C.CatalogueSet.facts c.args.set.now) c.args.document.now c.in_err-check.field-0.0 c.in_err-check.ensures in
    record { judged = rw (told.1, told.2) e.first; early = rw (told.1, told.2) e.early }

pub returns-in_err-check-2 : goal.returns-in_err-check-2
returns-in_err-check-2 g c =
    let told = err_from_is_err_and c.from_residual-in_err-check-2.result c.from_residual-in_err-check-2.ensures.1 in
    let e = markup_first (g.C.CatalogueSet.facts c.args.set.now) c.args.document.now c.in_ok-check.ensures c.in_err-check-2.field-0.0 c.in_err-check-2.ensures.judged.0 in
    record { judged = rw (told.1, told.2) e.first; early = rw (told.1, told.2) e.early }

pub returns-in_err-tree : goal.returns-in_err-tree
returns-in_err-tree g c =
    let told = err_from_is_err_and c.from_residual-in_err-tree.result c.from_residual-in_err-tree.ensures.1 in
    let (m, k) = c.in_ok-check-2.ensures.marked in
    let e = tree_first (g.C.CatalogueSet.facts c.args.set.now) c.args.document.now c.in_ok-check.ensures m k c.in_err-tree.field-0.0 (c.in_err-tree.ensures m k) in
    record { judged = rw (told.1, told.2) e.first; early = rw (told.1, told.2) e.early }

pub returns-in_err-names : goal.returns-in_err-names
returns-in_err-names g c =
    let told = err_from_is_err_and c.from_residual-in_err-names.result c.from_residual-in_err-names.ensures.1 in
    let (m, k) = c.in_ok-check-2.ensures.marked in
    let t = c.in_ok-tree.ensures m k in
    let e = names_first (g.C.CatalogueSet.facts c.args.set.now) c.args.document.now c.in_ok-check.ensures m k c.in_err-names.field-0.0 t (c.in_err-names.ensures m k t) in
    record { judged = rw (told.1, told.2) e.first; early = rw (told.1, told.2) e.early }

pub returns : goal.returns
returns g c =
    let p = passed (g.C.CatalogueSet.facts c.args.set.now) c.args.document.now c.in_ok-check.ensures c.in_ok-check-2.ensures.marked c.in_ok-tree.ensures c.in_ok-names.ensures
    c.values.result c.values.ensures.judges c.values.ensures.gives in
    record { judged = p.0; early = p.1 }
