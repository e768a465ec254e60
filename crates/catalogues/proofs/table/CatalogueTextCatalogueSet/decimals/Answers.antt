use Rattle.std.proofs.Common.{◌≡◌, ℕ, ◌-◌, Some, None, Result, Ok, Err, sym, refl, ap, ◌∙◌, subst, arith}
use Rattle.std.specs.Result.{result_ok}
use Rattle.catalogues.specs.Lines.{last_of}
use Rattle.catalogues.specs.Ordered.{Sought}
use Rattle.catalogues.proofs.Answering.{bad_answers, long_answers, found_in, none_in}
use Rattle.catalogues.proofs.table.CatalogueTextCatalogueSet.decimals.Goals as goal

-- the answer behind what `Result::ok` gives
ok_behind : (r : Result ℕ ℕ) (i : ℕ) → Some i ≡ result_ok r → r ≡ Ok i
ok_behind (Ok j) i e = cc
ok_behind (Err j) i e = absurd (let z : ◌≡◌ {A = ℕ} 0 1 = cc in omega arith)

err_behind : (r : Result ℕ ℕ) → None ≡ result_ok r → (place : ℕ) × (r ≡ Err place)
err_behind (Ok j) e = absurd (let z : ◌≡◌ {A = ℕ} 0 1 = cc in omega arith)
err_behind (Err j) e = (j, refl)

pub returns-in_err-index : goal.returns-in_err-index
returns-in_err-index c =
    c.from_residual.ensures ∙ sym (bad_answers c.args.self.now.text.now c.args.catalogue c.args.code.now (c.args.self.now.faulty (sym c.in_err-index.ensures.value)))

pub returns-in_err-i : goal.returns-in_err-i
returns-in_err-i c =
    let i = c.in_ok-index.index.now in
    let key = c.name_of.result.now in
    let (same, whole) = c.args.self.now.whole i (sym c.in_ok-index.ensures.value) in
    let (place, e) = err_behind c.search.result c.in_err-i.ensures.value in
    c.from_residual-in_err-i.ensures
    ∙ none_in c.args.self.now.text.now i.text.now i.at i.places i.count i.order i.indexed same whole c.args.catalogue key c.args.code.now c.name_of.ensures place (subst (Sought i.text.now i.places i.count _) e c.search.ensures)

pub returns : goal.returns
returns c =
    let i = c.in_ok-index.index.now in
    let key = c.name_of.result.now in
    let (same, whole) = c.args.self.now.whole i (sym c.in_ok-index.ensures.value) in
    let (within, found) = subst (Sought i.text.now i.places i.count _) (ok_behind c.search.result c.in_ok-i.i c.in_ok-i.ensures.value) c.search.ensures in
    ap Some (c.decimals_of.ensures ∙ ap (λ l. last_of l - 48) c.line_from.ensures)
    ∙ found_in c.args.self.now.text.now i.text.now i.at i.places i.count i.order i.indexed same whole c.args.catalogue key c.args.code.now c.name_of.ensures c.in_ok-i.i within found

pub returns-then-code-gt-LONGEST_CODE : goal.returns-then-code-gt-LONGEST_CODE
returns-then-code-gt-LONGEST_CODE c = sym (long_answers c.args.self.now.text.now c.args.catalogue c.args.code.now c.if-code-gt-LONGEST_CODE.true)
