use Rattle.std.proofs.Common.{ℕ, ◌==◌, drop, zip, sym, ◌∙◌, rules, tests, arith, take_all, length-drop}
use Rattle.std.proofs.lemmas.Iterator.{YieldsList-from_slice, YieldsList-from_zip}
use Rattle.std.proofs.lemmas.Iterator.Search.{YieldsList-from_take_while}
use Rattle.std.proofs.lemmas.Iterator.Consumers.{YieldsList-at, count_from_yields_List}
use Rattle.std.proofs.lemmas.List.Folds.{length-prefix_len}
use Rattle.markup.proofs.Scanning.{common_prefix_len-zip}
use Rattle.markup.proofs.reader.Reader.shared.Goals as goal

pub returns-clause-is : goal.returns-clause-is
returns-clause-is c =
    let xs = drop c.args.self.now.at c.args.self.now.doc.now in
    let ys = c.args.text.now in
    let same = λ (p : ℕ × ℕ). p.0 == p.1 in
    let rest = c.iter.ensures.rest ∙ take_all _ xs (omega (arith, length-drop c.args.self.now.at c.args.self.now.doc.now)) in
    let pairs = YieldsList-from_zip (YieldsList-at c.zip.ensures.first (YieldsList-from_slice xs rest)) (YieldsList-from_slice ys (search rules)) in
    count_from_yields_List c.take_while.result c.count-count.result c.count-count.ensures.ran
    (YieldsList-from_take_while _ same (YieldsList-at c.take_while.ensures.source pairs) c.take_while.ensures.closure c.take_while.ensures.done (λ x b q k. search (rules, tests)))
    ∙ length-prefix_len same (zip xs ys) ∙ sym (common_prefix_len-zip _ xs ys)
