use Rattle.std.proofs.Common.{◌≡◌, ◌+◌, ap, ◌∙◌, not, drop, rules, tests, arith, length-drop, take_all}
use Rattle.std.specs.List.{prefix_len}
use Rattle.std.proofs.lemmas.Iterator.{YieldsList-from_slice}
use Rattle.std.proofs.lemmas.Iterator.Search.{position_from_yields_List}
use Rattle.byte_classes.proofs.RunLaws.{run_end}
use Rattle.byte_classes.proofs.runs.skip.Goals as goal

pub returns-clause-is : goal.returns-clause-is
returns-clause-is g c =
    let found = position_from_yields_List (λ b. not (g.C.ByteClass.holds c.args.class b)) _ _ c.position.result c.position.ensures.ran (YieldsList-from_slice _ c.iter.ensures.rest) (λ x b q k. search (rules, tests)) in
    let ends = run_end (g.C.ByteClass.holds c.args.class) c.in-Some.rest.now c.position.result found in
    let rest : c.in-Some.rest.now ≡ drop c.args.at c.args.text.now = c.in-Some.ensures.lookup.0.2 ∙ take_all _ _ (omega (arith, length-drop c.args.at c.args.text.now)) in
    ap (λ n. c.args.at + n) (c.unwrap_or.ensures ∙ ends ∙ ap (prefix_len (g.C.ByteClass.holds c.args.class)) rest)
