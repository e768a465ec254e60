use Rattle.std.proofs.Common.{◌≤◌, rules, tests, length, ap, ◌∙◌, arith}
use Rattle.std.proofs.lemmas.Iterator.{YieldsList-from_slice, YieldsList-from_zip}
use Rattle.std.proofs.lemmas.Iterator.Search.{any_from_yields_List}
use Rattle.reader.specs.Names.{lacks}
use Rattle.reader.proofs.NameRows.{few_rows, lacks_value, lacks-any}
use Rattle.reader.proofs.names.missing.Goals as goal

pub returns : goal.returns
returns c =
    let both = YieldsList-from_zip {s = c.zip.result} (YieldsList-from_slice c.rows.result.now (cc)) (YieldsList-from_slice c.args.slots.now.spans (search (rules, c.zip.ensures.second))) in
    let enough : length c.rows.result.now ≤ length c.args.slots.now.spans = omega (arith, few_rows c.args.node c.rows.result.now c.rows.ensures) in
    let found = any_from_yields_List lacks_value c.any.new.self _ c.any.result c.any.ensures.ran both (λ x b q k. search (rules, tests)) in
    found ∙ lacks-any c.rows.result.now c.args.slots.now.spans enough ∙ ap (λ rs. lacks rs 0 c.args.slots.now.spans) c.rows.ensures
