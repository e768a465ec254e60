use Rattle.std.proofs.Common.{rules, tests, sym, ap, ◌∙◌}
use Rattle.std.proofs.lemmas.Iterator.{YieldsList-from_slice}
use Rattle.std.proofs.lemmas.Iterator.Search.{position_from_yields_List}
use Rattle.reader.specs.Names.{row_at}
use Rattle.reader.proofs.NameRows.{has_name, row_at-first}
use Rattle.reader.proofs.names.row_of.Goals as goal

pub returns-clause-is : goal.returns-clause-is
returns-clause-is c =
    let there = position_from_yields_List (has_name c.args.name.now) _ _ c.position.result c.position.ensures.ran (YieldsList-from_slice c.rows.result.now c.iter.ensures.rest) (λ x b q k. search (rules, tests)) in
    there ∙ sym (row_at-first c.rows.result.now c.args.name.now) ∙ ap (λ rs. row_at rs 0 c.args.name.now) c.rows.ensures
