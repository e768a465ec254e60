use Rattle.std.proofs.Common.{◌≡◌, ◌∙◌, ap, rules, tests}
use Rattle.std.specs.List.{find}
use Rattle.std.specs.Option.{option_map}
use Rattle.std.proofs.lemmas.Iterator.{YieldsList-from_slice}
use Rattle.std.proofs.lemmas.Iterator.Search.{find_from_yields_List}
use Rattle.rules.specs.Bytes.{same}
use Rattle.schema.specs.declared.attributes.Row.{Row}
use Rattle.schema.proofs.Named.{same_compared}
use Rattle.layers.specs.Found.{kind_named}
use Rattle.layers.proofs.KindRows.{found_named}
use Rattle.layers.proofs.attribute_values.kind_of.Goals as goal

pub returns : goal.returns
returns c =
    let rs = c.rows.result.now in
    let name = c.args.name.now in
    let found : option_map (λ b. b.now) c.find.result ≡ find (λ r. same r.name.now name) rs =
    find_from_yields_List (λ r. same r.name.now name) _ _ c.find.result c.find.ensures.ran (YieldsList-from_slice rs cc) (λ x b q k. search (rules, tests, same_compared)) in
    let mapped : c.map.result ≡ option_map (λ r. r.kind) (option_map (λ b. b.now) c.find.result) = search rules in
    mapped ∙ ap (option_map (λ (r : Row). r.kind)) found ∙ found_named rs name ∙ ap (λ rs. kind_named rs name) c.rows.ensures
