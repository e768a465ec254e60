use Rattle.std.proofs.Common.{◌≡◌, ap, ◌∙◌, rules, tests}
use Rattle.std.specs.List.{find}
use Rattle.std.specs.Option.{option_map}
use Rattle.std.proofs.lemmas.Iterator.{YieldsList-from_slice}
use Rattle.std.proofs.lemmas.Iterator.Search.{find_from_yields_List}
use Rattle.schema.specs.declared.places.Child.{Child}
use Rattle.rules.specs.Bytes.{same}
use Rattle.rules.specs.Schema.{tag}
use Rattle.rules.specs.Values.{named}
use Rattle.schema.proofs.Named.{same_compared, found_named}
use Rattle.schema.proofs.places.placed.Goals as goal

pub returns : goal.returns
returns c =
    let cs = c.children.result.now in
    let name = c.args.name.now in
    let found : option_map (λ b. b.now) c.find.result ≡ find (λ t. same (tag t.node) name) cs = find_from_yields_List (λ t. same (tag t.node) name) _ _ c.find.result c.find.ensures.ran (YieldsList-from_slice cs cc) (λ x b q k. search (rules, tests, same_compared)) in
    let mapped : c.map.result ≡ option_map (λ t. t.node) (option_map (λ b. b.now) c.find.result) = search rules in
    mapped ∙ ap (option_map (λ (t : Child). t.node)) found ∙ found_named cs name ∙ ap (λ rs. named rs name) c.children.ensures
