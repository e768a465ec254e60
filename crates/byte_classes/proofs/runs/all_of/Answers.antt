use Rattle.std.proofs.Common.{rules, sym, ◌∙◌}
use Rattle.std.proofs.lemmas.Iterator.Search.{all_from_yields_List}
use Rattle.std.proofs.lemmas.Iterator.{YieldsList-from_slice}
use Rattle.byte_classes.proofs.RunLaws.{all-list_all}
use Rattle.byte_classes.proofs.runs.all_of.Goals as goal

pub returns : goal.returns
returns g c =
    all_from_yields_List (g.C.ByteClass.holds c.args.class) _ _ c.all.result c.all.ensures.ran (YieldsList-from_slice c.args.text.now c.iter.ensures.rest) (λ x b q k. search (rules))
    ∙ sym (all-list_all (g.C.ByteClass.holds c.args.class) c.args.text.now)
