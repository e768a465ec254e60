use Rattle.std.proofs.Common.{◌∙◌, rules, tests}
use Rattle.std.specs.Cmp.Lexicographic.{pointwise}
use Rattle.std.specs.Prelude.{nat_eq}
use Rattle.std.proofs.lemmas.Iterator.{YieldsList-from_slice}
use Rattle.std.proofs.lemmas.Iterator.Search.{any_from_yields_List}
use Rattle.rules.specs.Catalogues.{catalogue_name, catalogues}
use Rattle.catalogues.specs.Lines.{is_named}
use Rattle.catalogues.proofs.Scans.{named_any}
use Rattle.catalogues.proofs.lines.is_name.Goals as goal

pub returns : goal.returns
unfolding is_named
returns c =
    any_from_yields_List (λ k. pointwise nat_eq (catalogue_name k) c.args.text.now) _ _ c.any.result c.any.ensures.ran (YieldsList-from_slice catalogues c.iter.ensures.rest) (λ x b q k. search (rules, tests))
    ∙ named_any c.args.text.now catalogues
