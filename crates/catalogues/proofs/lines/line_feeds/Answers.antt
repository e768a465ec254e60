use Rattle.std.proofs.Common.{[], eqb, sym, ◌∙◌, rules, tests}
use Rattle.std.proofs.lemmas.Iterator.{YieldsList-from_slice}
use Rattle.std.proofs.lemmas.Iterator.Consumers.{YieldsList-from_filter, count_from_yields_List}
use Rattle.std.proofs.lemmas.List.Sums.{length-filter}
use Rattle.catalogues.proofs.Feeds.{feeds_counted, lines_feeds}
use Rattle.catalogues.proofs.lines.line_feeds.Goals as goal

pub returns : goal.returns
returns c =
    count_from_yields_List c.filter.result c.count.result c.count.ensures.ran (YieldsList-from_filter _ (λ b. eqb b 10) (YieldsList-from_slice c.args.text.now (cc)) c.filter.ensures.closure (λ x b q k. search (rules, tests)))
    ∙ length-filter (λ b. eqb b 10) c.args.text.now
    ∙ sym (feeds_counted c.args.text.now)
    ∙ sym (lines_feeds [] c.args.text.now)
