use Rattle.std.proofs.Common.{◌≡◌, ◌==◌, ◌&&◌, false, drop, length-drop, take_all, rules, tests, sym, ap, ◌∙◌, arith}
use Rattle.std.specs.List.{list_all}
use Rattle.std.proofs.lemmas.Bool.{and_left, and_right, ne_eqb, le-leb, lt-leb}
use Rattle.std.proofs.lemmas.Iterator.{YieldsList-from_slice}
use Rattle.std.proofs.lemmas.Iterator.Search.{all_from_yields_List}
use Rattle.reader.specs.Tree.{wants_child}
use Rattle.reader.proofs.Steps.{no_child, rows_under, asks_none, may_end_at}
use Rattle.reader.proofs.nodes.Progress.may_end.Goals as goal
use Rattle.reader.proofs.nodes.Progress.may_end.Goals.{After-children, else-self-eq0-via-then-self-eq0+else-wants_child, else-self-eq0-via-else-self-eq0}

-- no child is wanted that is not there
content : (c : After-children) → (wants_child c.args.under && c.args.self.count == 0) ≡ false
content c = elim c.else-self-eq0.branch [
  | else-self-eq0-via-then-self-eq0+else-wants_child w ↦ and_left _ _ (sym w.wants_child.ensures ∙ w.if-wants_child.false)
  | else-self-eq0-via-else-self-eq0 w ↦ and_right (wants_child c.args.under) _ (ne_eqb _ _ w.if-self-eq0.false)
]

pub returns-then-last-self : goal.returns-then-last-self
returns-then-last-self c =
    let rest = c.in-Some-len1-up.field-0.now in
    let rows = rows_under c.args.under c.children.result.now rest c.args.self.row c.children.ensures c.in-Some-len1-up.ensures.lookup.0.2 in
    let later = all_from_yields_List asks_none _ _ c.all.result c.all.ensures.ran (YieldsList-from_slice (drop 1 rest) (c.iter.ensures.rest ∙ take_all _ _ (omega (arith, length-drop 1 rest)))) (λ x b q k. search (rules, tests)) in
    later ∙ ap (λ b. b && list_all asks_none (drop 1 rest)) (sym (le-leb _ _ c.if-last-self.true)) ∙ sym (may_end_at c.args.under c.args.self.row c.args.self.count rest no_child (content (goal.at.returns-then-last-self c).After-children) rows c.in-Some-len1-up.len_at_least)

pub returns-else-last-self : goal.returns-else-last-self
returns-else-last-self c =
    let rest = c.in-Some-len1-up.field-0.now in
    let rows = rows_under c.args.under c.children.result.now rest c.args.self.row c.children.ensures c.in-Some-len1-up.ensures.lookup.0.2 in
    let short = lt-leb _ _ c.if-last-self.false in
    short ∙ sym (and_left _ _ short) ∙ sym (may_end_at c.args.under c.args.self.row c.args.self.count rest no_child (content (goal.at.returns-else-last-self c).After-children) rows c.in-Some-len1-up.len_at_least)
