use Rattle.std.proofs.Common.{◌≡◌, ◌+◌, map, drop, ap, ◌∙◌, arith}
use Rattle.std.proofs.lemmas.Slice.Eq.{slice_eq-Decides}
use Rattle.std.proofs.lemmas.Bool.Decides.{Decides-eqb}
use Rattle.schema.specs.Meant.{child_meant}
use Rattle.reader.specs.Tree.{step}
use Rattle.reader.proofs.Steps.{no_child, rows_under, step_answer, takes, too_many, too_few, goes_on, no_row}
use Rattle.reader.proofs.nodes.Progress.step.Goals as goal

pub returns-then-count-child-clause-is : goal.returns-then-count-child-clause-is
returns-then-count-child-clause-is c =
    let rows = rows_under c.args.under c.children.result.now c.in_ok-rows.rows.now c.args.self.row c.children.ensures c.in_ok-rows.ensures.lookup.0.2 in
    step_answer _ c.in_ok-rows.rows.now _ _ c.loop-i.i (c.args.self.row + c.loop-i.i) c.loop-i.count c.args.name.now _ rows c.loop-i.invariant
    (takes c.in_ok-rows.rows.now c.loop-i.i _ c.loop-i.count no_child c.loop-i-test.true c.args.name.now c.tag.result.now c.eq.result c.tag.ensures (slice_eq-Decides Decides-eqb _ _ _ c.eq.ensures) c.if-eq.true c.if-count-child.true)

pub returns-then-eq-clause-is : goal.returns-then-eq-clause-is
returns-then-eq-clause-is c =
    let rows = rows_under c.args.under c.children.result.now c.in_ok-rows.rows.now c.args.self.row c.children.ensures c.in_ok-rows.ensures.lookup.0.2 in
    step_answer _ c.in_ok-rows.rows.now _ _ c.loop-i.i (c.args.self.row + c.loop-i.i) c.loop-i.count c.args.name.now _ rows c.loop-i.invariant
    (too_many c.in_ok-rows.rows.now c.loop-i.i _ c.loop-i.count no_child c.loop-i-test.true c.args.name.now c.tag.result.now c.eq.result c.tag.ensures (slice_eq-Decides Decides-eqb _ _ _ c.eq.ensures) c.if-eq.true c.if-count-child.false)

pub returns-then-count-child-2-clause-is : goal.returns-then-count-child-2-clause-is
returns-then-count-child-2-clause-is c =
    let rows = rows_under c.args.under c.children.result.now c.in_ok-rows.rows.now c.args.self.row c.children.ensures c.in_ok-rows.ensures.lookup.0.2 in
    step_answer _ c.in_ok-rows.rows.now _ _ c.loop-i.i (c.args.self.row + c.loop-i.i) c.loop-i.count c.args.name.now _ rows c.loop-i.invariant
    (too_few c.in_ok-rows.rows.now c.loop-i.i _ c.loop-i.count no_child c.loop-i-test.true c.args.name.now c.tag.result.now c.eq.result c.tag.ensures (slice_eq-Decides Decides-eqb _ _ _ c.eq.ensures) c.if-eq.false c.if-count-child-2.true)

pub loop-i-preserved : goal.loop-i-preserved
loop-i-preserved c =
    let next : c.args.self.row + c.loop-i.i + 1 ≡ c.args.self.row + (c.loop-i.i + 1) = omega arith in
    c.loop-i.invariant
    ∙ goes_on c.in_ok-rows.rows.now c.loop-i.i _ c.loop-i.count no_child c.loop-i-test.true c.args.name.now c.tag.result.now c.eq.result c.tag.ensures (slice_eq-Decides Decides-eqb _ _ _ c.eq.ensures) c.if-eq.false c.if-count-child-2.false
    ∙ ap (λ j. step (drop (c.loop-i.i + 1) (map child_meant c.in_ok-rows.rows.now)) j 0 c.args.name.now) next

pub returns-clause-is : goal.returns-clause-is
returns-clause-is c =
    let rows = rows_under c.args.under c.children.result.now c.in_ok-rows.rows.now c.args.self.row c.children.ensures c.in_ok-rows.ensures.lookup.0.2 in
    step_answer _ c.in_ok-rows.rows.now _ _ c.loop-i.i (c.args.self.row + c.loop-i.i) c.loop-i.count c.args.name.now _ rows c.loop-i.invariant
    (no_row c.in_ok-rows.rows.now c.loop-i.i _ c.loop-i.count c.args.name.now c.loop-i-test.false)
