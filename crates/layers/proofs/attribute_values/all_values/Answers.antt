use Rattle.std.proofs.lemmas.Result.{err_from_is_err_and}
use Rattle.rules.specs.Grounds.{ValuesFault, standing}
use Rattle.rules.specs.Located.{elements_of}
use Rattle.theory.proofs.NodesApart.{values_in_node}
use Rattle.layers.proofs.Going.{left_first, left_more, left_found, left_none}
use Rattle.layers.proofs.attribute_values.all_values.Goals as goal

pub loop-event-init : goal.loop-event-init
loop-event-init g c =
    let facts = g.C.CatalogueSet.facts c.args.set.now in
    let first = c.new-event-items in
    rw c.into_iter-event-iterator.ensures.into_iter_gives (λ m h good. left_first 5 (ValuesFault facts) (values_in_node facts) c.args.document.now m first.result first.ensures.same (first.ensures.comes m h good))

pub loop-event-preserved : goal.loop-event-preserved
loop-event-preserved g c = λ m h good.
    left_more 5 (ValuesFault (g.C.CatalogueSet.facts c.args.set.now)) c.args.document.now (standing (elements_of m)) c.loop-event.event-iterator c.next.new.self c.in-Some.event c.in-Some.ensures.steps.same c.in-Some.ensures.steps.gives c.in_ok-node_values.ensures (c.loop-event.invariant m h good)

pub returns-in_err-node_values : goal.returns-in_err-node_values
returns-in_err-node_values g c =
    let told = err_from_is_err_and c.from_residual.result c.from_residual.ensures.1 in
    rw (told.1, told.2) (λ m h good. left_found 5 (ValuesFault (g.C.CatalogueSet.facts c.args.set.now)) c.args.document.now (standing (elements_of m)) c.loop-event.event-iterator c.next.new.self c.in-Some.event c.in_err-node_values.field-0.0 c.in-Some.ensures.steps.gives c.in_err-node_values.ensures (c.loop-event.invariant m h good))

pub returns : goal.returns
returns g c = λ m h good. left_none 5 (ValuesFault (g.C.CatalogueSet.facts c.args.set.now)) c.args.document.now (standing (elements_of m)) c.loop-event.event-iterator c.next.new.self c.in-None.ensures.steps.gives (c.loop-event.invariant m h good)
