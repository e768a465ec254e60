use Rattle.std.proofs.lemmas.Result.{err_from_is_err_and}
use Rattle.rules.specs.Grounds.{NamesFault, standing}
use Rattle.rules.specs.Located.{elements_of}
use Rattle.theory.proofs.NodesApart.{names_in_node}
use Rattle.layers.proofs.Going.{left_first, left_more, left_found, left_none}
use Rattle.layers.proofs.attribute_names.names.Goals as goal

pub loop-event-init : goal.loop-event-init
loop-event-init c =
    let first = c.new-event-items in
    rw c.into_iter-event-iterator.ensures.into_iter_gives (λ m h good. left_first 4 NamesFault names_in_node c.args.document.now m first.result first.ensures.same (first.ensures.comes m h good))

pub loop-event-preserved : goal.loop-event-preserved
loop-event-preserved c = λ m h good.
    left_more 4 NamesFault c.args.document.now (standing (elements_of m)) c.loop-event.event-iterator c.next.new.self c.in-Some.event c.in-Some.ensures.steps.same c.in-Some.ensures.steps.gives c.in_ok-node_names.ensures (c.loop-event.invariant m h good)

pub returns-in_err-node_names : goal.returns-in_err-node_names
returns-in_err-node_names c =
    let told = err_from_is_err_and c.from_residual.result c.from_residual.ensures.1 in
    rw (told.1, told.2) (λ m h good. left_found 4 NamesFault c.args.document.now (standing (elements_of m)) c.loop-event.event-iterator c.next.new.self c.in-Some.event c.in_err-node_names.field-0.0 c.in-Some.ensures.steps.gives c.in_err-node_names.ensures (c.loop-event.invariant m h good))

pub returns : goal.returns
returns c = λ m h good. left_none 4 NamesFault c.args.document.now (standing (elements_of m)) c.loop-event.event-iterator c.next.new.self c.in-None.ensures.steps.gives (c.loop-event.invariant m h good)
