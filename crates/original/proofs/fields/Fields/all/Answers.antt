use Rattle.std.proofs.Common.{refl, sym, ap, ◌∙◌, subst, rules}
use Rattle.sinks.proofs.Sending.{passed_on}
use Rattle.walk.specs.Events.{met}
use Rattle.walk.specs.Coming.{Comes}
use Rattle.original.proofs.Joining.{same_twice}
use Rattle.original.proofs.Passing.{starts, goes_on, stops, ends}
use Rattle.original.proofs.fields.Fields.all.Goals as goal

pub loop-event-init : goal.loop-event-init
loop-event-init g c =
    let s = c.args.self.now in
    let same = c.into_iter-event-iterator.ensures.into_iter_gives in
    record {
      same = record { document = refl; writer = refl };
      walks = ap (λ v. v.document.now) same ∙ c.new-event-items.ensures.same;
      under = λ m h good named none.
          starts g.W.Writer.writing s.document.now m s.to.now s.begun c.into_iter-event-iterator.result s refl refl none good named
          (subst (λ v. Comes v (met m)) (sym same) (c.new-event-items.ensures.comes m h good));
    }

pub loop-event-preserved : goal.loop-event-preserved
loop-event-preserved g c =
    let s = c.args.self.now in
    let i = c.loop-event.invariant in
    record {
      same = same_twice i.same c.in_ok-event.ensures.same;
      walks = c.in-Some.ensures.steps.same ∙ i.walks;
      under = λ m h good named none.
          goes_on g.W.Writer.writing s.document.now m s.to.now s.begun c.loop-event.event-iterator c.next.new.self c.loop-event.self c.event.new.self i.walks i.same.document (i.under m h good named none) c.in-Some.event c.in-Some.ensures.steps.gives c.in_ok-event.ensures.wrote;
    }

pub returns-in_err-event-clause-wrote : goal.returns-in_err-event-clause-wrote
returns-in_err-event-clause-wrote g c = λ m h good named none.
    let s = c.args.self.now in
    let i = c.loop-event.invariant in
    passed_on (search rules) (stops g.W.Writer.writing s.document.now m s.to.now s.begun c.loop-event.event-iterator c.next.new.self c.loop-event.self c.event.new.self i.walks i.same.document (i.under m h good named none) c.in-Some.event _ c.in-Some.ensures.steps.gives c.in_err-event.ensures.wrote)

pub returns-clause-wrote : goal.returns-clause-wrote
returns-clause-wrote g c = λ m h good named none.
    let s = c.args.self.now in
    ends g.W.Writer.writing s.document.now m s.to.now s.begun c.loop-event.event-iterator c.next.new.self c.loop-event.self (c.loop-event.invariant.under m h good named none) c.in-None.ensures.steps.gives
