use Rattle.std.proofs.Common.{sym, ap, ◌∙◌, subst, rules}
use Rattle.walk.specs.Coming.{Comes}
use Rattle.walk.specs.Events.{met}
use Rattle.fair.proofs.Copies.{copy_met, fine_met}
use Rattle.fair.proofs.Copying.{copy_more, copy_refused, copy_done}
use Rattle.fair.proofs.Progress.{all_left, left_as}
use Rattle.fair.proofs.copy.write.Goals as goal

pub loop-event-init : goal.loop-event-init
loop-event-init g c =
    let same = c.into_iter-event-iterator.ensures.into_iter_gives in
    record {
      walks = ap (λ v. v.document.now) same ∙ c.new-event-items.ensures.same;
      copies = λ m h good named. record {
        coming = met m;
        comes = subst (λ v. Comes v (met m)) (sym same) (c.new-event-items.ensures.comes m h good);
        fine = fine_met m named;
        left = left_as (sym (copy_met c.args.document.now m good)) all_left;
      };
    }

pub returns-in_err-write_event : goal.returns-in_err-write_event
returns-in_err-write_event g c = λ m h good named.
    copy_refused c.args.document.now c.loop-event.invariant.walks c.in-Some.event c.in-Some.ensures.steps.gives (c.loop-event.invariant.copies m h good named) (search rules) c.in_err-write_event.ensures

pub loop-event-preserved : goal.loop-event-preserved
loop-event-preserved g c = record {
  walks = c.in-Some.ensures.steps.same ∙ c.loop-event.invariant.walks;
  copies = λ m h good named. copy_more c.args.document.now c.loop-event.invariant.walks c.in-Some.event c.in-Some.ensures.steps.gives (c.loop-event.invariant.copies m h good named) c.is_childless-childless.result c.is_childless-childless.ensures c.in_ok-write_event.ensures;
}

pub returns : goal.returns
returns g c = λ m h good named. copy_done c.in-None.ensures.steps.gives (c.loop-event.invariant.copies m h good named)
