use Rattle.std.proofs.Common.{◌+◌, ◌-◌, ◌≤◌, Err, refl, ap, ◌∙◌, arith, rules}
use Rattle.std.proofs.lemmas.Result.{err_from_is_err_and}
use Rattle.rules.specs.Register.{room, entering, unlawful}
use Rattle.promises.proofs.Stored.{holds_true}
use Rattle.register.proofs.Entering.{measured, entered_already, entered_full, entered_without_room, entered_new, new_held, new_copies}
use Rattle.register.proofs.open.Register+Open.enter.Goals as goal

pub returns-in_err-check-clause-step : goal.returns-in_err-check-clause-step
returns-in_err-check-clause-step g c =
    let p = err_from_is_err_and c.from_residual.result c.from_residual.ensures.1 in
    (refl, unlawful c.in_err-check.field-0.0 c.in_err-check.ensures.judged (ap (λ x. entering x) (p.1 ∙ ap Err p.2)) refl)

pub returns-in-Some-clause-step : goal.returns-in-Some-clause-step
returns-in-Some-clause-step g c =
    let k = measured c.in_ok-check.ensures.passes c.fair_copy_length-copy_length.ensures in
    entered_already k c.args.self.now c.in-Some.entry c.in-Some.ensures

pub returns-then-self-ge-MOST_ENTRIES-clause-step : goal.returns-then-self-ge-MOST_ENTRIES-clause-step
returns-then-self-ge-MOST_ENTRIES-clause-step g c =
    let k = measured c.in_ok-check.ensures.passes c.fair_copy_length-copy_length.ensures in
    entered_full k c.args.self.now c.in_default.ensures c.if-self-ge-MOST_ENTRIES.true

pub overflow_add-needed : goal.overflow_add-needed
overflow_add-needed g c =
    let k = measured c.in_ok-check.ensures.passes c.fair_copy_length-copy_length.ensures in
    let short = k.short in
    let long = k.long in
    search rules

pub overflow_sub-min : goal.overflow_sub-min
overflow_sub-min g c =
    let self = c.args.self.now in
    let fits = (holds_true self.memory.now self.used self.count self.held).fits in
    omega (arith, c.min.ensures)

pub returns-then-min-used-clause-step : goal.returns-then-min-used-clause-step
returns-then-min-used-clause-step g c =
    let k = measured c.in_ok-check.ensures.passes c.fair_copy_length-copy_length.ensures in
    entered_without_room k c.args.self.now c.in_default.ensures c.if-self-ge-MOST_ENTRIES.false (omega (arith, c.if-min-used.true, c.min.ensures))

pub invariant_of-self : goal.invariant_of-self
invariant_of-self g c =
    let self = c.args.self.now in
    let k = measured c.in_ok-check.ensures.passes c.fair_copy_length-copy_length.ensures in
    let fit : c.fair_copy_length-copy_length.result + 4 ≤ room self.memory.now - self.used = omega (arith, c.if-min-used.false, c.min.ensures) in
    record {
      held = new_held k self c.in_default.ensures c.if-self-ge-MOST_ENTRIES.false fit _ c.store.ensures;
      copies = new_copies k self c.in_default.ensures c.if-self-ge-MOST_ENTRIES.false fit _ c.store.ensures;
    }

pub returns-clause-step : goal.returns-clause-step
returns-clause-step g c =
    let self = c.args.self.now in
    let k = measured c.in_ok-check.ensures.passes c.fair_copy_length-copy_length.ensures in
    let fit : c.fair_copy_length-copy_length.result + 4 ≤ room self.memory.now - self.used = omega (arith, c.if-min-used.false, c.min.ensures) in
    entered_new k self c.in_default.ensures c.if-self-ge-MOST_ENTRIES.false fit _ c.store.ensures
