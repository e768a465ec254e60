use Rattle.std.proofs.Common.{◌≡◌, ◌+◌, ◌≤◌, length, None, Some, sym, subst, inl, ap, arith, rules}
use borrow.Author.Tests.{tests}
use Rattle.std.specs.Option.{MatchOption}
use Rattle.std.proofs.lemmas.Iterator.{IsFirst-from_position}
use Rattle.std.proofs.lemmas.Iterator.Consumers.{YieldsList-from_first}
use Rattle.rules.specs.Register.{nth, Absent}
use Rattle.promises.specs.Stored.{decoded}
use Rattle.promises.proofs.Stored.{length_decoded, holds_true}
use Rattle.register.specs.States.{texts}
use Rattle.register.proofs.Places.{nth_found, nth_absent}
use Rattle.register.proofs.Register.find.Goals as goal

pub position-requires-clause-fits : goal.position-requires-clause-fits
position-requires-clause-fits g c =
    let self = c.args.self.now in
    let held = holds_true self.memory.now self.used self.count self.held in
    inl (omega (arith, ap length c.texts.ensures, length_decoded self.count self.memory.now, held.few))

pub returns-in_err-before : goal.returns-in_err-before
returns-in_err-before g c = λ x copy long.
    let cs = texts c.args.self.now in
    let absent : Absent x cs = nth_absent x cs (IsFirst-from_position c.position.new.self _ None (λ t. t ≡ x) (λ t. t ≡ x → ⊥) c.in_err-before.ensures.ran (YieldsList-from_first (λ y. y.now) (λ s. decoded s.left s.rest.now) cs c.texts.ensures) (λ y q k. search (rules, tests)) (λ y q k. search (rules, tests))) in
    subst (λ r. MatchOption r (Absent x cs) (λ n. nth cs n ≡ Some x)) (sym c.from_residual.ensures) absent

pub overflow_cast-result : goal.overflow_cast-result
overflow_cast-result g c =
    let self = c.args.self.now in
    let held = holds_true self.memory.now self.used self.count self.held in
    let bound = c.in_ok-before.ensures.bound in
    let few : c.in_ok-before.before + 1 ≤ 256 = omega (arith, ap length c.texts.ensures, length_decoded self.count self.memory.now, held.few, bound) in
    search (rules, few)

pub overflow_add-result : goal.overflow_add-result
overflow_add-result g c =
    let self = c.args.self.now in
    let held = holds_true self.memory.now self.used self.count self.held in
    let bound = c.in_ok-before.ensures.bound in
    let few : c.in_ok-before.before + 1 ≤ 256 = omega (arith, ap length c.texts.ensures, length_decoded self.count self.memory.now, held.few, bound) in
    search (rules, few)

pub returns : goal.returns
returns g c = λ x copy long.
    let cs = texts c.args.self.now in
    let first = IsFirst-from_position c.position.new.self _ (Some c.in_ok-before.before) (λ t. t ≡ x) (λ t. t ≡ x → ⊥) c.in_ok-before.ensures.ran (YieldsList-from_first (λ y. y.now) (λ s. decoded s.left s.rest.now) cs c.texts.ensures) (λ y q k. search (rules, tests)) (λ y q k. search (rules, tests)) in
    nth_found x cs c.in_ok-before.before first.0 first.1
