use Rattle.std.proofs.Common.{sym, ◌∙◌, subst}
use Rattle.std.specs.Str.Iter.{char_indices_offset, char_indices_rest}
use Rattle.std.proofs.lemmas.Bool.{both_ways}
use Rattle.rules.specs.Letters.{Spelled}
use Rattle.letters.proofs.Bytes.{plain_spelled}
use Rattle.letters.proofs.Spell.{EndsAt, Sofar, start, more, stops, ended}
use Rattle.letters.proofs.characters.Goals as goal

pub returns-then-all_plain : goal.returns-then-all_plain
returns-then-all_plain c = subst Spelled c.as_bytes.ensures.value (plain_spelled _ c.as_bytes.ensures.utf8 (sym c.if-all_plain.ensures))

pub loop-at-init : goal.loop-at-init
loop-at-init c =
    let made = c.char_indices-at-items.ensures in
    subst (λ t. Sofar c.args.text.now (char_indices_offset t) (char_indices_rest t)) (sym c.into_iter-at-iterator.ensures.into_iter_gives) (start made.rest made.offset)

pub returns-then-not-is_allowed : goal.returns-then-not-is_allowed
returns-then-not-is_allowed c =
    let steps = c.in-Some.ensures.steps in
    subst (EndsAt c.args.text.now) (sym steps.0) (stops _ _ c.loop-at.invariant (λ h. both_ways _ c.if-not-is_allowed.true (c.is_allowed.ensures ∙ h)) steps.1)

pub loop-at-preserved : goal.loop-at-preserved
loop-at-preserved c =
    let steps = c.in-Some.ensures.steps in
    subst (λ n. Sofar c.args.text.now n (char_indices_rest c.next.new.self)) (sym steps.2) (more _ c.loop-at.invariant (sym c.is_allowed.ensures ∙ c.if-not-is_allowed.false) steps.1)

pub returns : goal.returns
returns c = ended c.loop-at.invariant c.in-None.ensures.steps.0
