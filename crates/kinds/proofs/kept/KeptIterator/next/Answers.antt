use Rattle.std.proofs.Common.{◌≡◌, ℕ, false, ◌+◌, ◌<◌, ◌&&◌, List, ◌∷◌, length, drop, Some, None, Option, sym, refl, ap, ◌∙◌, arith}
use Rattle.std.proofs.lemmas.Bool.{and_left, and_right}
use Rattle.std.proofs.lemmas.List.{length-drop}
use Rattle.std.specs.Iterator.{at_most, MakesProgress}
use Rattle.kinds.specs.declared.kept.Kept.{Kept}
use Rattle.rules.specs.Kept.{resolved}
use Rattle.kinds.specs.Reading.{Gives, rest}
use Rattle.kinds.proofs.Steps.{passes, resolved_letter, at_end, at_blank, at_byte, at_gap, rest_is}
use Rattle.kinds.proofs.kept.KeptIterator.next.Goals as goal
use Rattle.kinds.proofs.kept.KeptIterator.next.Goals.{else-gap-via-then-gap+else-self, else-gap-via-else-gap}

-- a byte that is given leaves less
goes : (k : Kept) (r : Option ℕ) (l : Kept) → Gives k r l → MakesProgress (λ _. Unit {0}) (λ m. at_most (length (rest m))) k r l
goes k None l g = record { on = λ _. tt; keeps = tt; rests = λ _. tt }
goes k (Some b) l g = record { on = λ _. (tt, tt, omega (arith, ap length g.byte)); keeps = tt; rests = λ _. tt }

given : {k : Kept} {r : Option ℕ} {l : Kept} → Gives k r l → record { steps : Gives k r l; goes : MakesProgress (λ _. Unit {0}) (λ m. at_most (length (rest m))) k r l }
given {k} {r} {l} g = record { steps = g; goes = goes k r l g }

shorter : (n : ℕ) (s t : List ℕ) → 0 < length s → t ≡ drop (1 + n) s → length t < length s
shorter n s t h e = let l = ap length e ∙ length-drop (1 + n) s in omega (arith, h, l)

pub loop-b-init : goal.loop-b-init
loop-b-init c =
    let k = c.args.self.now in
    ((0, refl), refl, rest_is k.begun (resolved k.raw.now))

pub returns-then-self : goal.returns-then-self
returns-then-self c =
    let k = c.loop-b.self in
    let at = c.in-Some.ensures in
    let is = resolved_letter k.raw.now c.in-Some.after.now c.in-Some.b at.0 at.1 at.2 in
    given (record { same = c.loop-b.invariant.0; byte = sym c.loop-b.invariant.2 ∙ at_gap k.raw.now c.in-Some.after.now c.in-Some.b is k.begun c.loop-b.gap (sym c.if-not-is_blank.ensures) c.if-gap.true c.if-self.true ∙ ap (λ s. 32 ∷ s) (rest_is k.begun _) })

pub returns-then-not-is_blank : goal.returns-then-not-is_blank
returns-then-not-is_blank c =
    let k = c.loop-b.self in
    let at = c.in-Some.ensures in
    let is = resolved_letter k.raw.now c.in-Some.after.now c.in-Some.b at.0 at.1 at.2 in
    let solid : (c.loop-b.gap && k.begun) ≡ false = elim c.else-gap.branch [ else-gap-via-then-gap+else-self w ↦ and_right _ _ w.if-self.false | else-gap-via-else-gap w ↦ and_left _ _ w.if-gap.false ] in
    given (record { same = passes _ _ _ _ c.loop-b.invariant.0 at.2; byte = sym c.loop-b.invariant.2 ∙ at_byte k.raw.now c.in-Some.after.now c.in-Some.b is k.begun c.loop-b.gap (sym c.if-not-is_blank.ensures) solid })

pub loop-b-smaller : goal.loop-b-smaller
loop-b-smaller c = let at = c.in-Some.ensures in shorter _ _ _ at.0 at.2

pub loop-b-preserved : goal.loop-b-preserved
loop-b-preserved c =
    let k = c.loop-b.self in
    let at = c.in-Some.ensures in
    let is = resolved_letter k.raw.now c.in-Some.after.now c.in-Some.b at.0 at.1 at.2 in
    let h = at_blank k.raw.now c.in-Some.after.now c.in-Some.b is k.begun c.loop-b.gap (sym c.if-not-is_blank.ensures) in
    (passes _ _ _ _ c.loop-b.invariant.0 at.2, c.loop-b.invariant.1, cc)

pub returns : goal.returns
returns c =
    let k = c.loop-b.self in
    given (record { same = c.loop-b.invariant.0; byte = (sym c.loop-b.invariant.2 ∙ at_end k.begun c.loop-b.gap k.raw.now c.in_default.ensures, sym (rest_is k.begun _) ∙ at_end k.begun false k.raw.now c.in_default.ensures) })
