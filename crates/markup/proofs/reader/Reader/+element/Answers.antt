use Rattle.std.proofs.Common.{◌≡◌, ℕ, ◌+◌, ◌<◌, ◌∷◌, length, get_or, sym, refl, ◌∙◌, subst, arith, rules}
use Rattle.std.proofs.lemmas.Result.{err_from_is_err_and}
use Rattle.rules.specs.declared.grounds.Fault.TheVariants.{NotWellMarked}
use Rattle.markup.specs.Machine.{Stack, angle}
use Rattle.markup.specs.Reads.{GoesOn, Begun, Refused}
use Rattle.markup.proofs.Steps.{refused}
use Rattle.markup.proofs.Parts.{awaits_inside, to_ending, too_deep, to_child}
use Rattle.markup.proofs.reader.Reader.+element.Goals as goal
use Rattle.markup.proofs.reader.Reader.+element.Goals.{In_ok-expect, Else-eq, In_ok-inner}

-- after the blanks and the '<' inside the element
angled : (t : ℕ) (c : In_ok-expect t) (s : Stack) → length s + c.args.depth ≡ 5 → Begun c.args.self.now s → GoesOn c.expect.new.self (angle c.in_ok-name.field-0.name.now s)
angled t c s deep b = c.in_ok-expect.ensures.reads _ _ (awaits_inside _ s) (c.loop-self.invariant.reads s deep b)

-- no end tag begins there
no_slash : (t : ℕ) (c : Else-eq t) → c.expect.new.self.at < length c.expect.new.self.doc.now → get_or c.expect.new.self.doc.now c.expect.new.self.at 0 ≡ 47 → ⊥
no_slash t c lt e = search rules

-- in a child elements stand one level less deep
one_less : (t : ℕ) (c : In_ok-inner t) → c.args.depth ≡ c.in_ok-inner.inner + 1
one_less t c = search rules

-- a child begins there
child : (t : ℕ) (c : In_ok-inner t) (s : Stack) → length s + c.args.depth ≡ 5 → Begun c.args.self.now s → Begun c.expect.new.self (c.in_ok-name.field-0.name.now ∷ s)
child t c s deep b =
    let w = (goal.at.In_ok-inner t c).Else-eq in
    to_child _ s (angled t (goal.at.Else-eq t w).In_ok-expect s deep b) (omega (arith, one_less t c)) (no_slash t w)

pub returns-in_err-name-clause-reads : goal.returns-in_err-name-clause-reads
returns-in_err-name-clause-reads t c =
    let p = err_from_is_err_and c.from_residual.result c.from_residual.ensures.1 in
    rw (p.1, p.2) (λ s deep b. c.in_err-name.ensures.reads s b)

pub returns-in_err-expect-clause-reads : goal.returns-in_err-expect-clause-reads
returns-in_err-expect-clause-reads t c =
    let p = err_from_is_err_and c.from_residual-in_err-expect.result c.from_residual-in_err-expect.ensures.1 in
    rw (p.1, p.2) (λ s deep b. c.in_err-expect.ensures.reads _ _ (awaits_inside _ s) (c.loop-self.invariant.reads s deep b))

pub returns-then-eq-clause-reads : goal.returns-then-eq-clause-reads
returns-then-eq-clause-reads t c =
    let w = (goal.at.returns-then-eq-clause-reads t c).In_ok-expect in
    let lt : c.expect.new.self.at < length c.expect.new.self.doc.now = search rules in
    let is : get_or c.expect.new.self.doc.now c.expect.new.self.at 0 ≡ 47 = search rules in
    λ s deep b. c.end_tag.ensures.reads s (to_ending _ s (angled t w s deep b) _ refl lt is)

pub returns-in_err-inner-clause-reads : goal.returns-in_err-inner-clause-reads
returns-in_err-inner-clause-reads t c =
    let p = err_from_is_err_and c.from_residual-in_err-inner.result c.from_residual-in_err-inner.ensures.1 in
    let w = (goal.at.returns-in_err-inner-clause-reads t c).Else-eq in
    let least : c.args.depth ≡ 0 = search rules in
    let is : c.in_err-inner.field-0.0 ≡ NotWellMarked c.expect.new.self.at = search rules in
    rw (p.1, p.2) (λ s deep b. subst (Refused c.expect.new.self.doc.now) (sym is) (refused refl (too_deep _ s (angled t (goal.at.Else-eq t w).In_ok-expect s deep b) (omega arith) (no_slash t w))))

pub returns-in_err-element-clause-reads : goal.returns-in_err-element-clause-reads
returns-in_err-element-clause-reads t c =
    let p = err_from_is_err_and c.from_residual-in_err-element.result c.from_residual-in_err-element.ensures.1 in
    let w = (goal.at.returns-in_err-element-clause-reads t c).In_ok-inner in
    let fewer = one_less t w in
    rw (p.1, p.2) (λ s deep b. c.in_err-element.ensures.reads _ (omega arith) (child t w s deep b))

pub loop-self-preserved : goal.loop-self-preserved
loop-self-preserved t c =
    let w = (goal.at.loop-self-preserved t c).In_ok-inner in
    let told = c.in_ok-element.ensures in
    let before = c.in_ok-expect.ensures in
    let fewer = one_less t w in
    record {
      same = told.same ∙ before.same ∙ c.loop-self.invariant.same;
      further = omega (arith, told.further, before.further);
      reads = λ s deep b. told.reads _ (omega arith) (child t w s deep b);
    }
