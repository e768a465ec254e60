use Rattle.std.proofs.Common.{◌≡◌, ◌<◌, [], length, sym, refl, ◌∙◌, subst, arith}
use Rattle.std.proofs.lemmas.Result.{err_from_is_err_and}
use Rattle.std.proofs.lemmas.Bool.{cond-true, cond-false}
use Rattle.rules.specs.Bytes.{blank}
use Rattle.markup.specs.Machine.{after}
use Rattle.markup.specs.Reads.{Like, Refused}
use Rattle.markup.proofs.Scanning.{Skips, skips}
use Rattle.markup.proofs.Steps.{past_blanks, stuck_at, refused}
use Rattle.markup.proofs.Verdict.{first, faultless, at_last}
use Rattle.markup.proofs.document.check.Goals as goal
use Rattle.markup.proofs.document.check.Goals.{After-prolog, After-element, After-skip}

-- the document is read all along
past_prolog : (c : After-prolog) → c.prolog.new.self.doc.now ≡ c.args.document.now
past_prolog c = c.prolog.ensures.same ∙ c.new-reader.ensures.doc

past_element : (c : After-element) → c.element.new.self.doc.now ≡ c.args.document.now
past_element c = c.element.ensures.same ∙ past_prolog (goal.at.After-element c).After-prolog

-- the blanks behind the root
scan : (c : After-skip) → Skips blank c.args.document.now c.element.new.self.at c.skip.new.self.at
scan c =
    rw (sym (past_element (goal.at.After-skip c).After-element)) (skips c.element.new.self.inside c.skip.ensures.is)

-- after the root and the blanks behind it
ended : (c : After-skip) → Like c.args.document.now c.skip.new.self.at after
ended c =
    past_blanks after (λ b h. cond-true _ _ _ h) (scan c) (rw (sym (past_element (goal.at.After-skip c).After-element)) (c.in_ok-element.ensures.reads [] (omega arith) (c.in_ok-prolog.ensures.reads c.new-reader.ensures.start)))

pub returns-in_err-prolog-clause-judged : goal.returns-in_err-prolog-clause-judged
returns-in_err-prolog-clause-judged c =
    let p = err_from_is_err_and c.from_residual.result c.from_residual.ensures.1 in
    let same = past_prolog (goal.at.returns-in_err-prolog-clause-judged c).After-prolog in
    rw (p.1, p.2) (first _ _ (subst (λ d. Refused d c.in_err-prolog.field-0.0) same (c.in_err-prolog.ensures.reads c.new-reader.ensures.start)))

pub returns-in_err-element-clause-judged : goal.returns-in_err-element-clause-judged
returns-in_err-element-clause-judged c =
    let p = err_from_is_err_and c.from_residual-in_err-element.result c.from_residual-in_err-element.ensures.1 in
    let same = past_element (goal.at.returns-in_err-element-clause-judged c).After-element in
    rw (p.1, p.2) (first _ _ (subst (λ d. Refused d c.in_err-element.field-0.0) same (c.in_err-element.ensures.reads [] (omega arith) (c.in_ok-prolog.ensures.reads c.new-reader.ensures.start))))

pub returns-then-reader-document-clause-judged : goal.returns-then-reader-document-clause-judged
returns-then-reader-document-clause-judged c =
    let w = (goal.at.returns-then-reader-document-clause-judged c).After-skip in
    let short : c.skip.new.self.at < length c.args.document.now = omega arith in
    first _ _ (refused refl (stuck_at (ended w) short (cond-false _ _ _ ((scan w).stops short))))

pub returns : goal.returns
returns c =
    let w = (goal.at.returns c).After-skip in
    let m = at_last _ _ (ended w) (omega (arith, (scan w).within)) in
    record { judged = faultless _ m; marked = m }
