use Rattle.std.proofs.Common.{◌+◌, drop, Some, refl, sym, ap, ◌∙◌, arith}
use Rattle.std.specs.List.{prefix_len}
use Rattle.std.proofs.lemmas.Bool.{false≢true}
use Rattle.std.proofs.lemmas.Bool.Decides.{nat_tests}
use Rattle.byte_classes.specs.Runs.{other}
use Rattle.tags.proofs.Parts.{steps, spans_are, tag_ends, no_slash, no_angle}
use Rattle.tags.proofs.attributes.attribute.Goals as goal
use Rattle.tags.proofs.attributes.attribute.Goals.{in_default, in-47, in-47-2}

pub returns-in_err-get-clause-reads : goal.returns-in_err-get-clause-reads
returns-in_err-get-clause-reads c = λ a rest ok e.
    let s = steps c.args.document.now c.args.at c.skip-start.result _ _ _ _ c.skip-start.ensures.is refl refl refl refl a rest ok e in
    absurd (omega (arith, c.in_err-get.ensures.lookup.3, s.name_in))

pub returns-then-matches-clause-reads : goal.returns-then-matches-clause-reads
returns-then-matches-clause-reads c = λ a rest ok e.
    let s = steps c.args.document.now c.args.at c.skip-start.result _ _ _ _ c.skip-start.ensures.is refl refl refl refl a rest ok e in
    let here = sym (c.in_ok-get.ensures.lookup.3.1 0) in
    elim c.match-matches.branch [ in_default w ↦ absurd (false≢true (sym w.matches-is ∙ c.if-matches.true)) | in-47 w ↦ absurd (no_slash _ s.name_byte (here ∙ w.in-47.is)) | in-47-2 w ↦ absurd (no_angle _ s.name_byte (here ∙ w.in-47.is)) ]

pub returns-in_err-quote-clause-reads : goal.returns-in_err-quote-clause-reads
returns-in_err-quote-clause-reads c = λ a rest ok e.
    let s = steps c.args.document.now c.args.at _ _ _ c.skip-opening.result _ c.skip-start.ensures.is c.skip-end.ensures.is c.skip-equals.ensures.is c.skip-opening.ensures.is refl a rest ok e in
    absurd (omega (arith, c.in_err-quote.ensures.lookup.3, s.quote_in))

pub returns-then-closing-document-clause-reads : goal.returns-then-closing-document-clause-reads
returns-then-closing-document-clause-reads c = λ a rest ok e.
    let last = c.skip-closing.ensures.is ∙ ap (λ b. c.skip-opening.result + 1 + prefix_len (other b) (drop (c.skip-opening.result + 1) c.args.document.now)) (c.in_ok-quote.ensures.lookup.3.1 0) in
    let s = steps c.args.document.now c.args.at _ _ _ _ _ c.skip-start.ensures.is c.skip-end.ensures.is c.skip-equals.ensures.is c.skip-opening.ensures.is last a rest ok e in
    absurd (omega arith)

pub returns-clause-reads : goal.returns-clause-reads
returns-clause-reads c = λ a rest ok e.
    let last = c.skip-closing.ensures.is ∙ ap (λ b. c.skip-opening.result + 1 + prefix_len (other b) (drop (c.skip-opening.result + 1) c.args.document.now)) (c.in_ok-quote.ensures.lookup.3.1 0) in
    let s = steps c.args.document.now c.args.at _ _ _ _ _ c.skip-start.ensures.is c.skip-end.ensures.is c.skip-equals.ensures.is c.skip-opening.ensures.is last a rest ok e in
    ap Some (spans_are _ _ _ _ _ _ _ a rest s)

pub returns-clause-none : goal.returns-clause-none
returns-clause-none c = λ g z hg hz e.
    let (p, l, t) = tag_ends c.args.document.now c.args.at _ c.skip-start.ensures.is g z hg hz e in
    let here = c.in_ok-get.ensures.lookup.3.1 0 in
    elim c.match-matches.branch [ in_default w ↦ absurd (grind (arith, nat_tests, here, t)) | in-47 w ↦ absurd (false≢true (sym c.if-matches.false ∙ w.matches-is)) | in-47-2 w ↦ absurd (false≢true (sym c.if-matches.false ∙ w.matches-is)) ]
