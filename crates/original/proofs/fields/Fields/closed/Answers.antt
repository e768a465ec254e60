use Rattle.std.proofs.Common.{◌≡◌, ℕ, true, List, ◌++◌, is_ok, sym, ap, ◌∙◌, subst, rules}
use Rattle.std.proofs.lemmas.Result.{MatchResult-weaker}
use Rattle.rules.specs.Texts.{field_if}
use Rattle.sinks.specs.Writers.{Written}
use Rattle.sinks.proofs.Sending.{passed_on}
use Rattle.original.specs.Joined.{joined_on, begun_by, text_in}
use Rattle.original.specs.Totals.{closed_fields, closed_totals}
use Rattle.original.specs.Wrote.{owed}
use Rattle.original.proofs.Joining.{none_yet, no_more, more_fields, begun_append}
use Rattle.original.proofs.fields.Fields.closed.Goals as goal

pub returns-in_err-field-in-Impuestos-clause-wrote : goal.returns-in_err-field-in-Impuestos-clause-wrote
returns-in_err-field-in-Impuestos-clause-wrote g c =
    let s = c.args.self.now in
    let d : List ℕ = s.document.now in
    let gs : List (List ℕ) = field_if true (text_in d (s.transferred)) in
    let both : closed_fields (owed s) c.args.node ≡ field_if true (text_in d c.take-retained.result) ++ gs =
    ap (closed_fields (owed s)) c.in-Impuestos.is ∙ ap (λ o. field_if true (text_in d (o)) ++ gs) (sym c.take-retained.ensures.value) in
    record {
      text = passed_on (search rules) (no_more none_yet _ gs both c.in_err-field-in-Impuestos.ensures.wrote.text);
      begun = search rules;
      owes = search rules;
    }

pub returns-in_ok-field-in-Impuestos-clause-wrote : goal.returns-in_ok-field-in-Impuestos-clause-wrote
returns-in_ok-field-in-Impuestos-clause-wrote g c =
    let s = c.args.self.now in
    let d : List ℕ = s.document.now in
    let fs : List (List ℕ) = field_if true (text_in d c.take-retained.result) in
    let same = c.in_ok-field-in-Impuestos.ensures.same.document in
    let gs : List (List ℕ) = field_if true (text_in c.field.new.self.document.now c.take-transferred.result) in
    let first = c.in_ok-field-in-Impuestos.ensures.wrote in
    let second = c.field-in-Impuestos.ensures.wrote in
    let r = c.field-in-Impuestos.result in
    let whole : fs ++ gs ≡ closed_fields (owed s) c.args.node =
    (λ i. field_if true (text_in d (c.take-retained.ensures.value i)) ++ field_if true (text_in (same i) (c.take-transferred.ensures.value i)))
    ∙ ap (closed_fields (owed s)) (sym c.in-Impuestos.is) in
    record {
      text = subst (λ l. Written g.W.Writer.writing s.to.now (joined_on s.begun l) (is_ok r) c.field-in-Impuestos.new.self.to.now) whole (more_fields s.begun fs gs c.field.new.self.begun first.text first.begun second.text);
      begun = MatchResult-weaker r second.begun (λ x e. e ∙ ap (λ z. begun_by z gs) first.begun ∙ sym (begun_append s.begun fs gs) ∙ ap (begun_by s.begun) whole) (λ y t. t);
      owes = MatchResult-weaker r second.owes (λ x e. e ∙ first.owes ∙ (λ i. record { retained = text_in d (c.take-retained.ensures.after i); transferred = text_in d (c.take-transferred.ensures.after i) }) ∙ ap (closed_totals (owed s)) (sym c.in-Impuestos.is)) (λ y t. t);
    }
