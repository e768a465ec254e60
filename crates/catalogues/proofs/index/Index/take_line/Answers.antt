use Rattle.std.proofs.Common.{◌≡◌, false, Option, Some, MatchOption, subst, sym, ap, ◌∙◌, arith}
use Rattle.std.specs.Option.{ok_or}
use Rattle.std.proofs.lemmas.Result.{err_from_is_err_and}
use Rattle.rules.specs.declared.grounds.Fault.TheVariants.{BadCatalogueLine}
use Rattle.catalogues.specs.Lines.{fact_line, key_of}
use Rattle.catalogues.proofs.Indexing.{inserted}
use Rattle.catalogues.proofs.Taking.{told_unended, told_no_fact, told_repeated, room_there, order_next, indexed_next}
use Rattle.catalogues.proofs.index.Index.take_line.Goals as goal

-- what holds of the item that an `Option` is
some_told : {A : Type 0} (P : Type 0) (Q : A → Type 0) (o : Option A) (x : A) → o ≡ Some x → MatchOption o P Q → Q x
some_told P Q o x e h = subst (λ o. MatchOption o P Q) e h

pub returns-then-end-self-clause-err : goal.returns-then-end-self-clause-err
returns-then-end-self-clause-err c =
    let x = c.args.self.now in
    told_unended x.text.now c.line_from-line.result.now x.at x.order c.line_from-line.ensures c.requires c.if-end-self.true

pub returns-in_err-ok_or-clause-err : goal.returns-in_err-ok_or-clause-err
returns-in_err-ok_or-clause-err c =
    let x = c.args.self.now in
    let line = c.line_from-line.result.now in
    let bad = BadCatalogueLine x.at in
    let f = c.fact.ensures in
    let n : fact_line line ≡ false = rw c.in_err-ok_or.ensures.ok_part at f in
    let v = c.in_err-ok_or.ensures.value ∙ ap (λ o. ok_or o bad) c.in_err-ok_or.ensures.ok_part in
    let q : c.in_err-ok_or.field-0.0 ≡ bad = cc in
    let p = err_from_is_err_and c.from_residual.result c.from_residual.ensures.1 in
    rw (p.1, p.2, q) (told_no_fact x.text.now line x.at x.order c.line_from-line.ensures c.if-end-self.false n)

pub returns-in_default-clause-err : goal.returns-in_default-clause-err
returns-in_default-clause-err c =
    let x = c.args.self.now in
    let f = some_told _ _ _ _ c.in_ok-ok_or.ensures.ok_part c.fact.ensures in
    told_repeated x.text.now c.line_from-line.result.now x.at x.order c.line_from-line.ensures c.if-end-self.false f.0 _ (ap key_of c.line_from-line.ensures ∙ sym c.key_from-key.ensures) x.places x.count x.indexed c.in_default.field-0 c.in_default.ensures.0 c.in_default.ensures.1

pub copy_within-requires-clause-dest_in_bounds : goal.copy_within-requires-clause-dest_in_bounds
copy_within-requires-clause-dest_in_bounds c =
    let x = c.args.self.now in
    let f = some_told _ _ _ _ c.in_ok-ok_or.ensures.ok_part c.fact.ensures in
    let r = room_there x.text.now c.line_from-line.result.now x.at x.order c.line_from-line.ensures c.if-end-self.false f.0 _ (ap key_of c.line_from-line.ensures ∙ sym c.key_from-key.ensures) x.places x.count x.indexed in
    omega (arith, r, c.in-Err.ensures.0)

pub bounds-self-place : goal.bounds-self-place
bounds-self-place c =
    let x = c.args.self.now in
    let f = some_told _ _ _ _ c.in_ok-ok_or.ensures.ok_part c.fact.ensures in
    let r = room_there x.text.now c.line_from-line.result.now x.at x.order c.line_from-line.ensures c.if-end-self.false f.0 _ (ap key_of c.line_from-line.ensures ∙ sym c.key_from-key.ensures) x.places x.count x.indexed in
    omega (arith, r, c.in-Err.ensures.0)

pub invariant_of-self : goal.invariant_of-self
invariant_of-self c =
    let x = c.args.self.now in
    let t = x.text.now in
    let line = c.line_from-line.result.now in
    let key = c.key_from-key.result.now in
    let place = c.in-Err.place in
    let e = c.line_from-line.ensures in
    let n = c.if-end-self.false in
    let f = some_told _ _ _ _ c.in_ok-ok_or.ensures.ok_part c.fact.ensures in
    let s = c.in-Err.ensures in
    let r = room_there t line x.at x.order e n f.0 key (ap key_of c.line_from-line.ensures ∙ sym c.key_from-key.ensures) x.places x.count x.indexed in
    let m = c.copy_within.ensures in
    record {
      room = omega (arith, r);
      order = order_next t line x.at x.order e n f.0 key (ap key_of c.line_from-line.ensures ∙ sym c.key_from-key.ensures) x.places x.count x.indexed place s;
      indexed = indexed_next t line x.at x.order e n f.0 key (ap key_of c.line_from-line.ensures ∙ sym c.key_from-key.ensures) x.places x.count x.indexed place s _ (inserted x.places c.copy_within.new.self x.count place x.at s.0 (omega (arith, r)) m.len m.by_index.0 m.by_index.1);
    }
