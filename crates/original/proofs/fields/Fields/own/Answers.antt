use Rattle.std.proofs.Common.{◌≡◌, ℕ, ◌+◌, List, ◌∷◌, [], ◌++◌, map, length, drop, Ok, Err, Option, sym, ap, ◌∙◌, subst, rules}
use Rattle.std.specs.List.{zip}
use Rattle.std.proofs.lemmas.List.{map-append, append-nil}
use Rattle.std.proofs.lemmas.Iterator.{YieldsList-from_slice, YieldsList-from_zip}
use Rattle.std.proofs.lemmas.Iterator.Adapters.{YieldsList-from_skip}
use Rattle.std.proofs.lemmas.Iterator.Consumers.{YieldsList-at, YieldsList-so_far, YieldsList-turn, YieldsList-end}
use Rattle.rules.specs.Texts.{field_if}
use Rattle.schema.specs.declared.attributes.Row.{Row}
use Rattle.tags.specs.declared.attributes.Span.{Span}
use Rattle.original.specs.Joined.{text_in}
use Rattle.original.specs.Wrote.{owed, Wrote}
use Rattle.original.proofs.Joining.{wrote_more, wrote_cut, same_twice}
use Rattle.original.proofs.Rows.{met_pair, paired_fields, paired_append, paired_split, paired_own}
use Rattle.original.proofs.fields.Fields.own.Goals as goal

pub loop-row-preserved : goal.loop-row-preserved
loop-row-preserved g c =
    let s = c.args.self.now in
    let d : List ℕ = s.document.now in
    let seen : List (Row × Option Span) = map met_pair c.loop-row.yielded in
    let p : Row × Option Span = (c.in-Some.row.now, c.in-Some.slot.now) in
    let i = c.loop-row.invariant in
    let next : paired_fields d seen ++ field_if p.0.in_cadena (text_in c.loop-row.self.document.now p.1) ≡ paired_fields d (map met_pair (c.loop-row.yielded ++ (c.in-Some.row, c.in-Some.slot) ∷ [])) =
    (λ j. paired_fields d seen ++ field_if p.0.in_cadena (text_in (i.same.document j) p.1))
    ∙ ap (λ l. paired_fields d seen ++ l) (sym (append-nil (field_if p.0.in_cadena (text_in d p.1))))
    ∙ sym (paired_append d seen (p ∷ []))
    ∙ ap (paired_fields d) (sym (map-append met_pair c.loop-row.yielded ((c.in-Some.row, c.in-Some.slot) ∷ []))) in
    record {
      same = same_twice i.same c.in_ok-row.ensures.same;
      wrote = subst (λ l. Wrote g.W.Writer.writing s l (owed s) (Ok tt) c.row.new.self) next (wrote_more {ys = field_if p.0.in_cadena (text_in c.loop-row.self.document.now p.1)} {r = Ok tt} i.wrote c.in_ok-row.ensures.wrote);
    }

pub returns-in_err-row-clause-wrote : goal.returns-in_err-row-clause-wrote
returns-in_err-row-clause-wrote g c =
    let s = c.args.self.now in
    let d : List ℕ = s.document.now in
    let rs : List Row = c.rows.result.now in
    let ss : List (Option Span) = c.args.slots.now.spans in
    let all : List (Row × Option Span) = drop c.namespaces.result (zip rs ss) in
    let k : ℕ = length c.loop-row.yielded in
    let p : Row × Option Span = (c.in-Some.row.now, c.in-Some.slot.now) in
    let i = c.loop-row.invariant in
    let pairs = YieldsList-from_zip {s = c.zip.result} (YieldsList-from_slice rs (cc)) (YieldsList-from_slice ss (search (rules, c.zip.ensures.second))) in
    let road = YieldsList-at c.into_iter-row-iterator.ensures.into_iter_gives (YieldsList-from_skip c.namespaces.result (YieldsList-at c.skip-row-items.ensures.source pairs) c.skip-row-items.ensures.count) in
    let so_far = YieldsList-so_far road c.loop-row.yielded c.loop-row.row-iterator c.loop-row.yielded_by in
    let turn = YieldsList-turn road c.loop-row.yielded c.loop-row.row-iterator c.loop-row.yielded_by c.next.result c.next.new.self _ c.in-Some.is c.next.ensures.steps in
    let whole = (λ j. (paired_fields d (map met_pair c.loop-row.yielded) ++ field_if p.0.in_cadena (text_in (i.same.document j) p.1)) ++ paired_fields d (drop (k + 1) all))
    ∙ paired_split d all _ k p so_far turn.0 turn.1
    ∙ paired_own d c.args.node rs ss c.namespaces.result c.namespaces.ensures c.rows.ensures in
    subst (λ l. Wrote g.W.Writer.writing s l (owed s) c.from_residual.result c.row.new.self) whole
    (wrote_cut (paired_fields d (drop (k + 1) all)) c.from_residual.result (search rules) (wrote_more {ys = field_if p.0.in_cadena (text_in c.loop-row.self.document.now p.1)} {r = Err c.in_err-row.field-0.0} i.wrote c.in_err-row.ensures.wrote))

pub returns-clause-wrote : goal.returns-clause-wrote
returns-clause-wrote g c =
    let s = c.args.self.now in
    let d : List ℕ = s.document.now in
    let rs : List Row = c.rows.result.now in
    let ss : List (Option Span) = c.args.slots.now.spans in
    let pairs = YieldsList-from_zip {s = c.zip.result} (YieldsList-from_slice rs (cc)) (YieldsList-from_slice ss (search (rules, c.zip.ensures.second))) in
    let road = YieldsList-at c.into_iter-row-iterator.ensures.into_iter_gives (YieldsList-from_skip c.namespaces.result (YieldsList-at c.skip-row-items.ensures.source pairs) c.skip-row-items.ensures.count) in
    let end = YieldsList-end road c.loop-row.yielded c.loop-row.row-iterator c.loop-row.yielded_by c.next.result c.next.new.self c.in-None.is c.next.ensures.steps in
    let whole = ap (paired_fields d) end.0 ∙ paired_own d c.args.node rs ss c.namespaces.result c.namespaces.ensures c.rows.ensures in
    subst (λ l. Wrote g.W.Writer.writing s l (owed s) (Ok tt) c.loop-row.self) whole c.loop-row.invariant.wrote
