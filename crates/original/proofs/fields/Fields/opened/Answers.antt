use Rattle.std.proofs.Common.{◌≡◌, true, List, [], map, length, drop, Option, sym, ap, subst, rules}
use Rattle.rules.specs.Schema.{attributes, namespaces}
use Rattle.rules.specs.Texts.{own_fields}
use Rattle.rules.specs.declared.schema.Node.TheVariants.{Impuestos, Traslados}
use Rattle.tags.specs.declared.attributes.Span.{Span}
use Rattle.sinks.specs.Writers.{Written}
use Rattle.sinks.proofs.Sending.{nothing_written}
use Rattle.original.specs.Joined.{joined_on, begun_by, text_in}
use Rattle.original.specs.Totals.{opened_fields, opened_totals}
use Rattle.original.specs.Wrote.{owed, Wrote}
use Rattle.original.proofs.Opening.{opened_own, opened_keeps, opened_taxes, is_other}
use Rattle.original.proofs.fields.Fields.opened.Goals as goal

pub returns-in-Impuestos-clause-wrote : goal.returns-in-Impuestos-clause-wrote
returns-in-Impuestos-clause-wrote g c = λ gs sound.
    let s = c.args.self.now in
    let ss : List (Option Span) = c.slots_of-slots.result.spans in
    let none : [] ≡ opened_fields (owed s) c.args.found.node gs = ap (λ k. opened_fields (owed s) k gs) (sym c.in-Impuestos.is) in
    record {
      text = subst (λ l. Written g.W.Writer.writing s.to.now (joined_on s.begun l) true s.to.now) none nothing_written;
      begun = ap (begun_by s.begun) none;
      owes = opened_taxes s.document.now (owed s) c.args.found.node gs ss _ _ c.in-Impuestos.is (c.slots_of-slots.ensures gs sound) c.span-self.ensures.slot c.span-self-in-Impuestos.ensures.slot;
    }

pub returns-in_default-clause-wrote : goal.returns-in_default-clause-wrote
returns-in_default-clause-wrote g c = λ gs sound.
    let s = c.args.self.now in
    let k = c.args.found.node in
    let ss : List (Option Span) = c.slots_of-slots.result.spans in
    let taxes = is_other k Impuestos (search rules) in
    let transfers = is_other k Traslados (search rules) in
    let own = opened_own s.document.now (owed s) k gs ss taxes transfers (c.slots_of-slots.ensures gs sound) in
    let keeps = opened_keeps s.document.now (owed s) k gs ss taxes transfers in
    subst (λ l. Wrote g.W.Writer.writing s l (opened_totals (owed s) k gs) c.own.result c.own.new.self) own
    (subst (λ t. Wrote g.W.Writer.writing s (own_fields (attributes k) (map (text_in s.document.now) (drop (length (namespaces k)) ss))) t c.own.result c.own.new.self) keeps c.own.ensures.wrote)
