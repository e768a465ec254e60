use Rattle.std.proofs.Common.{◌≡◌, ◌+◌, cond, drop, None, Some, sym, ap, ◌∙◌}
use Rattle.rules.specs.Faults.{fault_of}
use Rattle.rules.specs.Grounds.{rows}
use Rattle.rules.specs.declared.grounds.Fault.TheVariants.{AttributeRefused}
use Rattle.tags.specs.Spans.{part}
use Rattle.tags.proofs.Parts.{reads_at, no_attributes}
use Rattle.reader.specs.Names.{row_at, taken, with_span, filled, refusal, refusing}
use Rattle.reader.proofs.NamesPass.{first_of, first_nothing, first_here, and_first, turn}
use Rattle.reader.proofs.names.collect.Goals as goal

pub loop-a-preserved : goal.loop-a-preserved
loop-a-preserved c =
    let h = c.loop-a.invariant in
    let rs = rows c.args.node in
    let told = reads_at c.in-Some.ensures.steps.reads h.same (λ i. c.loop-a.a-iterator.at) in
    let name = part c.args.document.now c.in-Some.a.name in
    let row : c.row_of-row.result ≡ row_at rs 0 name = c.row_of-row.ensures.is ∙ ap (row_at rs 0) c.of.ensures in
    let spans : c.put.new.self.spans ≡ with_span (row_at rs 0 name) c.loop-a.slots.spans c.in-Some.a.value = c.put.ensures.after ∙ ap (λ r. with_span r c.loop-a.slots.spans c.in-Some.a.value) row in
    let full = taken (row_at rs 0 name) c.loop-a.slots.spans in
    let refused : fault_of c.and-refused.result ≡ first_of (fault_of c.loop-a.refused) (cond full (Some (AttributeRefused c.in-Some.a.name.start)) None) =
    ap fault_of c.and-refused.ensures
    ∙ and_first c.loop-a.refused c.put.result
    ∙ ap (first_of (fault_of c.loop-a.refused)) (c.put.ensures.refused ∙ ap (λ r. cond (taken r c.loop-a.slots.spans) (Some (AttributeRefused c.in-Some.a.name.start)) None) row) in
    let at : c.next.new.self.at ≡ c.in-Some.a.value.end + 1 = c.in-Some.ensures.steps.next in
    record {
      same = c.in-Some.ensures.steps.same ∙ h.same;
      pass = λ whole g z k hg hz e.
          let (left, ok, lies, p, q) = h.pass whole g z k hg hz e in
          let t = turn c.args.document.now rs c.loop-a.a-iterator.at c.loop-a.slots.spans c.in-Some.a left g z ok hg hz lies told.attribute told.none in (
            t.left,
            t.ok,
            ap (λ n. drop n c.args.document.now) at ∙ t.lies,
            (λ j. filled rs (spans j) (at j) t.left) ∙ sym t.fills ∙ p,
            (λ j. first_of (refused j) (refusing (refusal rs (spans j) (at j) t.left)))
                ∙ sym (first_here (fault_of c.loop-a.refused) full c.in-Some.a.name.start _)
                ∙ ap (λ o. first_of (fault_of c.loop-a.refused) (refusing o)) (sym t.refuses)
                ∙ q,
          );
    }

pub returns : goal.returns
returns c = λ whole g z k hg hz e.
    let h = c.loop-a.invariant in
    let rs = rows c.args.node in
    let told = reads_at c.in-None.ensures.steps.reads h.same (λ i. c.loop-a.a-iterator.at) in
    let (left, ok, lies, p, q) = h.pass whole g z k hg hz e in
    let n = no_attributes c.args.document.now c.loop-a.a-iterator.at left g z ok lies told.attribute in (
      sym (ap (filled rs c.loop-a.slots.spans c.loop-a.a-iterator.at) n) ∙ p,
      sym (ap (λ l. first_of (fault_of c.loop-a.refused) (refusing (refusal rs c.loop-a.slots.spans c.loop-a.a-iterator.at l))) n ∙ first_nothing (fault_of c.loop-a.refused)) ∙ q,
    )
