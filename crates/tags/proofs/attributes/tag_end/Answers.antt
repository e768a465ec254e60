use Rattle.std.proofs.Common.{◌++◌, length, ap, ◌∙◌, arith}
use Rattle.rules.specs.Markup.{attributes_text}
use Rattle.theory.specs.On.{attributes_on}
use Rattle.tags.proofs.Parts.{reads_at, tag_ends, more_attributes, no_attributes}
use Rattle.tags.proofs.attributes.tag_end.Goals as goal

pub loop-a-preserved : goal.loop-a-preserved
loop-a-preserved c =
    let h = c.loop-a.invariant in
    let told = reads_at c.in-Some.ensures.steps.reads h.same h.stands in
    record {
      same = c.in-Some.ensures.steps.same ∙ h.same;
      stands = c.in-Some.ensures.steps.next;
      begins = omega (arith, h.begins, told.within);
      within = λ k. omega (arith, told.within);
      past = λ k. absurd (omega (arith, h.begins, told.within));
      reads = λ l g z k hg hz e.
          let (left, k, f, n) = h.reads l g z k hg hz e in
          let (more, k', f', n') = more_attributes c.args.document.now c.loop-a.i c.in-Some.a left g z k hg hz f told.attribute told.none in
          (more, k', f', n' ∙ n);
    }

pub returns-clause-reads : goal.returns-clause-reads
returns-clause-reads c = λ l g z h hg hz e.
    let i = c.loop-a.invariant in
    let told = reads_at c.in-None.ensures.steps.reads i.same i.stands in
    let (left, k, f, n) = i.reads l g z h hg hz e in
    let q = no_attributes c.args.document.now c.loop-a.i left g z k f told.attribute in
    let (p, x, y) = tag_ends c.args.document.now c.loop-a.i _ c.skip.ensures.is g z hg hz (f ∙ ap (λ m. attributes_on m (g ++ z)) q) in
    omega (arith, p, n, ap (λ m. length (attributes_text m)) q)
