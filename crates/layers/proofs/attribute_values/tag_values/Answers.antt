use Rattle.std.proofs.Common.{refl, ◌∙◌, sym, subst}
use Rattle.std.proofs.lemmas.Result.{err_from_is_err_and}
use Rattle.tags.proofs.Parts.{reads_at}
use Rattle.layers.proofs.InTags.{TagLeft, tag_first, tag_more, tag_found, tag_none}
use Rattle.layers.proofs.attribute_values.tag_values.Goals as goal

pub loop-a-init : goal.loop-a-init
loop-a-init g c =
    let facts = g.C.CatalogueSet.facts c.args.set.now in
    let d = c.args.document.now in
    rw c.into_iter-a-iterator.ensures.into_iter_gives (record {
      same = c.new-a-items.ensures.same;
      left = λ gs t. subst (λ i. TagLeft facts c.args.node d i gs) (sym c.new-a-items.ensures.begins) (tag_first facts c.args.node d c.args.at gs t);
    })

pub returns-in_err-value : goal.returns-in_err-value
returns-in_err-value g c =
    let told = err_from_is_err_and c.from_residual.result c.from_residual.ensures.1 in
    let h = c.loop-a.invariant in
    rw (told.1, told.2) (λ gs t. tag_found (g.C.CatalogueSet.facts c.args.set.now) c.args.node c.args.document.now c.loop-a.a-iterator.at gs c.in-Some.a c.in_err-value.field-0.0 (reads_at c.in-Some.ensures.steps.reads h.same refl) c.in_err-value.ensures (h.left gs t))

pub loop-a-preserved : goal.loop-a-preserved
loop-a-preserved g c =
    let facts = g.C.CatalogueSet.facts c.args.set.now in
    let d = c.args.document.now in
    let h = c.loop-a.invariant in
    let step = c.in-Some.ensures.steps in
    record {
      same = step.same ∙ h.same;
      left = λ gs t. subst (λ i. TagLeft facts c.args.node d i gs) (sym step.next) (tag_more facts c.args.node d c.loop-a.a-iterator.at gs c.in-Some.a (reads_at step.reads h.same refl) c.in_ok-value.ensures (h.left gs t));
    }

pub returns : goal.returns
returns g c =
    let h = c.loop-a.invariant in
    λ gs t. tag_none (g.C.CatalogueSet.facts c.args.set.now) c.args.node c.args.document.now c.loop-a.a-iterator.at gs (reads_at c.in-None.ensures.steps.reads h.same refl) (h.left gs t)
