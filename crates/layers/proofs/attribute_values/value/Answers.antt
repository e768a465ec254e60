use Rattle.std.proofs.Common.{◌≡◌, ℕ, List, Some, Option, Result, sym, ap, ◌∙◌, subst, rules}
use Rattle.std.proofs.lemmas.Result.{err_from_is_err_and}
use Rattle.rules.specs.Faults.{Judgement, fault_of}
use Rattle.rules.specs.Grounds.{rows}
use Rattle.rules.specs.Kept.{resolved}
use Rattle.rules.specs.Catalogues.{Facts}
use Rattle.rules.specs.declared.schema.Kind.{Kind}
use Rattle.rules.specs.declared.schema.Node.{Node}
use Rattle.tags.specs.Spans.{part}
use Rattle.tags.specs.declared.attributes.AttributeSpan.{AttributeSpan}
use Rattle.values.specs.Judged.{Judged}
use Rattle.values.specs.declared.judgement.ValueFault.{ValueFault}
use Rattle.layers.specs.Found.{kind_named, given_in, ValueFinds}
use Rattle.layers.proofs.Valued.{no_kind, value_fault, value_judged}
use Rattle.layers.proofs.attribute_values.value.Goals as goal

-- the judgement of the raw bytes is that of the attribute that stands there
judged : (facts : Facts) (d : List ℕ) (k : Node) (a : AttributeSpan) (q : Kind) (name raw : List ℕ) → Some q ≡ kind_named (rows k) name → name ≡ part d a.name → raw ≡ part d a.value →
    (r : Result (Option ℕ) ValueFault) → Judged facts q (resolved raw) r → Judgement (ValueFinds facts k (given_in d a)) (value_fault a.value.start r)
judged facts d k a q name raw e n w r h = value_judged facts k (given_in d a) q (e ∙ ap (kind_named (rows k)) n) r (subst (λ s. Judged facts q (resolved s) r) w h)

pub returns-in_default : goal.returns-in_default
returns-in_default g c = no_kind (g.C.CatalogueSet.facts c.args.set.now) c.args.node (given_in c.args.document.now c.args.a) (c.in_default.ensures ∙ ap (kind_named (rows c.args.node)) c.of-name.ensures)

pub returns-in_err-map_err : goal.returns-in_err-map_err
returns-in_err-map_err g c =
    let facts = g.C.CatalogueSet.facts c.args.set.now in
    let finds = ValueFinds facts c.args.node (given_in c.args.document.now c.args.a) in
    let told = err_from_is_err_and c.from_residual.result c.from_residual.ensures.1 in
    let mapped : fault_of c.map_err.result ≡ value_fault c.args.a.value.start c.judge.result = search rules in
    let here = judged facts c.args.document.now c.args.node c.args.a c.in-Some.kind c.of-name.result.now c.of-raw.result.now c.in-Some.ensures c.of-name.ensures c.of-raw.ensures c.judge.result c.judge.ensures in
    rw (told.1, told.2) (subst (λ r. Judgement finds (fault_of r)) c.in_err-map_err.was (subst (Judgement finds) (sym mapped) here))

pub returns : goal.returns
returns g c =
    let facts = g.C.CatalogueSet.facts c.args.set.now in
    let finds = ValueFinds facts c.args.node (given_in c.args.document.now c.args.a) in
    let mapped : fault_of c.map_err.result ≡ value_fault c.args.a.value.start c.judge.result = search rules in
    let here = judged facts c.args.document.now c.args.node c.args.a c.in-Some.kind c.of-name.result.now c.of-raw.result.now c.in-Some.ensures c.of-name.ensures c.of-raw.ensures c.judge.result c.judge.ensures in
    subst (λ r. Judgement finds (fault_of r)) c.in_ok-map_err.was (subst (Judgement finds) (sym mapped) here)
