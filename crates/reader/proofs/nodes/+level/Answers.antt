use Rattle.std.proofs.Common.{◌<◌, IfSome, subst, ◌≡◌, ℕ, ◌+◌, ◌-◌, true, List, length, get_or, take, drop, Some, sym, refl, ap, ◌∙◌, inl, inr, arith}
use Rattle.std.proofs.lemmas.Result.{err_from_is_err_and}
use Rattle.std.proofs.lemmas.Bool.{cond-true, cond-false}
use Rattle.rules.specs.Markup.{Content, text, content_ok}
use Rattle.rules.specs.Located.{located}
use Rattle.rules.specs.Values.{under}
use Rattle.theory.specs.On.{content_on, ends}
use Rattle.rules.specs.declared.grounds.Fault.TheVariants.{Misplaced}
use Rattle.tags.specs.Scan.{through}
use Rattle.tags.proofs.Fronts.{lies_next}
use Rattle.reader.specs.Tree.{step, finished, node_at, tree_first}
use Rattle.reader.proofs.Steps.{no_child, row_node}
use Rattle.reader.proofs.Levels.{Opened, closed, opened, finish_ok, finish_err, misplaced, no_place, takes_place, answer_ok, answer_err, inside_err, inside_ok, lone_next, full_next, full_open, lone_shut}
use Rattle.reader.proofs.nodes.+level.Goals as goal
use Rattle.reader.proofs.nodes.+level.Goals.{After-tag_end-close, After-children, then-close-document-via-then-close-document, then-close-document-via-else-close-document+then-depth-eq0, then-document-close-ne47+in_ok-end, else-document-close-ne47+then-may_end-2}

-- the element that begins in this turn
begun : (t : ℕ) (c : After-tag_end-close t) (m : Content) (rest : List ℕ) → content_ok c.args.depth m ≡ true → ends rest ≡ true → drop c.args.at c.args.document.now ≡ content_on m rest →
    (left : Content) × Opened c.args.document.now c.args.depth c.child.i c.skip-place.result c.skip-stop.result c.tag_end-close.result left rest
    × (c.child.i + length (text left) ≡ c.args.at + length (text m))
    × (tree_first c.args.under 0 0 (c.args.at + length (text m)) (located c.args.at m) ≡ tree_first c.args.under c.child.so_far.row c.child.so_far.count (c.args.at + length (text m)) (located c.child.i left))
begun t c m rest h r e =
    let (left, k, f, n, q) = c.child.invariant.2 m rest h r e in
    (left, opened c.args.document.now c.child.i c.skip-place.result c.skip-stop.result c.tag_end-close.result rest c.skip-place.ensures.is c.args.depth left c.skip-stop.ensures.is c.tag_end-close.ensures.reads k r f (sym c.if-closing.ensures.is), n, q)

-- the row that takes it
took : (t : ℕ) (c : After-children t) (name : List ℕ) → take (c.skip-stop.result - (c.skip-place.result + 1)) (drop (c.skip-place.result + 1) c.args.document.now) ≡ name →
    step (drop c.child.so_far.row (under c.args.under)) c.child.so_far.row c.child.so_far.count name ≡ Some c.in_ok-so_far.so_far
took t c name e = ap (step (drop c.child.so_far.row (under c.args.under)) c.child.so_far.row c.child.so_far.count) (sym e) ∙ sym c.step.ensures.is ∙ c.in_ok-so_far.ensures.ok_part

-- its node
kind : (t : ℕ) (c : After-children t) → node_at c.args.under c.in_ok-so_far.so_far.row ≡ (get_or c.children.result.now c.in_ok-so_far.so_far.row no_child).node
kind t c = row_node c.args.under c.children.result.now c.in_ok-so_far.so_far.row c.children.ensures (subst (λ o. IfSome o (λ s. s.row < length (under c.args.under))) c.in_ok-so_far.ensures.ok_part c.step.ensures.within)

pub returns-then-may_end : goal.returns-then-may_end
returns-then-may_end t c = record {
  within = (omega (arith, c.child.invariant.0), c.skip-place.ensures.within c.child.invariant.1);
  judges = λ m rest h r e.
      let (left, k, f, n, q) = c.child.invariant.2 m rest h r e in
      let (x, y) = closed c.args.document.now c.child.i c.skip-place.result 0 0 rest c.skip-place.ensures.is c.args.depth left k r f (sym c.if-closing.ensures.is) in
      finish_ok c.args.under c.child.so_far.row c.child.so_far.count _ (located c.child.i left) _ q c.skip-place.result x (y ∙ n) (sym c.if-may_end.ensures);
}

pub returns-then-closing : goal.returns-then-closing
returns-then-closing t c = record {
  within = tt;
  judges = λ m rest h r e.
      let (left, k, f, n, q) = c.child.invariant.2 m rest h r e in
      let (x, y) = closed c.args.document.now c.child.i c.skip-place.result 0 0 rest c.skip-place.ensures.is c.args.depth left k r f (sym c.if-closing.ensures.is) in
      finish_err c.args.under c.child.so_far.row c.child.so_far.count _ (located c.child.i left) _ q c.skip-place.result x (y ∙ n) (sym c.if-may_end.ensures);
}

pub returns-then-close-document-clause-judges : goal.returns-then-close-document-clause-judges
returns-then-close-document-clause-judges t c = λ m rest h r e.
    let (left, o, n, q) = begun t (goal.at.returns-then-close-document-clause-judges t c).After-tag_end-close m rest h r e in
    absurd (elim c.then-close-document.branch [ then-close-document-via-then-close-document w ↦ omega (arith, o.within) | then-close-document-via-else-close-document+then-depth-eq0 w ↦ omega (arith, o.deep) ])

pub returns-in_err-so_far-clause-judges : goal.returns-in_err-so_far-clause-judges
returns-in_err-so_far-clause-judges t c =
    let told = err_from_is_err_and c.from_residual.result c.from_residual.ensures.1 in
    let refused : c.in_err-so_far.field-0.0 ≡ Misplaced c.skip-place.result = misplaced c.in_err-so_far.ensures.value c.in_err-so_far.ensures.ok_part in
    rw (told.1, told.2, refused) (λ m rest h r e.
    let (left, o, n, q) = begun t (goal.at.returns-in_err-so_far-clause-judges t c).After-tag_end-close m rest h r e in
    let s = ap (step (drop c.child.so_far.row (under c.args.under)) c.child.so_far.row c.child.so_far.count) (sym o.named) ∙ sym c.step.ensures.is ∙ c.in_err-so_far.ensures.ok_part in
    elim o.shape [
      | inl z ↦ no_place c.args.under c.child.so_far.row c.child.so_far.count _ (located c.child.i left) _ q o.name _ _ _ _ _ z.is s
      | inr z ↦ no_place c.args.under c.child.so_far.row c.child.so_far.count _ (located c.child.i left) _ q o.name _ _ _ _ _ z.is s
    ])

pub returns-else-may_end-2-clause-judges : goal.returns-else-may_end-2-clause-judges
returns-else-may_end-2-clause-judges t c = λ m rest h r e.
    let here = goal.at.returns-else-may_end-2-clause-judges t c in
    let (left, o, n, q) = begun t here.After-tag_end-close m rest h r e in
    let s = took t here.After-children o.name o.named in
    elim o.shape [
      | inl z ↦
          let w = takes_place c.args.under c.child.so_far.row c.child.so_far.count _ (located c.child.i left) _ q o.name _ _ _ _ _ c.in_ok-so_far.so_far z.is s in
          inside_err _ _ _ _ w _ (cond-false _ _ _ (ap (λ k. finished (Some k) 0 0) (kind t here.After-children) ∙ sym c.if-may_end-2.ensures))
      | inr z ↦ absurd (full_open _ _ _ _ _ _ _ _ 0 z c.if-document-close-ne47.false)
    ]

pub returns-in_err-end-clause-judges : goal.returns-in_err-end-clause-judges
returns-in_err-end-clause-judges t c =
    let told = err_from_is_err_and c.from_residual-in_err-end.result c.from_residual-in_err-end.ensures.1 in
    let here = goal.at.returns-in_err-end-clause-judges t c in
    rw (told.1, told.2) (λ m rest h r e.
    let (left, o, n, q) = begun t here.After-tag_end-close m rest h r e in
    let s = took t here.After-children o.name o.named in
    elim o.shape [
      | inl z ↦ absurd (lone_shut _ _ _ _ _ _ _ _ 0 z c.if-document-close-ne47.true)
      | inr z ↦
          let w = takes_place c.args.under c.child.so_far.row c.child.so_far.count _ (located c.child.i left) _ q o.name _ _ _ _ _ c.in_ok-so_far.so_far z.is s in
          let x = answer_err _ _ _ (c.in_err-end.ensures.judges z.inside _ z.deep refl (lies_next c.args.document.now _ _ c.tag_end-close.result z.shown)) in
          inside_err _ _ _ _ w _ (ap (λ k. tree_first (Some k) 0 0 (c.tag_end-close.result + 1 + length (text z.inside)) (located (c.tag_end-close.result + 1) z.inside)) (kind t here.After-children) ∙ x)
    ])

pub child-preserved : goal.child-preserved
child-preserved t c =
    let here = goal.at.child-preserved t c in
    let d = c.args.document.now in
    let so_far = c.in_ok-so_far.so_far in
    elim c.if-document-close-ne47.branch [
      | then-document-close-ne47+in_ok-end w ↦
          let told = w.in_ok-end.ensures in
          let on = c.after-i.ensures.is ∙ ap (λ e. e + through 62 (drop e d)) w.end-is in (
            omega (arith, c.child.invariant.0, told.within, on),
            c.after-i.ensures.within (omega (arith, told.within, w.end-is)),
            λ m rest h r e.
                let (left, o, n, q) = begun t here.After-tag_end-close m rest h r e in
                let s = took t here.After-children o.name o.named in
                elim o.shape [
                  | inl z ↦ absurd (lone_shut _ _ _ _ _ _ _ _ 0 z w.if-document-close-ne47.true)
                  | inr z ↦
                      let taken = takes_place c.args.under c.child.so_far.row c.child.so_far.count _ (located c.child.i left) _ q o.name _ _ _ _ _ so_far z.is s in
                      let (x, y) = answer_ok _ _ _ (told.judges z.inside _ z.deep refl (lies_next d _ _ c.tag_end-close.result z.shown)) in
                      let v = inside_ok 0 _ _ _ taken (ap (λ k. tree_first (Some k) 0 0 (c.tag_end-close.result + 1 + length (text z.inside)) (located (c.tag_end-close.result + 1) z.inside)) (kind t here.After-children) ∙ x) in
                      let (p, g) = full_next d _ _ _ _ _ _ _ c.after-i.result z w.in_ok-end.end y on in
                      (z.after, z.ok, g, omega (arith, z.long, n, p), v ∙ ap (λ j. tree_first c.args.under so_far.row so_far.count (c.args.at + length (text m)) (located j z.after)) (sym p))
                ],
          )
      | else-document-close-ne47+then-may_end-2 w ↦
          let on = c.after-i.ensures.is ∙ ap (λ e. e + through 62 (drop e d)) w.end-is in (
            omega (arith, c.child.invariant.0, on),
            c.after-i.ensures.within (omega (arith, w.end-is)),
            λ m rest h r e.
                let (left, o, n, q) = begun t here.After-tag_end-close m rest h r e in
                let s = took t here.After-children o.name o.named in
                elim o.shape [
                  | inl z ↦
                      let taken = takes_place c.args.under c.child.so_far.row c.child.so_far.count _ (located c.child.i left) _ q o.name _ _ _ _ _ so_far z.is s in
                      let v = inside_ok 0 _ _ _ taken (cond-true _ _ _ (ap (λ k. finished (Some k) 0 0) (kind t here.After-children) ∙ sym w.if-may_end-2.ensures)) in
                      let (p, g) = lone_next d _ _ _ _ _ _ _ c.after-i.result z on in
                      (z.after, z.ok, g, omega (arith, z.long, n, p), v ∙ ap (λ j. tree_first c.args.under so_far.row so_far.count (c.args.at + length (text m)) (located j z.after)) (sym p))
                  | inr z ↦ absurd (full_open _ _ _ _ _ _ _ _ 0 z w.if-document-close-ne47.false)
                ],
          )
    ]
