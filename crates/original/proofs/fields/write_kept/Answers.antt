use Rattle.std.proofs.Common.{◌≡◌, ℕ, true, false, List, [], ◌∷◌, ◌++◌, sym, refl, ap, ◌∙◌, subst, append_assoc, rules}
use Rattle.rules.specs.Kept.{resolved, kept}
use Rattle.kinds.specs.Reading.{rest}
use Rattle.sinks.specs.Writers.{Written}
use Rattle.sinks.proofs.Sending.{nothing_written, then, cut, passed_on}
use Rattle.original.proofs.fields.write_kept.Goals as goal

pub loop-byte-init : goal.loop-byte-init
loop-byte-init g c = ([], nothing_written, refl)

pub loop-byte-preserved : goal.loop-byte-preserved
loop-byte-preserved g c =
    let (xs, p, e) = c.loop-byte.invariant in
    let b : ℕ = c.in-Some.byte in
    (xs ++ b ∷ [], then {all = true} p c.in_ok-write.ensures, append_assoc xs (b ∷ []) _ ∙ ap (λ l. xs ++ l) (sym c.in-Some.ensures.steps.byte) ∙ e)

pub returns-in_err-write : goal.returns-in_err-write
returns-in_err-write g c =
    let (xs, p, e) = c.loop-byte.invariant in
    let b : ℕ = c.in-Some.byte in
    let left : List ℕ = rest c.next.new.self in
    let whole : (xs ++ b ∷ []) ++ left ≡ kept (resolved c.args.raw.now) = append_assoc xs (b ∷ []) left ∙ ap (λ l. xs ++ l) (sym c.in-Some.ensures.steps.byte) ∙ e ∙ ap rest c.into_iter-byte-iterator.ensures.into_iter_gives ∙ c.new-byte-items.ensures in
    passed_on (search rules) (subst (λ l. Written g.W.Writer.writing c.args.to.now l false c.write.new.self) whole (cut (then {all = false} p c.in_err-write.ensures) left))
