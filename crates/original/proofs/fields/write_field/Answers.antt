use Rattle.std.proofs.Common.{ℕ, Bool, cond, List, [], ◌∷◌, ◌++◌, is_ok, sym, subst}
use Rattle.rules.specs.Kept.{resolved, kept}
use Rattle.sinks.specs.Writers.{Written}
use Rattle.sinks.proofs.Sending.{then}
use Rattle.original.proofs.fields.write_field.Goals as goal
use Rattle.original.proofs.fields.write_field.Goals.{then-begun+in_ok-write, else-begun}

pub returns : goal.returns
returns g c =
    let xs : List ℕ = kept (resolved c.args.raw.now) in
    let ok : Bool = is_ok c.write_kept.result in
    elim c.if-begun.branch [
      | then-begun+in_ok-write w ↦
          subst (λ b. Written g.W.Writer.writing c.args.to.now (cond b (124 ∷ []) [] ++ xs) ok c.write_kept.new.to) (sym w.if-begun.true)
          (then w.in_ok-write.ensures (subst (λ s. Written g.W.Writer.writing s xs ok c.write_kept.new.to) w.to-is c.write_kept.ensures))
      | else-begun w ↦
          subst (λ b. Written g.W.Writer.writing c.args.to.now (cond b (124 ∷ []) [] ++ xs) ok c.write_kept.new.to) (sym w.if-begun.false)
          (subst (λ s. Written g.W.Writer.writing s xs ok c.write_kept.new.to) w.to-is c.write_kept.ensures)
    ]
