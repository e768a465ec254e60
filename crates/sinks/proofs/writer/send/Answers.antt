use Rattle.std.proofs.Common.{◌≡◌, ◌+◌, true, false, [], ◌∷◌, ◌++◌, get_or, take, drop, sym, ap, ◌∙◌, subst, arith, rules}
use Rattle.std.proofs.lemmas.List.{take_more, take-append-drop}
use Rattle.sinks.specs.Writers.{Written}
use Rattle.sinks.proofs.Sending.{then, cut, passed_on}
use Rattle.sinks.proofs.writer.send.Goals as goal

pub returns-in_err-write : goal.returns-in_err-write
returns-in_err-write g c =
    let xs = c.args.bytes.now in
    let i = c.loop-byte.byte-index in
    let whole : (take i xs ++ get_or xs i 0 ∷ []) ++ drop (i + 1) xs ≡ xs = ap (λ l. l ++ drop (i + 1) xs) (sym (take_more xs i 0 (omega arith))) ∙ take-append-drop (i + 1) xs in
    passed_on (search rules) (subst (λ l. Written g.W.Writer.writing c.args.to.now l false c.write.new.self) whole (cut (then {all = false} c.loop-byte.invariant c.in_err-write.ensures) (drop (i + 1) xs)))

pub loop-byte-preserved : goal.loop-byte-preserved
loop-byte-preserved g c =
    subst (λ l. Written g.W.Writer.writing c.args.to.now l true c.write.new.self) (sym (take_more c.args.bytes.now c.loop-byte.byte-index 0 (omega arith))) (then c.loop-byte.invariant c.in_ok-write.ensures)
