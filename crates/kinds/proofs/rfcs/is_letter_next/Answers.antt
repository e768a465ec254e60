use Rattle.std.proofs.Common.{suc, ◌&&◌, sym, ap, ◌∙◌, arith}
use Rattle.rules.specs.Kinds.{rfc_after}
use Rattle.kinds.specs.Reading.{rest}
use Rattle.kinds.proofs.Letters.{letter_any}
use Rattle.kinds.proofs.rfcs.is_letter_next.Goals as goal

pub returns-in-Some : goal.returns-in-Some
returns-in-Some c = λ n. ap (rfc_after (suc n)) c.in-Some.ensures.steps.byte ∙ letter_any n c.in-Some.b _ (λ e. omega arith) (λ e. omega arith) ∙ ap (λ t. t && rfc_after n (rest c.next.new.self)) (sym c.is_ascii_uppercase.ensures.value)
