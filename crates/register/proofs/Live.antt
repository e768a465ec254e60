-- Registers that may still be called.
use Rattle.std.proofs.Common.{◌≡◌, true, ap, sym, ◌∙◌}
use Rattle.std.proofs.lemmas.Bool.{false≢true}
use Rattle.rules.specs.Register.{Phase, used_up}
use Rattle.register.specs.Phases.{in_use}

-- a register that may still be called is not used up
pub still_there : (p : Phase) → in_use p ≡ true → p ≡ used_up → ⊥
still_there p e u = false≢true (sym (ap in_use u) ∙ e)
