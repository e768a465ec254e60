-- The first fault of a list of parts, by its first part and the rest.
use Rattle.std.proofs.Common.{ℕ, ◌+◌, List, ◌∷◌, None, Option, sym, ◌∙◌, inl, inr, arith}
use Rattle.rules.specs.Faults.{rank, Judgement, FirstOf}
use Rattle.rules.specs.declared.grounds.Fault.{Fault}
use Rattle.theory.proofs.Compose.{lower_place, judged_as, Either, then_judged, some_cons, some_either, Apart, apart_in}
use Rattle.theory.specs.Grounds.{Some_of}

-- where nothing is found at the first part, the rest decides
pub rest_judged : {S : Type 0} (P : S → Fault → Type 0) (x : S) (xs : List S) → Judgement (P x) None → (o : Option Fault) → Judgement (Some_of P xs) o → Judgement (Some_of P (x ∷ xs)) o
rest_judged P x xs h o k = judged_as (Either (P x) (Some_of P xs)) (Some_of P (x ∷ xs)) (some_either P x xs) (some_cons P x xs) o (then_judged (P x) (Some_of P xs) (λ f g p q. absurd (h f p)) None o h k)

-- of parts that lie one after the other, a fault of the first part is the first of all
pub first_judged : {S : Type 0} (n : ℕ) (P : S → Fault → Type 0) (lo hi : ℕ) (x : S) (xs : List S) → Apart n P lo hi (x ∷ xs) → (f : Fault) → FirstOf (P x) f → FirstOf (Some_of P (x ∷ xs)) f
first_judged n P lo hi x xs h f k = (
  some_either P x xs f (inl k.0),
  λ g q. elim (some_cons P x xs g q) [
    | inl p ↦ k.1 g p
    | inr p ↦
        let l = h.2 f k.0 in
        let m = apart_in n P (h.0 + 1) hi xs h.3 g p in
        lower_place (rank f) (rank g) (l.layered ∙ sym m.layered) (omega (arith, l.high, m.low))
  ],
)
