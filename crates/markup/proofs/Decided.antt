-- The laws of markup: every text has its verdict, and every beginning is viable or not.
use Rattle.std.proofs.Common.{◌≡◌, ℕ, zero, suc, ◌+◌, ◌⊎◌, List, [], length, get_or, Some, None, Option, sym, refl, ap, ◌∙◌, inl, inr, ⊎_elim, arith}
use Rattle.std.proofs.lemmas.List.{take_all}
use Rattle.std.proofs.lemmas.Bool.{cases_Bool}
use Rattle.rules.specs.Markup.{WellMarked, Viable}
use Rattle.theory.specs.Grounds.{EveryVerdict}
use Rattle.theory.proofs.FirstLaws.{one_verdict}
use Rattle.theory.proofs.Unique.{one_reading}
use Rattle.theory.proofs.Verdicts.{verdict_from}
use Rattle.markup.specs.Machine.{Place, fresh, step, run, finished}
use Rattle.markup.specs.Reads.{Like, Stops}
use Rattle.markup.specs.Laws.{MarkupDecided, BeginningsLaw}
use Rattle.markup.proofs.Steps.{at_like, goes_on, stuck_at, halts}
use Rattle.markup.proofs.Verdict.{passed, lost, shorter, unmarked, longest, one_place, marks}

-- the reader goes from i to the end of d, or stops
walk : (d : List ℕ) (n i : ℕ) (p : Place) → i + n ≡ length d → Like d i p → WellMarked d ⊎ ((k : ℕ) × Stops d k)
walk d zero i p fit k =
    ⊎_elim
    (λ e. inl (marks d k.place (ap (run fresh) (sym (take_all i d (omega arith))) ∙ k.at.runs) (k.ends ∙ e)))
    (λ e. inr (i, halts k e (λ lt. absurd (omega arith))))
    (cases_Bool (finished p))
walk d (suc n) i p fit k =
    (elim (step p (get_or d i 0)) as (λ o. step p (get_or d i 0) ≡ o → WellMarked d ⊎ ((k : ℕ) × Stops d k)) [
      | None ↦ λ e. inr (i, stuck_at k (omega arith) e)
      | Some q ↦ λ e. walk d n (i + 1) q (omega arith) (goes_on q (i + 1) refl k (omega arith) e)
    ]) refl

pub markup_decided : MarkupDecided
markup_decided d =
    ⊎_elim inl (λ s. inr (unmarked s.1, (s.0, (longest s.1, one_place (longest s.1)))))
    (walk d (length d) 0 fresh (omega arith) (at_like (record { within = omega arith; runs = refl })))

viable_or_not : (u : List ℕ) (o : Option Place) → run fresh u ≡ o → Viable u ⊎ (Viable u → ⊥)
viable_or_not u None e = inr (lost u e)
viable_or_not u (Some p) e = inl (passed u p e)

pub beginnings : BeginningsLaw
beginnings = record { empty = passed [] fresh refl; shorter = shorter; completed = λ p v. v; decided = λ p. viable_or_not p (run fresh p) refl }

-- every document has its verdict, and no other
pub every_verdict : EveryVerdict
every_verdict facts d = record {
  verdict = verdict_from facts d (⊎_elim inl (λ x. inr (x.1.0, x.0, x.1.1.0)) (markup_decided d));
  only_one = one_verdict facts d;
  one_values = (one_reading d).same_values;
}
