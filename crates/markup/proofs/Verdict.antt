-- What the reader's end says of the whole text.
use Rattle.std.proofs.Common.{◌≡◌, ℕ, ◌+◌, ◌<◌, ◌≤◌, true, List, [], ◌∷◌, ◌++◌, length, get_or, take, drop, Some, None, sym, refl, ap, ◌∙◌, subst, ⊎_elim, append_assoc, arith, take-append-drop}
use Rattle.std.proofs.lemmas.List.{take_more, take_all, take-take}
use Rattle.std.proofs.lemmas.Bool.{cases_lt, both_ways, false≢true}
use Rattle.std.proofs.lemmas.Bool.Decides.{nat_tests}
use Rattle.rules.specs.Markup.{WellMarked, Viable, LongestViable}
use Rattle.rules.specs.Faults.{Rank, rank, not_after, FirstOf}
use Rattle.rules.specs.Grounds.{MarkupFault, not_well_marked}
use Rattle.rules.specs.declared.grounds.Fault.{Fault}
use Rattle.rules.specs.declared.grounds.Fault.TheVariants.{NotWellMarked}
use Rattle.markup.specs.Machine.{Place, fresh, angled, declaring, before, start, name, tag, inside, angle, ending, after, step, run, bind, finished}
use Rattle.markup.specs.Reads.{Like, Stops, Refused}
use Rattle.markup.proofs.Leads.{leads, run-++}
use Rattle.markup.proofs.Accepts.{accepts}
use Rattle.markup.proofs.Completes.{completes}
use Rattle.markup.proofs.Rebuilds.{rebuilds}

-- the reader goes through every well-marked text
pub reads : (d : List ℕ) → WellMarked d → run fresh d ≡ Some after
reads d m = subst (λ l. run fresh l ≡ Some after) m.1.1 (accepts m.0 m.1.0).runs

-- what the reader passes begins some well-marked text
pub passed : (u : List ℕ) (p : Place) → run fresh u ≡ Some p → Viable u
passed u p e = let (w, k) = completes p in (w, rebuilds (u ++ w) (leads {p = fresh} {q = p} {u = u} (record { runs = e }) k).runs)

-- what the reader cannot pass begins no well-marked text
pub lost : (u : List ℕ) → run fresh u ≡ None → Viable u → ⊥
lost u e v = let none : None ≡ Some after = sym (run-++ fresh u v.0 ∙ ap (λ o. bind o (λ c. run c v.0)) e) ∙ reads _ v.1 in cc

-- a beginning of a viable text is viable
pub shorter : (p q : List ℕ) → Viable (p ++ q) → Viable p
shorter p q v = (q ++ v.0, subst WellMarked (append_assoc p q v.0) v.1)

shorter_take : (d : List ℕ) (m n : ℕ) → m ≤ n → Viable (take n d) → Viable (take m d)
shorter_take d m n le v =
    subst Viable (take-take m n d le) (shorter (take m (take n d)) (drop m (take n d)) (subst Viable (sym (take-append-drop m (take n d))) v))

-- a text has at most one place at which it is refused
pub one_place : {d : List ℕ} {n : ℕ} → LongestViable d n → (k : ℕ) → LongestViable d k → k ≡ n
one_place {n = n} h k g = omega (arith, h.longest k g.within g.viable, g.longest n h.within h.viable)

module _ {d : List ℕ} {n : ℕ} (k : Stops d n) where
  -- one byte more begins no well-marked text
  no_more : (n < length d) × (step k.place (get_or d n 0) ≡ None) → Viable (take (n + 1) d) → ⊥
  no_more h =
      lost (take (n + 1) d) (ap (run fresh) (take_more d n 0 h.0) ∙ run-++ fresh (take n d) _ ∙ ap (λ o. bind o (λ c. run c (get_or d n 0 ∷ []))) k.at.runs ∙ ap (λ o. bind o (λ c. run c [])) h.1)

  -- where the reader stops, the text is not well marked
  pub unmarked : WellMarked d → ⊥
  unmarked m =
      ⊎_elim
      (λ h. no_more h (drop (n + 1) d, subst WellMarked (sym (take-append-drop (n + 1) d)) m))
      (λ h.
      let last : Some k.place ≡ Some after = sym k.at.runs ∙ ap (run fresh) (take_all n d (omega (arith, h.0))) ∙ reads d m in
      let same : k.place ≡ after = cc in both_ways (finished k.place) h.1 (ap finished same))
      k.stuck

  -- and there its longest viable beginning ends
  pub longest : LongestViable d n
  longest = record {
    within = k.at.within;
    viable = passed (take n d) k.place k.at.runs;
    longest = λ j within v.
        ⊎_elim
        (λ h. ⊎_elim (λ lt. absurd (no_more h (shorter_take d (n + 1) j (omega arith) v))) (λ le. le) (cases_lt n j))
        (λ h. omega (arith, h.0))
        k.stuck;
  }

-- a document may end only after the root
finished_after : (p : Place) → finished p ≡ true → p ≡ after
finished_after fresh e = absurd (false≢true e)
finished_after angled e = absurd (false≢true e)
finished_after (declaring c m) e = absurd (false≢true e)
finished_after before e = absurd (false≢true e)
finished_after (start s) e = absurd (false≢true e)
finished_after (name x s) e = absurd (false≢true e)
finished_after (tag t x s) e = absurd (false≢true e)
finished_after (inside n s) e = absurd (false≢true e)
finished_after (angle n s) e = absurd (false≢true e)
finished_after (ending m s) e = absurd (false≢true e)
finished_after after e = refl

-- a text that the reader goes through, and may end at, is well marked
pub marks : (d : List ℕ) (p : Place) → run fresh d ≡ Some p → finished p ≡ true → WellMarked d
marks d p e h = rebuilds d (e ∙ ap Some (finished_after p h))

-- the reader stands after the root where the text ends
pub at_last : (d : List ℕ) (i : ℕ) → Like d i after → i ≡ length d → WellMarked d
at_last d i k e = marks d k.place (ap (run fresh) (sym (take_all i d (omega arith))) ∙ k.at.runs) k.ends

itself : (a : Rank) → not_after a a ≡ true
itself a = grind (arith, nat_tests)

-- the fault of a text that is not well marked is its first and only one
pub first : (d : List ℕ) (f : Fault) → Refused d f → FirstOf (MarkupFault d) f
first d f r =
    subst (FirstOf (MarkupFault d)) (sym r.is) (
      not_well_marked r.place (unmarked r.stops) (longest r.stops),
      λ g x. only g x,
    )
  where
    only : (g : Fault) → MarkupFault d g → not_after (rank (NotWellMarked r.place)) (rank g) ≡ true
    only _ (not_well_marked n x v) = subst (λ k. not_after (rank (NotWellMarked r.place)) (rank (NotWellMarked k)) ≡ true) (sym (one_place (longest r.stops) n v)) (itself (rank (NotWellMarked r.place)))

-- a well-marked text has no fault of markup
pub faultless : (d : List ℕ) → WellMarked d → (f : Fault) → MarkupFault d f → ⊥
faultless d m _ (not_well_marked n x v) = x m
