-- Texts that lead the reader from one place to another.
use Rattle.std.proofs.Common.{◌≡◌, ℕ, Bool, true, List, [], ◌∷◌, ◌++◌, Some, None, refl, ap, ◌∙◌}
use Rattle.std.proofs.lemmas.Bool.{eq-eqb, and_parts, cond-true}
use Rattle.rules.specs.Bytes.{all}
use Rattle.markup.specs.Machine.{Stack, Place, ending, step, run, bind}

-- from p the text w leads to q
pub record Leads (p : Place) (w : List ℕ) (q : Place) : Type 0 where
  pub runs : run p w ≡ Some q

pub run-++ : (p : Place) (u v : List ℕ) → run p (u ++ v) ≡ bind (run p u) (λ c. run c v)
run-++ p [] v = refl
run-++ p (b ∷ u) v =
    elim (step p b) as (λ o. bind o (λ c. run c (u ++ v)) ≡ bind (bind o (λ c. run c u)) (λ c. run c v)) [ None ↦ refl | Some c ↦ run-++ c u v ]

pub leads : {p q r : Place} {u v : List ℕ} → Leads p u q → Leads q v r → Leads p (u ++ v) r
leads {p} {q} {r} {u} {v} h k = record { runs = run-++ p u v ∙ ap (λ o. bind o (λ c. run c v)) h.runs ∙ k.runs }

pub here : {p : Place} → Leads p [] p
here = record { runs = refl }

pub on : {p r : Place} {w : List ℕ} {b : ℕ} (q : Place) → step p b ≡ Some q → Leads q w r → Leads p (b ∷ w) r
on {w = w} q e k = record { runs = ap (λ o. bind o (λ c. run c w)) e ∙ k.runs }

-- bytes that pass a test change nothing at p
pub loops : (p : Place) (t : ℕ → Bool) → ((b : ℕ) → t b ≡ true → step p b ≡ Some p) → (w : List ℕ) → all t w ≡ true → Leads p w p
loops p t f [] h = here
loops p t f (b ∷ w) h = let (x, y) = and_parts _ _ h in on p (f b x) (loops p t f w y)

-- the name of an end tag, read
pub ends_name : (n : List ℕ) (s : Stack) → Leads (ending n s) n (ending [] s)
ends_name [] s = here
ends_name (b ∷ n) s = on (ending n s) (cond-true _ _ _ (eq-eqb b b refl)) (ends_name n s)
