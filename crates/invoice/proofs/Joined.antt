-- All layers, from those up to values and the accounts.
use Rattle.std.proofs.Common.{ℕ, List, IfOk, None, Ok, Err, Result, refl, subst}
use Rattle.rules.specs.Markup.{Document, Marks}
use Rattle.rules.specs.Located.{elements_of}
use Rattle.rules.specs.Values.{values_of}
use Rattle.rules.specs.Catalogues.{Facts}
use Rattle.rules.specs.Faults.{Judgement, fault_of}
use Rattle.rules.specs.Grounds.{Finds, AccountFault}
use Rattle.rules.specs.declared.grounds.Fault.{Fault}
use Rattle.theory.proofs.Verdicts.{marked_judged}
use Rattle.layers.specs.Layers.{Passed, LayersJudged}
use Rattle.accounts.specs.Judged.{Passed as Prepared, Tells}
use Rattle.accounts.specs.declared.summaries.Summary.{Summary}
use Rattle.invoice.specs.Checks.{Passes}

-- what the layers up to values found is what the accounts rely on
prepared : (facts : Facts) (d : List ℕ) (m : Document) (n : ℕ) → Marks d m → Passed facts d m n → Prepared facts d m
prepared facts d m n k p = record { marks = k; order = p.tree; names = λ s a f x. p.names f (s, a, x); values = λ s a f x. p.values f (s, a, x) }

module _ (facts : Facts) (d : List ℕ) (n : ℕ) (l : LayersJudged facts d (Ok n)) (r : Result Summary Fault)
    (judges : (facts : Facts) (m : Document) → Prepared facts d m → Judgement (AccountFault n (elements_of m)) (fault_of r))
    (tells : (facts : Facts) (m : Document) → Prepared facts d m → IfOk r (Tells d (values_of (elements_of m)))) where
  abbrev m : Document
  m = l.0.0

  abbrev k : Marks d m
  k = l.0.1

  p : Passed facts d m n
  p = l.1 m k

  pub judged : Judgement (Finds facts d) (fault_of r)
  judged =
      marked_judged facts d m k None None None None (fault_of r) p.letters p.tree p.names p.values
      (subst (λ (x : ℕ). Judgement (AccountFault x (elements_of m)) (fault_of r)) p.has_decimals (judges facts m (prepared facts d m n k p)))

  pub passes : IfOk r (Passes facts d)
  passes = go r judged (tells facts m (prepared facts d m n k p))
    where
      go : (q : Result Summary Fault) → Judgement (Finds facts d) (fault_of q) → IfOk q (Tells d (values_of (elements_of m))) → IfOk q (Passes facts d)
      go (Ok s) j t = record { lawful = j; values = values_of (elements_of m); has_values = (m, k, refl); tells = t }
      go (Err f) j t = tt
