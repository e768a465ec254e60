-- A fault of one layer is the first of the document, where the layers before it find nothing.
use Rattle.std.proofs.Common.{◌≡◌, ℕ, ◌≤◌, true, List, [], length, IfOk, Some, None, Ok, Err, Result, arith}
use Rattle.rules.specs.Catalogues.{Facts}
use Rattle.rules.specs.Faults.{rank, not_after, FirstOf, Judgement, fault_of}
use Rattle.rules.specs.Grounds.{LettersFault, MarkupFault, not_well_marked, TreeFault, standing, NamesFault, ValuesFault, decimals, Finds, First, letters, markup, tree, names, values, accounts}
use Rattle.rules.specs.Located.{elements_of}
use Rattle.rules.specs.Markup.{Document, Marks, WellMarked}
use Rattle.rules.specs.Values.{values_of}
use Rattle.rules.specs.declared.grounds.Fault.{Fault}
use Rattle.theory.proofs.Compose.{lower_layer, each_decided}
use Rattle.theory.proofs.Decided.{layers_decided}
use Rattle.theory.proofs.FirstLaws.{letters_layer, markup_layer, tree_layer, names_layer, values_layer, accounts_layer}
use Rattle.theory.proofs.Verdicts.{marked_judged, unmarked_judged}
use Rattle.walk.specs.Coming.{InOrder}
use Rattle.layers.specs.Found.{NamesFound, ValuesFound}
use Rattle.layers.specs.Layers.{LayersJudged, EarlyFault}

-- the first fault of a document under a set, of a layer up to values
pub record EarlyFirst (facts : Facts) (d : List ℕ) (f : Fault) : Type 0 where
  pub first : First facts d f
  pub early : (rank f).layer ≤ 5

pub letters_first : (facts : Facts) (d : List ℕ) (f : Fault) → FirstOf (LettersFault d) f → EarlyFirst facts d f
letters_first facts d f h = record { first = (letters f h.0, least); early = omega (arith, letters_layer h.0) }
  where
    least : (g : Fault) → Finds facts d g → not_after (rank f) (rank g) ≡ true
    least g (letters f' p) = h.1 g p
    least g (markup f' p) = lower_layer (rank f) (rank g) (omega (arith, letters_layer h.0, markup_layer p))
    least g (tree m f' k p) = lower_layer (rank f) (rank g) (omega (arith, letters_layer h.0, tree_layer p))
    least g (names m s f' k a p) = lower_layer (rank f) (rank g) (omega (arith, letters_layer h.0, names_layer p))
    least g (values m s f' k a p) = lower_layer (rank f) (rank g) (omega (arith, letters_layer h.0, values_layer p))
    least g (accounts m f' k p) = lower_layer (rank f) (rank g) (omega (arith, letters_layer h.0, accounts_layer p))

module _ (facts : Facts) (d : List ℕ) (lettered : (f : Fault) → LettersFault d f → ⊥) where
  pub markup_first : (f : Fault) → MarkupFault d f → EarlyFirst facts d f
  markup_first f (not_well_marked n x u) = record { first = unmarked_judged facts d n x u None lettered; early = omega arith }

  module _ (m : Document) (k : Marks d m) where
    pub tree_first : (f : Fault) → FirstOf (TreeFault None [] (length d) (elements_of m)) f → EarlyFirst facts d f
    tree_first f h =
        let (c, nc) = each_decided NamesFault (standing (elements_of m)) layers_decided.names_decided in
        let (e, ve) = each_decided (ValuesFault facts) (standing (elements_of m)) (layers_decided.values_decided facts) in
        let (g, ag) = layers_decided.accounts_decided (decimals facts (values_of (elements_of m))) (elements_of m) in
        record { first = marked_judged facts d m k None (Some f) c e g lettered h nc ve ag; early = omega (arith, tree_layer h.0) }

    pub names_first : (f : Fault) → InOrder d m → FirstOf (NamesFound m) f → EarlyFirst facts d f
    names_first f t h =
        let (e, ve) = each_decided (ValuesFault facts) (standing (elements_of m)) (layers_decided.values_decided facts) in
        let (g, ag) = layers_decided.accounts_decided (decimals facts (values_of (elements_of m))) (elements_of m) in
        record { first = marked_judged facts d m k None None (Some f) e g lettered t h ve ag; early = omega (arith, names_layer h.0.2) }

    pub values_first : (f : Fault) → InOrder d m → ((x : Fault) → NamesFound m x → ⊥) → FirstOf (ValuesFound facts m) f → EarlyFirst facts d f
    values_first f t n h =
        let (g, ag) = layers_decided.accounts_decided (decimals facts (values_of (elements_of m))) (elements_of m) in
        record { first = marked_judged facts d m k None None None (Some f) g lettered t n h ag; early = omega (arith, values_layer h.0.2) }

-- the layers before values find nothing, and values have been judged
pub passed : (facts : Facts) (d : List ℕ) → ((f : Fault) → LettersFault d f → ⊥) → WellMarked d → ((m : Document) → Marks d m → InOrder d m) → ((m : Document) → Marks d m → InOrder d m → (f : Fault) → NamesFound m f → ⊥) → (r : Result ℕ Fault) →
    ((m : Document) → Marks d m → InOrder d m → Judgement (ValuesFound facts m) (fault_of r)) → ((m : Document) → Marks d m → InOrder d m → ((f : Fault) → NamesFound m f → ⊥) → IfOk r (λ n. n ≡ decimals facts (values_of (elements_of m)))) → LayersJudged facts d r × EarlyFault r
passed facts d l w t n (Ok x) j g = ((w, λ m k. record { letters = l; tree = t m k; names = n m k (t m k); values = j m k (t m k); has_decimals = g m k (t m k) (n m k (t m k)) }), tt)
passed facts d l (m, k) t n (Err f) j g = let e = values_first facts d l m k f (t m k) (n m k (t m k)) (j m k (t m k)) in (e.first, e.early)
