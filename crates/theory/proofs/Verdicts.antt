-- The verdict on a document, from the judgements of its layers.
use Rattle.std.proofs.Common.{◌≡◌, ℕ, suc, ◌≤◌, ◌⊎◌, List, [], length, Some, None, Option, sym, refl, ap, subst, inl, inr, arith}
use Rattle.rules.specs.Bytes.{Among}
use Rattle.rules.specs.Markup.{Document, Marks, WellMarked, LongestViable}
use Rattle.rules.specs.Located.{elements_of}
use Rattle.rules.specs.Values.{values_of}
use Rattle.rules.specs.Catalogues.{Facts}
use Rattle.rules.specs.Faults.{rank, Judgement}
use Rattle.rules.specs.Grounds.{LettersFault, MarkupFault, not_well_marked, TreeFault, standing, NamesFault, ValuesFault, AccountFault, decimals, Finds, letters, markup, tree, names, values, accounts, Verdict}
use Rattle.rules.specs.declared.grounds.Fault.{Fault}
use Rattle.rules.specs.declared.grounds.Fault.TheVariants.{NotWellMarked}
use Rattle.theory.specs.Grounds.{Decided, Some_of}
use Rattle.theory.proofs.Unique.{same_tree}
use Rattle.theory.proofs.Compose.{Before, before_itself, lower_layer, judged_as, or_else, Either, then_judged, each_decided}
use Rattle.theory.proofs.FirstLaws.{letters_layer, markup_layer, tree_layer, names_layer, values_layer, accounts_layer}
use Rattle.theory.proofs.Decided.{layers_decided}

-- one layer and then those after it
layer_then : (P Q : Fault → Type 0) (n : ℕ) → ((f : Fault) → P f → (rank f).layer ≡ n) → ((f : Fault) → Q f → suc n ≤ (rank f).layer) → (a b : Option Fault) → Judgement P a → Judgement Q b → Judgement (Either P Q) (or_else a b)
layer_then P Q n at from a b h k = then_judged P Q (λ f g p q. lower_layer (rank f) (rank g) (omega (arith, at f p, from g q))) a b h k

-- a layer and those after it lie from the first of them on
from_layer : (P Q : Fault → Type 0) (n : ℕ) → ((f : Fault) → P f → (rank f).layer ≡ n) → ((f : Fault) → Q f → suc n ≤ (rank f).layer) → (f : Fault) → Either P Q f → n ≤ (rank f).layer
from_layer P Q n at from f (inl p) = omega (arith, at f p)
from_layer P Q n at from f (inr q) = omega (arith, from f q)

module _ (facts : Facts) (d : List ℕ) (m : Document) (marks : Marks d m) where
  -- what the layers find in a document whose tree is m
  abbrev pub TreeFound : Fault → Type 0
  TreeFound = TreeFault None [] (length d) (elements_of m)

  -- a fault of names at some node
  abbrev pub NamesFound : Fault → Type 0
  NamesFound = Some_of NamesFault (standing (elements_of m))

  -- a fault of values at some node
  abbrev pub ValuesFound : Fault → Type 0
  ValuesFound = Some_of (ValuesFault facts) (standing (elements_of m))

  -- a fault of accounts
  abbrev pub AccountsFound : Fault → Type 0
  AccountsFound = AccountFault (decimals facts (values_of (elements_of m))) (elements_of m)

  -- the layers from values on
  abbrev FromValues : Fault → Type 0
  FromValues = Either ValuesFound AccountsFound

  -- the layers from names on
  abbrev FromNames : Fault → Type 0
  FromNames = Either NamesFound FromValues

  -- the layers from the tree on
  abbrev FromTree : Fault → Type 0
  FromTree = Either TreeFound FromNames

  names_at : (f : Fault) → NamesFound f → (rank f).layer ≡ 4
  names_at f (s, a, p) = names_layer p

  values_at : (f : Fault) → ValuesFound f → (rank f).layer ≡ 5
  values_at f (s, a, p) = values_layer p

  from_accounts : (f : Fault) → AccountsFound f → 6 ≤ (rank f).layer
  from_accounts f p = omega (arith, accounts_layer p)

  from_values : (f : Fault) → FromValues f → 5 ≤ (rank f).layer
  from_values = from_layer ValuesFound AccountsFound 5 values_at from_accounts

  from_names : (f : Fault) → FromNames f → 4 ≤ (rank f).layer
  from_names = from_layer NamesFound FromValues 4 names_at from_values

  from_tree : (f : Fault) → FromTree f → 3 ≤ (rank f).layer
  from_tree = from_layer TreeFound FromNames 3 (λ f p. tree_layer p) from_names

  -- what the layers find is found
  found_in : (f : Fault) → Either (LettersFault d) FromTree f → Finds facts d f
  found_in f (inl p) = letters f p
  found_in f (inr (inl p)) = tree m f marks p
  found_in f (inr (inr (inl (s, a, p)))) = names m s f marks a p
  found_in f (inr (inr (inr (inl (s, a, p))))) = values m s f marks a p
  found_in f (inr (inr (inr (inr p)))) = accounts m f marks p

  -- what is found is found by a layer
  found_by : (f : Fault) → Finds facts d f → Either (LettersFault d) FromTree f
  found_by f (letters g p) = inl p
  found_by f (markup g (not_well_marked n x u)) = absurd (x (m, marks))
  found_by f (tree n g k p) = inr (inl (subst (λ (y : Document). TreeFault None [] (length d) (elements_of y) f) (same_tree d n m k marks) p))
  found_by f (names n s g k a p) = inr (inr (inl (s, subst (λ (y : Document). Among s (standing (elements_of y))) (same_tree d n m k marks) a, p)))
  found_by f (values n s g k a p) = inr (inr (inr (inl (s, subst (λ (y : Document). Among s (standing (elements_of y))) (same_tree d n m k marks) a, p))))
  found_by f (accounts n g k p) = inr (inr (inr (inr (subst (λ (y : Document). AccountFault (decimals facts (values_of (elements_of y))) (elements_of y) f) (same_tree d n m k marks) p))))

  -- the first fault of a well-marked document is that of the first layer that finds one
  pub marked_judged : (a b c e g : Option Fault) → Judgement (LettersFault d) a → Judgement TreeFound b → Judgement NamesFound c → Judgement ValuesFound e → Judgement AccountsFound g → Judgement (Finds facts d) (or_else a (or_else b (or_else c (or_else e g))))
  marked_judged a b c e g la tb nc ve ag =
      judged_as (Either (LettersFault d) FromTree) (Finds facts d) found_in found_by _
      (layer_then (LettersFault d) FromTree 1 (λ f p. letters_layer p) (λ f q. omega (arith, from_tree f q)) a _ la
      (layer_then TreeFound FromNames 3 (λ f p. tree_layer p) from_names b _ tb
      (layer_then NamesFound FromValues 4 names_at from_values c _ nc
      (layer_then ValuesFound AccountsFound 5 values_at from_accounts e g ve ag))))

-- the first fault of a document that is not well-marked is that of its letters, or where its viable beginning ends
module _ (facts : Facts) (d : List ℕ) (n : ℕ) (not-marked : WellMarked d → ⊥) (longest : LongestViable d n) where
  only_place : (f : Fault) → MarkupFault d f → f ≡ NotWellMarked n
  only_place f (not_well_marked k x u) =
      let a = u.longest n longest.within longest.viable in
      let b = longest.longest k u.within u.viable in
      let e : k ≡ n = omega arith in
      ap NotWellMarked e

  unmarked_found : (f : Fault) → Finds facts d f → Either (LettersFault d) (MarkupFault d) f
  unmarked_found f (letters g p) = inl p
  unmarked_found f (markup g p) = inr p
  unmarked_found f (tree m g k p) = absurd (not-marked (m, k))
  unmarked_found f (names m s g k a p) = absurd (not-marked (m, k))
  unmarked_found f (values m s g k a p) = absurd (not-marked (m, k))
  unmarked_found f (accounts m g k p) = absurd (not-marked (m, k))

  pub unmarked_judged : (a : Option Fault) → Judgement (LettersFault d) a → Judgement (Finds facts d) (or_else a (Some (NotWellMarked n)))
  unmarked_judged a la =
      judged_as (Either (LettersFault d) (MarkupFault d)) (Finds facts d) (λ f e. elim e [ inl p ↦ letters f p | inr p ↦ markup f p ]) unmarked_found _
      (layer_then (LettersFault d) (MarkupFault d) 1 (λ f p. letters_layer p) (λ f q. omega (arith, markup_layer q)) a (Some (NotWellMarked n)) la
      (not_well_marked n not-marked longest, λ g q. subst (Before (NotWellMarked n)) (sym (only_place g q)) (before_itself (NotWellMarked n))))

-- a judgement of a well-marked document is its verdict
pub marked_verdict : (facts : Facts) (d : List ℕ) (m : Document) → Marks d m → Decided (Finds facts d) → Verdict facts d
marked_verdict facts d m k (None, h) = inl (h, (values_of (elements_of m), (m, k, refl)))
marked_verdict facts d m k (Some f, h) = inr (f, h)

-- every document has its verdict, if it is well-marked or has a longest viable beginning
pub verdict_from : (facts : Facts) (d : List ℕ) → WellMarked d ⊎ ((n : ℕ) × (WellMarked d → ⊥) × LongestViable d n) → Verdict facts d
verdict_from facts d (inl (m, k)) =
    let (a, la) = layers_decided.letters_decided d in
    let (b, tb) = layers_decided.tree_decided None [] (length d) (elements_of m) in
    let (c, nc) = each_decided NamesFault (standing (elements_of m)) layers_decided.names_decided in
    let (e, ve) = each_decided (ValuesFault facts) (standing (elements_of m)) (layers_decided.values_decided facts) in
    let (g, ag) = layers_decided.accounts_decided (decimals facts (values_of (elements_of m))) (elements_of m) in
    marked_verdict facts d m k (_, marked_judged facts d m k a b c e g la tb nc ve ag)
verdict_from facts d (inr (n, x, u)) = let (a, la) = layers_decided.letters_decided d in go a (unmarked_judged facts d n x u a la)
  where
    go : (a : Option Fault) → Judgement (Finds facts d) (or_else a (Some (NotWellMarked n))) → Verdict facts d
    go None h = inr (NotWellMarked n, h)
    go (Some f) h = inr (f, h)
