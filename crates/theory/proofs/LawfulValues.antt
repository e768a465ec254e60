-- Lawfulness told by the values alone: a lawful document has lawful values, and these make a lawful fair copy; and the same of all layers but the accounts.
use Rattle.std.proofs.Common.{◌≡◌, ℕ, ◌≤◌, true, List, [], length, None, sym, refl, ap, ◌∙◌, subst, ⊎_elim, arith}
use Rattle.std.proofs.lemmas.List.{take_all}
use Rattle.std.proofs.lemmas.Bool.{both_ways, cases_Bool, cases_lt}
use Rattle.rules.specs.Letters.{Spelled}
use Rattle.rules.specs.Markup.{Document, Marks}
use Rattle.rules.specs.Located.{Elements, elements_of}
use Rattle.rules.specs.Schema.{attributes}
use Rattle.rules.specs.Values.{Values, slots, values_of}
use Rattle.rules.specs.Texts.{fair_copy}
use Rattle.rules.specs.Accounts.{rule_e}
use Rattle.rules.specs.Catalogues.{Facts}
use Rattle.rules.specs.Grounds.{standing, Finds, LettersFault, too_long, bad_letter, not_well_marked, letters, markup, tree, names, values, accounts, AccountFault, at_root, at_transfer, decimals, root_rule, Lawful}
use Rattle.rules.specs.declared.grounds.Rule.{Rule}
use Rattle.rules.specs.declared.grounds.Fault.{Fault}
use Rattle.theory.proofs.Lists.{Each, each_from, each_among}
use Rattle.theory.proofs.ReadBack.{Whole, copy, copy_ok, copy_reads}
use Rattle.theory.proofs.Unique.{one_tree}
use Rattle.theory.proofs.LawfulTree.{Grows, Clear, clear_good, clear_whole, clear_shorter, lawful_clear}
use Rattle.theory.proofs.CopyTree.{GoodTree, no_tree_fault, copy_tree, OfSlots, KeepsE, RulesKept, Admitted, admitted_from, copy_standing}
use Rattle.theory.proofs.Spells.{all_spelled}
use Rattle.theory.proofs.SpelledCopy.{ValuesSpelled, fair_spelled, document_spelled}

-- what makes values good under a set in all layers but the accounts, where Q is what else is asked of each node
pub record GoodValues (facts : Facts) (Q : OfSlots) (v : Values) : Type 0 where
  pub whole : Whole v
  pub grows : Grows None [] v
  pub admitted : Admitted facts Q v
  pub spelled : ValuesSpelled v
  pub short : length (fair_copy v) ≤ 65536

-- what makes values lawful under a set
pub record LawfulValues (facts : Facts) (v : Values) : Type 0 where
  pub good : GoodValues facts KeepsE v
  pub rules : (r : Rule) → root_rule r (decimals facts v) v ≡ true

-- a document in which the layers before the accounts find nothing has good values
pub good_values : (facts : Facts) (Q : OfSlots) (d : List ℕ) (m : Document) → ((f : Fault) → LettersFault d f → ⊥) → Clear facts d m → Marks d m → Each (RulesKept facts Q) (standing (elements_of m)) → GoodValues facts Q (values_of (elements_of m))
good_values facts Q d m l c h e =
    let s : Spelled d = all_spelled d (λ n x u. l _ (bad_letter n x u)) in
    record {
      whole = clear_whole facts d m c;
      grows = (clear_good facts d m c).grows;
      admitted = admitted_from facts Q (elements_of m) None e;
      spelled = document_spelled m h.0 (subst Spelled (sym h.1) s);
      short = ⊎_elim (λ x. absurd (l _ (too_long x))) (λ x. let n = clear_shorter facts d m c h in omega arith) (cases_lt 65536 (length d));
    }

-- the nodes of a lawful document keep the rules
rules_kept : (facts : Facts) (d : List ℕ) (m : Document) → Lawful facts d → Marks d m → Each (RulesKept facts KeepsE) (standing (elements_of m))
rules_kept facts d m l h =
    each_from (RulesKept facts KeepsE) (standing (elements_of m)) (λ s i. (
      (lawful_clear facts d m l h).clean_nodes s i,
      λ t. ⊎_elim (λ e. e) (λ e. absurd (l _ (accounts m _ h (at_transfer s i t e)))) (cases_Bool (rule_e s.kind (slots (attributes s.kind) s.givens))),
    ))

-- a lawful document has lawful values
pub lawful_values : (facts : Facts) (d : List ℕ) (m : Document) → Lawful facts d → Marks d m → LawfulValues facts (values_of (elements_of m))
lawful_values facts d m l h =
    let v : Values = values_of (elements_of m) in
    record {
      good = good_values facts KeepsE d m (λ f x. l f (letters f x)) (lawful_clear facts d m l h) h (rules_kept facts d m l h);
      rules = λ r. ⊎_elim (λ e. e) (λ e. absurd (l _ (accounts m _ h (at_root r e)))) (cases_Bool (root_rule r (decimals facts v) v));
    }

-- a fault of the accounts of a document that is well-marked and whose nodes keep the rules
abbrev pub AccountsOf : Facts → OfSlots → List ℕ → Fault → Type 0
AccountsOf facts Q d f = (m : Document) × Marks d m × Each (RulesKept facts Q) (standing (elements_of m)) × AccountFault (decimals facts (values_of (elements_of m))) (elements_of m) f

-- in the fair copy of good values nothing is found but in the accounts
pub accounts_alone : (facts : Facts) (Q : OfSlots) (v : Values) → GoodValues facts Q v → (f : Fault) → Finds facts (fair_copy v) f → AccountsOf facts Q (fair_copy v) f
accounts_alone facts Q v l f x = go f x
  where
    only : (n : Document) → Marks (fair_copy v) n → n ≡ copy v
    only n k = one_tree n (copy v) k.0 (copy_ok v l.whole) k.1

    nodes : (n : Document) → Marks (fair_copy v) n → Each (RulesKept facts Q) (standing (elements_of n))
    nodes n k = subst (λ y. Each (RulesKept facts Q) (standing (elements_of y))) (sym (only n k)) (copy_standing facts Q v None 0 l.whole.conforms l.admitted)

    go : (f : Fault) → Finds facts (fair_copy v) f → AccountsOf facts Q (fair_copy v) f
    go f (letters q (too_long x)) = let s = l.short in absurd (omega arith)
    go f (letters q (bad_letter n x u)) = let s = u.longest (length (fair_copy v)) (omega arith) (subst Spelled (sym (take_all (length (fair_copy v)) (fair_copy v) (omega arith))) (fair_spelled v l.spelled)) in absurd (omega arith)
    go f (markup q (not_well_marked n x u)) = absurd (x (copy v, (copy_ok v l.whole, refl)))
    go f (tree n q k t) = absurd (no_tree_fault t (subst (λ y. GoodTree None [] (elements_of y)) (sym (only n k)) (copy_tree v None [] 0 l.whole.conforms l.grows.0 l.grows.1)))
    go f (names n s q k a t) = absurd ((each_among (RulesKept facts Q) (standing (elements_of n)) s (nodes n k) a).0.0 q t)
    go f (values n s q k a t) = absurd ((each_among (RulesKept facts Q) (standing (elements_of n)) s (nodes n k) a).0.1 q t)
    go f (accounts n q k t) = (n, k, nodes n k, t)

no_account : (facts : Facts) (v : Values) → LawfulValues facts v → (es : Elements) → values_of es ≡ v → Each (RulesKept facts KeepsE) (standing es) → (f : Fault) → AccountFault (decimals facts (values_of es)) es f → ⊥
no_account facts v l es e r f (at_root q n) = both_ways _ (ap (λ w. root_rule q (decimals facts w) w) (sym e) ∙ n) (l.rules q)
no_account facts v l es e r f (at_transfer s a t n) = both_ways _ n ((each_among (RulesKept facts KeepsE) (standing es) s r a).1 t)

-- the fair copy of lawful values is lawful
pub lawful_from : (facts : Facts) (v : Values) → LawfulValues facts v → Lawful facts (fair_copy v)
lawful_from facts v l f x =
    let (n, k, r, t) = accounts_alone facts KeepsE v l.good f x in
    let e : values_of (elements_of n) ≡ v = ap (λ y. values_of (elements_of y)) (one_tree n (copy v) k.0 (copy_ok v l.good.whole) k.1) ∙ copy_reads v l.good.whole in
    no_account facts v l (elements_of n) e r f t
