-- The walk over a whole document.
use Rattle.std.proofs.Common.{◌≡◌, ℕ, ◌+◌, true, List, [], length, drop, Some, None, Option, Result, sym, refl, ap, ◌∙◌, subst, length-append}
use Rattle.std.proofs.lemmas.List.{drop_at, append-nil}
use Rattle.std.proofs.lemmas.Bool.{and_parts}
use Rattle.rules.specs.Markup.{Content, text, content_ok, Document, Marks, head}
use Rattle.rules.specs.Located.{located, elements_of}
use Rattle.rules.specs.Faults.{Judgement, fault_of}
use Rattle.rules.specs.Grounds.{TreeFault}
use Rattle.rules.specs.declared.grounds.Fault.{Fault}
use Rattle.theory.specs.On.{content_on, ends}
use Rattle.reader.specs.Tree.{tree_first, answer}
use Rattle.theory.proofs.Unique.{content_on_is}
use Rattle.reader.proofs.Firsts.{first, located_spread}
use Rattle.reader.proofs.Rows.{Track, start, ended, unplaced, next}

fault_answer : (o : Option Fault) (e : ℕ) → fault_of (answer o e) ≡ o
fault_answer None e = refl
fault_answer (Some f) e = refl

pub judged : (d : List ℕ) (at depth : ℕ) (r : Result ℕ Fault) → depth ≡ 6 →
    ((c : Content) (rest : List ℕ) → content_ok depth c ≡ true → ends rest ≡ true → drop at d ≡ content_on c rest → r ≡ answer (tree_first None 0 0 (at + length (text c)) (located at c)) (at + length (text c))) →
    (m : Document) → Marks d m → at ≡ length (head m) → Judgement (TreeFault None [] (length d) (elements_of m)) (fault_of r)
judged d at depth r six judges m k h =
    let c = m.content in
    let lies : drop at d ≡ content_on c [] = ap (λ n. drop n d) h ∙ ap (drop (length (head m))) (sym k.1) ∙ drop_at (head m) (text c) (length (head m)) refl ∙ sym (append-nil (text c)) ∙ content_on_is c [] in
    let long : length d ≡ length (head m) + length (text c) = ap length (sym k.1) ∙ length-append (head m) (text c) in
    let q = judges c [] (ap (λ n. content_ok n c) six ∙ (and_parts _ _ k.0).0) refl lies in
    let e : fault_of r ≡ tree_first None 0 0 (length d) (elements_of m) = ap fault_of q ∙ fault_answer _ _ ∙ (λ i. tree_first None 0 0 (sums i) (located (h i) c)) in
    subst (λ o. Judgement (TreeFault None [] (length d) (elements_of m)) o) (sym e)
    (first Track start ended unplaced next (elements_of m) None [] 0 0 (length (head m)) (length d) (start None) (located_spread c (length (head m)) (length d) long))
  where
    sums : at + length (text m.content) ≡ length d
    sums = ap (λ n. n + length (text m.content)) h ∙ sym (ap length (sym k.1) ∙ length-append (head m) (text m.content))
