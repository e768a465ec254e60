-- Where the elements of a document begin, and what is met from there on.
use Rattle.std.proofs.Common.{◌≡◌, ℕ, List, [], length, drop, Some, None, Option, sym, refl, ap, ◌∙◌, subst, append-nil}
use Rattle.std.proofs.lemmas.List.{drop_at}
use Rattle.std.proofs.lemmas.Bool.{and_parts}
use Rattle.rules.specs.Markup.{Content, text, Document, head, Marks}
use Rattle.rules.specs.Located.{Elements, none, element, elements_of}
use Rattle.rules.specs.declared.schema.Node.{Node}
use Rattle.theory.specs.On.{content_on}
use Rattle.theory.proofs.Unique.{content_on_is}
use Rattle.theory.proofs.LawfulTree.{Placed as HasNodes, tree_good}
use Rattle.walk.specs.Events.{met}
use Rattle.walk.specs.Coming.{Placed, nothing, Coming, InOrder}

shown : (c : Content) → text c ≡ content_on c []
shown c = sym (append-nil (text c)) ∙ content_on_is c []

module _ (d : List ℕ) (m : Document) (h : Marks d m) where
  has_nodes : (es : Elements) (p : Option Node) → HasNodes p es → Placed p es
  has_nodes none p n = tt
  has_nodes (element n i gs inside e rest) p (k, q, a, b) = (k, q, has_nodes inside (Some k) a, has_nodes rest p b)

  pub comes_first : InOrder d m → (at : ℕ) → at ≡ length (head m) → Coming d at None (met m)
  comes_first good at e = subst (λ x. Coming d x None (met m)) (sym e) (record {
    depth = 6;
    content = m.content;
    rest = [];
    more = [];
    good = (and_parts _ _ h.0).0;
    shown = ap (drop (length (head m))) (sym h.1) ∙ drop_at (head m) (text m.content) (length (head m)) refl ∙ shown m.content;
    nodes = has_nodes (elements_of m) None (tree_good (elements_of m) None [] (length d) good).0;
    are = refl;
    follows = nothing refl refl refl;
  })
