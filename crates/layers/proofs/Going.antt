-- What a walk has left to judge of the nodes of a document.
use Rattle.std.proofs.Common.{◌≡◌, ℕ, ◌+◌, List, [], ◌∷◌, length, Some, None, Option, sym, refl, ◌∙◌, subst, arith}
use Rattle.rules.specs.Faults.{Judgement, FirstOf}
use Rattle.rules.specs.Grounds.{Standing, standing}
use Rattle.rules.specs.Located.{Elements, none, element, elements_of}
use Rattle.rules.specs.Markup.{Document, head, text}
use Rattle.rules.specs.Values.{placed}
use Rattle.rules.specs.declared.grounds.Fault.{Fault}
use Rattle.rules.specs.declared.schema.Node.{Node}
use Rattle.theory.proofs.Lists.{Each}
use Rattle.theory.proofs.Compose.{some_nil, Apart}
use Rattle.theory.specs.Grounds.{Some_of}
use Rattle.theory.proofs.NodesApart.{InNode, located_apart}
use Rattle.walk.specs.Events.{start, Occurrence, opened, closed, met_at, met_under, met, told, Found, standings}
use Rattle.walk.specs.Coming.{Comes, Gives}
use Rattle.walk.specs.declared.event.Event.{Event}
use Rattle.walk.specs.declared.cursor.Walk.{Walk}
use Rattle.walk.proofs.Stands.{opens_each}
use Rattle.layers.specs.Meeting.{opened_node, Met, Starts}
use Rattle.layers.proofs.Composed.{rest_judged, first_judged}

-- the judgement of what a walk is still to meet is the judgement of the whole
pub record Left (n : ℕ) (P : Standing → Fault → Type 0) (d : List ℕ) (whole : List Standing) (w : Walk) : Type 0 where
  pub coming : List Occurrence
  pub same : w.document.now ≡ d
  pub comes : Comes w coming
  pub starts : Each Starts coming
  pub lo : ℕ
  pub hi : ℕ
  pub apart : Apart n P lo hi (standings coming)
  pub rest : (o : Option Fault) → Judgement (Some_of P (standings coming)) o → Judgement (Some_of P whole) o

-- the attributes of each node begin after its '<'
starts_all : (es : Elements) (p : Option Node) (more : List Occurrence) → Each Starts more → Each Starts (met_under p es more)
starts_all none p more h = h
starts_all (element n i gs inside e rest) p more h = go (placed p n) (λ k. starts_all inside (Some k) (closed k ∷ met_under p rest more) (tt, starts_all rest p more h)) (starts_all rest p more h)
  where
    go : (o : Option Node) → ((k : Node) → Each Starts (met_under (Some k) inside (closed k ∷ met_under p rest more))) → Each Starts (met_under p rest more) →
        Each Starts (met_at o (λ k. opened (start k n i gs inside) ∷ met_under (Some k) inside (closed k ∷ met_under p rest more)) (met_under p rest more))
    go None f g = g
    go (Some k) f g = (omega arith, f k)

-- at the start all nodes are left
pub left_first : (n : ℕ) (P : Standing → Fault → Type 0) → InNode n P → (d : List ℕ) (m : Document) (w : Walk) → w.document.now ≡ d → Comes w (met m) → Left n P d (standing (elements_of m)) w
left_first n P own d m w s c = record {
  coming = met m;
  same = s;
  comes = c;
  starts = starts_all (elements_of m) None [] tt;
  lo = length (head m);
  hi = length (head m) + length (text m.content);
  apart = subst (λ x. Apart n P (length (head m)) (length (head m) + length (text m.content)) x) (sym (opens_each m)) (located_apart n P own m.content None (length (head m)) (length (head m) + length (text m.content)) refl);
  rest = λ o k. subst (λ x. Judgement (Some_of P x) o) (opens_each m) k;
}

module _ (n : ℕ) (P : Standing → Fault → Type 0) (d : List ℕ) (whole : List Standing) (w w' : Walk) where
  -- nothing is found where the walk goes on
  pub left_more : (e : Event) → w'.document.now ≡ w.document.now → ((os : List Occurrence) → Comes w os → Gives os w.document.now (Some e) w') →
      ((o : Occurrence) → e ≡ told o → Found d o → Starts o → Judgement (Met P o) None) → Left n P d whole w → Left n P d whole w'
  left_more e s gives judged h = go h.coming h.starts h.lo h.hi h.apart h.rest (gives h.coming h.comes)
    where
      go : (os : List Occurrence) → Each Starts os → (lo hi : ℕ) → Apart n P lo hi (standings os) → ((o : Option Fault) → Judgement (Some_of P (standings os)) o → Judgement (Some_of P whole) o) →
          Gives os w.document.now (Some e) w' → Left n P d whole w'
      go [] u lo hi a t g = let x = g.0 in let z : ◌≡◌ {A = ℕ} 0 1 = cc in absurd (omega arith)
      go (closed k ∷ os) u lo hi a t (g, f, c) = record { coming = os; same = s ∙ h.same; comes = c; starts = u.1; lo = lo; hi = hi; apart = a; rest = t }
      go (opened x ∷ os) u lo hi a t (g, f, c) =
          let q : e ≡ told (opened x) = cc in
          record { coming = os; same = s ∙ h.same; comes = c; starts = u.1; lo = a.0 + 1; hi = hi; apart = a.3; rest = λ o k. t o (rest_judged P (opened_node x) (standings os) (judged (opened x) q (subst (λ y. Found y (opened x)) h.same f) u.0) o k) }

  -- what is found at the next node is the first fault
  pub left_found : (e : Event) (r : Fault) → ((os : List Occurrence) → Comes w os → Gives os w.document.now (Some e) w') →
      ((o : Occurrence) → e ≡ told o → Found d o → Starts o → FirstOf (Met P o) r) → Left n P d whole w → FirstOf (Some_of P whole) r
  left_found e r gives judged h = go h.coming h.starts h.lo h.hi h.apart h.rest (gives h.coming h.comes)
    where
      go : (os : List Occurrence) → Each Starts os → (lo hi : ℕ) → Apart n P lo hi (standings os) → ((o : Option Fault) → Judgement (Some_of P (standings os)) o → Judgement (Some_of P whole) o) →
          Gives os w.document.now (Some e) w' → FirstOf (Some_of P whole) r
      go [] u lo hi a t g = let x = g.0 in let z : ◌≡◌ {A = ℕ} 0 1 = cc in absurd (omega arith)
      go (closed k ∷ os) u lo hi a t (g, f, c) = let q : e ≡ told (closed k) = cc in absurd (judged (closed k) q tt tt).0
      go (opened x ∷ os) u lo hi a t (g, f, c) =
          let q : e ≡ told (opened x) = cc in
          t (Some r) (first_judged n P lo hi (opened_node x) (standings os) a r (judged (opened x) q (subst (λ y. Found y (opened x)) h.same f) u.0))

  -- at the end nothing is left, so nothing is found
  pub left_none : ((os : List Occurrence) → Comes w os → Gives os w.document.now None w') → Left n P d whole w → (f : Fault) → Some_of P whole f → ⊥
  left_none gives h = go h.coming h.rest (gives h.coming h.comes)
    where
      go : (os : List Occurrence) → ((o : Option Fault) → Judgement (Some_of P (standings os)) o → Judgement (Some_of P whole) o) → Gives os w.document.now None w' → (f : Fault) → Some_of P whole f → ⊥
      go [] t g = t None (some_nil P)
      go (o ∷ os) t (g, f, c) = let z : ◌≡◌ {A = ℕ} 0 1 = cc in absurd (omega arith)
