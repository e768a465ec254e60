-- The nodes that are opened are those that stand in the document.
use Rattle.std.proofs.Common.{◌≡◌, List, [], ◌∷◌, ◌++◌, Some, None, Option, sym, refl, ap, ◌∙◌, append_assoc, append-nil}
use Rattle.rules.specs.Located.{Elements, none, element, elements_of}
use Rattle.rules.specs.Values.{placed}
use Rattle.rules.specs.Grounds.{Standing, standing_here, standing_under}
use Rattle.rules.specs.declared.schema.Node.{Node}
use Rattle.walk.specs.Events.{start, Occurrence, opened, closed, met_at, met_under, standings, OpensEachNode}

pub opened_under : (es : Elements) (p : Option Node) (more : List Occurrence) → standings (met_under p es more) ≡ standing_under p es ++ standings more
opened_under none p more = refl
opened_under (element n i gs inside e rest) p more = go (placed p n) (λ k. opened_under inside (Some k) (closed k ∷ met_under p rest more)) (opened_under rest p more)
  where
    go : (o : Option Node) → ((k : Node) → standings (met_under (Some k) inside (closed k ∷ met_under p rest more)) ≡ standing_under (Some k) inside ++ standings (met_under p rest more)) →
        standings (met_under p rest more) ≡ standing_under p rest ++ standings more →
        standings (met_at o (λ k. opened (start k n i gs inside) ∷ met_under (Some k) inside (closed k ∷ met_under p rest more)) (met_under p rest more))
        ≡ (standing_here o i gs (λ k. standing_under (Some k) inside) ++ standing_under p rest) ++ standings more
    go None f g = g
    go (Some k) f g =
        let s : Standing = record { kind = k; at = i; givens = gs } in
        ap (λ l. s ∷ l) (f k ∙ ap (λ l. standing_under (Some k) inside ++ l) g ∙ sym (append_assoc (standing_under (Some k) inside) (standing_under p rest) (standings more)))

pub opens_each : OpensEachNode
opens_each m = opened_under (elements_of m) None [] ∙ append-nil _
