-- The end of what stands in a node.
use Rattle.std.proofs.Common.{◌≡◌, ℕ, zero, suc, ◌+◌, ◌<◌, ◌≤◌, true, eqb, List, [], ◌∷◌, ◌++◌, length, drop, Some, Option, sym, refl, ap, ◌∙◌, subst, arith, length-append}
use Rattle.std.proofs.lemmas.List.{length-drop}
use Rattle.std.proofs.lemmas.Bool.{and_parts, false≢true, eqb-true, cond-false, not-true}
use Rattle.std.proofs.lemmas.Bool.Decides.{nat_tests}
use Rattle.rules.specs.Bytes.{blank, all}
use Rattle.rules.specs.Markup.{Content, end, empty, full, text, content_ok, name_ok}
use Rattle.rules.specs.Located.{none, located}
use Rattle.rules.specs.declared.schema.Node.{Node}
use Rattle.theory.specs.On.{content_on, stops}
use Rattle.theory.specs.Schema.{parent}
use Rattle.tags.specs.Scan.{through}
use Rattle.std.specs.List.{prefix_len}
use Rattle.byte_classes.specs.Runs.{other}
use Rattle.walk.specs.Events.{Occurrence, closed, met_under}
use Rattle.walk.specs.Coming.{Placed, Follows, nothing, ends, Coming, Comes, Gives, shuts, ending}
use Rattle.walk.specs.declared.event.Event.TheVariants.{Closed}
use Rattle.walk.specs.declared.cursor.Walk.{Walk}
use Rattle.tags.proofs.Fronts.{past, scanned, lies_next}
use Rattle.tags.proofs.Parts.{no_slash}

ending_stops : (xs r : List ℕ) → ending xs ≡ true → stops blank (xs ++ r) ≡ true
ending_stops [] r h = absurd (false≢true h)
ending_stops (b ∷ []) r h = grind (arith, nat_tests)
ending_stops (b ∷ c ∷ xs) r h = grind (arith, nat_tests)

ending_shuts : (xs r : List ℕ) → ending xs ≡ true → shuts (xs ++ 62 ∷ r) ≡ true
ending_shuts [] r h = absurd (false≢true h)
ending_shuts (b ∷ []) r h = grind (arith, nat_tests)
ending_shuts (b ∷ c ∷ xs) r h = grind (arith, nat_tests)

pub tag_open : (n r : List ℕ) → name_ok n ≡ true → shuts (60 ∷ (n ++ r)) ≡ true → ⊥
tag_open [] r h k = false≢true h
tag_open (b ∷ bs) r h k = no_slash b (and_parts _ _ h).0 (eqb-true b 47 k)

pub follows_stops : {p : Option Node} {stop : ℕ} {rest : List ℕ} {os : List Occurrence} → Follows p stop rest os → stops blank rest ≡ true
follows_stops (nothing a e b) = ap (stops blank) e
follows_stops (ends k q shut n i c after more a b h f g e j l m o) = ap (stops blank) e ∙ ending_stops shut _ h

pub follows_shuts : {p : Option Node} {stop : ℕ} {rest : List ℕ} {os : List Occurrence} → Follows p stop rest os → shuts rest ≡ true
follows_shuts (nothing a e b) = ap shuts e
follows_shuts (ends k q shut n i c after more a b h f g e j l m o) = ap shuts e ∙ ending_shuts shut _ h

-- what comes from a place on, for a walk that has come there
pub comes_to : (w : Walk) (d : List ℕ) (at : ℕ) (p : Option Node) (os : List Occurrence) → w.document.now ≡ d → w.at ≡ at → w.«open» ≡ p → Coming d at p os → Comes w os
comes_to w d at p os x y z h = rw (x, y, z) h

-- no element begins: the content ends
module _ (d : List ℕ) (at place : ℕ) (rest : List ℕ) (hp : place ≡ at + prefix_len blank (drop at d)) (hr : stops blank rest ≡ true) where
  pub content_ends : (n : ℕ) (c : Content) → content_ok n c ≡ true → drop at d ≡ content_on c rest → shuts (drop place d) ≡ true →
      (located at c ≡ none) × (place ≡ at + length (text c)) × (drop place d ≡ rest)
  content_ends n (end b) h e k = let (p, f) = scanned blank d b rest at place hp h hr e in (refl, p, f)
  content_ends zero (empty b t after) h e k = absurd (false≢true h)
  content_ends (suc n) (empty b t after) h e k =
      let (u, h₁) = and_parts (all blank b) _ h in
      let (p, f) = scanned blank d b _ at place hp u refl e in
      absurd (tag_open t.name _ (and_parts _ _ (and_parts _ _ h₁).0).0 (ap shuts (sym f) ∙ k))
  content_ends zero (full b t inside c after) h e k = absurd (false≢true h)
  content_ends (suc n) (full b t inside c after) h e k =
      let (u, h₁) = and_parts (all blank b) _ h in
      let (p, f) = scanned blank d b _ at place hp u refl e in
      absurd (tag_open t.name _ (and_parts _ _ (and_parts _ _ h₁).0).0 (ap shuts (sym f) ∙ k))

through_at : (q : ℕ) (xs r : List ℕ) → all (other q) xs ≡ true → through q (xs ++ q ∷ r) ≡ length xs + 1
through_at q [] r h = grind (arith, nat_tests)
through_at q (x ∷ xs) r h =
    let (u, v) = and_parts (other q x) _ h in
    let e : through q (x ∷ xs ++ q ∷ r) ≡ 1 + through q (xs ++ q ∷ r) = cond-false (eqb x q) _ _ (not-true (eqb x q) u) in
    omega (arith, through_at q xs r v)

ends_empty : {p : Option Node} {stop : ℕ} {rest : List ℕ} {os : List Occurrence} → Follows p stop rest os → length rest ≡ 0 → os ≡ []
ends_empty (nothing a e b) h = b
ends_empty (ends k q xs n i c after more a b h f g e j l m o) z = absurd (omega (arith, ap length e, length-append xs (62 ∷ content_on c after)))

-- the open node k ends, and its parent is open after it
pub record Left (d : List ℕ) (next : ℕ) (p : Option Node) (os : List Occurrence) : Type 0 where
  pub k : Node
  pub was : p ≡ Some k
  pub others : List Occurrence
  pub are : os ≡ closed k ∷ others
  pub comes : Coming d next (parent k) others

module _ (d : List ℕ) (at place : ℕ) (hp : place ≡ at + prefix_len blank (drop at d)) (p : Option Node) (os : List Occurrence) (co : Coming d at p os)
    (shut : shuts (drop place d) ≡ true) where
  ended_here : (located at co.content ≡ none) × (place ≡ at + length (text co.content)) × (drop place d ≡ co.rest)
  ended_here = content_ends d at place co.rest hp (follows_stops co.follows) co.depth co.content co.good co.shown shut

  only_more : os ≡ co.more
  only_more = co.are ∙ ap (λ es. met_under p es co.more) ended_here.0

  -- the document ends
  pub all_met : length d ≤ place → os ≡ []
  all_met l = only_more ∙ ends_empty co.follows (omega (arith, length-drop place d, ap length ended_here.2))

  pub leaves : (next : ℕ) → place < length d → next ≡ place + through 62 (drop place d) → Left d next p os
  leaves next l e = go co.follows (sym ended_here.1) (sym ended_here.2) (sym only_more)
    where
      go : {stop : ℕ} {rest : List ℕ} {more : List Occurrence} → Follows p stop rest more → stop ≡ place → rest ≡ drop place d → more ≡ os → Left d next p os
      go (nothing a b c) s r m = absurd (omega (arith, length-drop place d, ap length (sym r ∙ b)))
      go (ends k q xs n i c after more a b h f g x j y z o) s r m =
          let w : drop place d ≡ xs ++ 62 ∷ content_on c after = sym r ∙ x in
          let u : next ≡ place + length xs + 1 = omega (arith, ap (through 62) w ∙ through_at 62 xs (content_on c after) f) in
          let v : drop (place + length xs + 1) d ≡ content_on c after = lies_next d _ 62 (place + length xs) (past d xs _ place w) in
          let t : i ≡ next = omega arith in
          let comes : Coming d next q (met_under q (located next c) more) = record {
            depth = n;
            content = c;
            rest = after;
            more = more;
            good = g;
            shown = ap (λ x. drop x d) u ∙ v;
            nodes = subst (λ x. Placed q (located x c)) t y;
            are = refl;
            follows = subst (λ x. Follows q (x + length (text c)) after more) t o;
          } in
          record {
            k = k;
            was = a;
            others = met_under q (located next c) more;
            are = sym m ∙ z ∙ ap (λ x. closed k ∷ met_under q (located x c) more) t;
            comes = subst (λ x. Coming d next x (met_under q (located next c) more)) (sym b) comes;
          }

-- once that node is closed, a walk that has come to the place after its end has the others before it
pub left_gives : (d : List ℕ) (next : ℕ) (p : Option Node) (os : List Occurrence) → Left d next p os → (node : Node) (w : Walk) → p ≡ Some node → w.document.now ≡ d → w.at ≡ next → w.«open» ≡ parent node →
    Gives os d (Some (Closed node)) w
left_gives d next p os z node w h x y e =
    let was = z.was in
    let f : node ≡ z.k = cc in
    let o : w.«open» ≡ parent z.k = e ∙ ap parent f in
    subst (λ l. Gives l d (Some (Closed node)) w) (sym z.are) (ap (λ k. Some (Closed k)) f, tt, comes_to w d next (parent z.k) z.others x y o z.comes)
