-- The walk finds the first fault of the tree, given what a step through the rows decides.
use Rattle.std.proofs.Common.{◌≡◌, ℕ, ◌+◌, ◌≤◌, Bool, true, false, cond, ◌⊎◌, List, [], ◌∷◌, ◌++◌, length, drop, Some, None, Option, sym, refl, ◌∙◌, subst, inl, inr, arith, length-append}
use Rattle.std.proofs.lemmas.Bool.{both_ways}
use Rattle.rules.specs.Located.{Given, Elements, none, element, located}
use Rattle.rules.specs.Markup.{Content, end, empty, full, text, tag_text}
use Rattle.rules.specs.Values.{under, placed}
use Rattle.rules.specs.Faults.{rank, not_after, Judgement}
use Rattle.rules.specs.Grounds.{Begins, complete, TreeFault, unknown, misplaced, in_child, past_child, unfinished}
use Rattle.rules.specs.declared.schema.Node.{Node}
use Rattle.rules.specs.declared.grounds.Fault.{Fault}
use Rattle.rules.specs.declared.grounds.Fault.TheVariants.{Misplaced, Unfinished}
use Rattle.reader.specs.declared.nodes.Progress.{Progress}
use Rattle.theory.proofs.Compose.{before_itself, lower_place, judged_as, or_else, Either, then_judged, In}
use Rattle.reader.specs.Tree.{step, finished, node_at, follow, tree_first}
use Rattle.reader.proofs.Levels.{six_length}

-- the places of elements grow, from lo to hi
abbrev pub Spread : ℕ → ℕ → Elements → Type 0
Spread lo hi none = lo ≤ hi
Spread lo hi (element name at gs inside e rest) = (lo ≤ at) × Spread at e inside × Spread (e + 1) hi rest

pub spread_from : (es : Elements) (lo j hi : ℕ) → lo ≤ j → Spread j hi es → Spread lo hi es
spread_from none lo j hi l s = omega arith
spread_from (element name at gs inside e rest) lo j hi l s = (omega (arith, s.0), s.1, s.2)

pub located_spread : (c : Content) (i hi : ℕ) → hi ≡ i + length (text c) → Spread i hi (located i c)
located_spread (end b) i hi h = omega arith
located_spread (empty b t after) i hi h =
    let n = length-append (b ++ tag_text t) (47 ∷ 62 ∷ text after) in
    let k = length-append b (tag_text t) in
    (omega arith, omega arith, spread_from (located (i + length b + length (tag_text t) + 2) after) _ (i + length b + length (tag_text t) + 2) hi (omega arith) (located_spread after _ hi (omega arith)))
located_spread (full b t inside c after) i hi h =
    let n = six_length b (tag_text t) (62 ∷ text inside) (60 ∷ 47 ∷ t.name) c (62 ∷ text after) in
    let j = i + length b + length (tag_text t) + 1 in
    let k = i + length b + length (tag_text t) + 1 + length (text inside) + 2 + length t.name + length c + 1 in
    (omega arith, spread_from (located j inside) _ j _ (omega arith) (located_spread inside j _ refl), spread_from (located k after) _ k hi (omega arith) (located_spread after k hi (omega arith)))

abbrev Parts : Option Node → List Node → ℕ → List ℕ → ℕ → Elements → ℕ → Elements → Fault → Type 0
Parts p sofar hi name at inside e rest f =
    ((f ≡ Misplaced at) × ((placed p name ≡ None) ⊎ ((k : Node) × (placed p name ≡ Some k) × (Begins p (sofar ++ k ∷ []) → ⊥))))
    ⊎ ((k : Node) × (placed p name ≡ Some k) × Begins p (sofar ++ k ∷ []) × (TreeFault (Some k) [] e inside f ⊎ TreeFault p (sofar ++ k ∷ []) hi rest f))

parts : {p : Option Node} {sofar : List Node} {hi : ℕ} {name : List ℕ} {at : ℕ} {gs : List Given} {inside : Elements} {e : ℕ} {rest : Elements} {f : Fault} →
    TreeFault p sofar hi (element name at gs inside e rest) f → Parts p sofar hi name at inside e rest f
parts (unknown h) = inl (refl, inl h)
parts (misplaced {k = k} h b) = inl (refl, inr (k, h, b))
parts (in_child {k = k} h b t) = inr (k, h, b, inl t)
parts (past_child {k = k} h b t) = inr (k, h, b, inr t)

ends_only : {p : Option Node} {sofar : List Node} {hi : ℕ} {f : Fault} → TreeFault p sofar hi none f → (f ≡ Unfinished hi) × (complete p sofar ≡ false)
ends_only (unfinished h) = (refl, h)

top : (es : Elements) (lo hi : ℕ) → Spread lo hi es → lo ≤ hi
top none lo hi s = s
top (element name at gs inside e rest) lo hi s = omega (arith, s.0, top inside at e s.1, top rest (e + 1) hi s.2)

-- the faults of elements belong to the layer of the tree, and lie between their places
lies : (es : Elements) (p : Option Node) (sofar : List Node) (lo hi : ℕ) (f : Fault) → Spread lo hi es → TreeFault p sofar hi es f → In 3 lo hi f
lies none p sofar lo hi f s t = subst (λ g. In 3 lo hi g) (sym (ends_only t).0) (record { layered = refl; low = s; high = omega arith })
lies (element name at gs inside e rest) p sofar lo hi f s t =
    let u = top inside at e s.1 in
    let v = top rest (e + 1) hi s.2 in
    elim (parts t) [
      | inl x ↦ subst (λ g. In 3 lo hi g) (sym x.0) (record { layered = refl; low = s.0; high = omega arith })
      | inr x ↦ elim x.3 [
        | inl y ↦ let l = lies inside (Some x.0) [] at e f s.1 y in record { layered = l.layered; low = omega (arith, s.0, l.low); high = omega (arith, l.high) }
        | inr y ↦ let l = lies rest p (sofar ++ x.0 ∷ []) (e + 1) hi f s.2 y in record { layered = l.layered; low = omega (arith, s.0, l.low); high = l.high }
      ]
    ]

some_same : {j k : Node} {o : Option Node} → o ≡ Some j → o ≡ Some k → j ≡ k
some_same a b = cc

none_some : {A : Type 0} {k : A} {o : Option A} → o ≡ None → o ≡ Some k → ⊥
none_some a b = let z : ◌≡◌ {A = ℕ} 0 1 = cc in omega arith

-- what a step through the rows decides
abbrev pub Next : (Option Node → List Node → ℕ → ℕ → Type 0) → Option Node → List Node → ℕ → ℕ → List ℕ → Node → Type 0
Next Track p sofar i n name k =
    ((step (drop i (under p)) i n name ≡ None) × (Begins p (sofar ++ k ∷ []) → ⊥))
    ⊎ ((s : Progress) × (step (drop i (under p)) i n name ≡ Some s) × (node_at p s.row ≡ k) × Begins p (sofar ++ k ∷ []) × Track p (sofar ++ k ∷ []) s.row s.count)

module _ (Track : Option Node → List Node → ℕ → ℕ → Type 0) (start : (p : Option Node) → Track p [] 0 0)
    (ended : (p : Option Node) (sofar : List Node) (i n : ℕ) → Track p sofar i n → complete p sofar ≡ finished p i n)
    (unplaced : (p : Option Node) (i n : ℕ) (name : List ℕ) → placed p name ≡ None → step (drop i (under p)) i n name ≡ None)
    (next : (p : Option Node) (sofar : List Node) (i n : ℕ) (name : List ℕ) (k : Node) → Track p sofar i n → placed p name ≡ Some k → Next Track p sofar i n name k) where
  at_end : (p : Option Node) (sofar : List Node) (hi : ℕ) (b : Bool) → complete p sofar ≡ b → Judgement (TreeFault p sofar hi none) (cond b None (Some (Unfinished hi)))
  at_end p sofar hi true h = λ f t. both_ways (complete p sofar) (ends_only t).1 h
  at_end p sofar hi false h = (unfinished h, λ g t. subst (λ x. not_after (rank (Unfinished hi)) (rank x) ≡ true) (sym (ends_only t).0) (before_itself (Unfinished hi)))

  pub first : (es : Elements) (p : Option Node) (sofar : List Node) (i n lo hi : ℕ) → Track p sofar i n → Spread lo hi es → Judgement (TreeFault p sofar hi es) (tree_first p i n hi es)
  first none p sofar i n lo hi t s = at_end p sofar hi (finished p i n) (ended p sofar i n t)
  first (element name at gs inside e rest) p sofar i n lo hi t s = go (placed p name) refl (λ k. first inside (Some k) [] 0 0 at e (start (Some k)) s.1) (λ k j m u. first rest p (sofar ++ k ∷ []) j m (e + 1) hi u s.2)
    where
      M : Fault → Type 0
      M = TreeFault p sofar hi (element name at gs inside e rest)

      lone : step (drop i (under p)) i n name ≡ None → M (Misplaced at) → ((f : Fault) → M f → f ≡ Misplaced at) → Judgement M (tree_first p i n hi (element name at gs inside e rest))
      lone q m only =
          subst (λ o. Judgement M (follow o (Misplaced at) (λ s. or_else (tree_first (Some (node_at p s.row)) 0 0 e inside) (tree_first p s.row s.count hi rest)))) (sym q)
          (m, λ g x. subst (λ y. not_after (rank (Misplaced at)) (rank y) ≡ true) (sym (only g x)) (before_itself (Misplaced at)))

      go : (o : Option Node) → placed p name ≡ o → ((k : Node) → Judgement (TreeFault (Some k) [] e inside) (tree_first (Some k) 0 0 e inside)) →
          ((k : Node) (j m : ℕ) → Track p (sofar ++ k ∷ []) j m → Judgement (TreeFault p (sofar ++ k ∷ []) hi rest) (tree_first p j m hi rest)) → Judgement M (tree_first p i n hi (element name at gs inside e rest))
      go None q below more = lone (unplaced p i n name q) (unknown q) (λ f x. elim (parts x) [ inl y ↦ y.0 | inr y ↦ absurd (none_some q y.1) ])
      go (Some k) q below more = elim (next p sofar i n name k t q) [
        | inl x ↦ lone x.0 (misplaced q x.1) (λ f y. elim (parts y) [ inl z ↦ z.0 | inr z ↦ absurd (x.1 (subst (λ j. Begins p (sofar ++ j ∷ [])) (some_same z.1 q) z.2)) ])
        | inr x ↦
            subst (λ o. Judgement M (follow o (Misplaced at) (λ s. or_else (tree_first (Some (node_at p s.row)) 0 0 e inside) (tree_first p s.row s.count hi rest)))) (sym x.1)
            (judged_as (Either (TreeFault (Some k) [] e inside) (TreeFault p (sofar ++ k ∷ []) hi rest)) M
            (λ f y. elim y [ inl z ↦ in_child q x.3 z | inr z ↦ past_child q x.3 z ])
            (λ f y. elim (parts y) [
              | inl z ↦ elim z.1 [ inl w ↦ absurd (none_some w q) | inr w ↦ absurd (w.2 (subst (λ j. Begins p (sofar ++ j ∷ [])) (some_same q w.1) x.3)) ]
              | inr z ↦ subst (λ j. TreeFault (Some j) [] e inside f ⊎ TreeFault p (sofar ++ j ∷ []) hi rest f) (some_same z.1 q) z.3
            ])
            _
            (then_judged (TreeFault (Some k) [] e inside) (TreeFault p (sofar ++ k ∷ []) hi rest)
            (λ f g y z. let l = lies inside (Some k) [] at e f s.1 y in let m = lies rest p (sofar ++ k ∷ []) (e + 1) hi g s.2 z in lower_place (rank f) (rank g) (l.layered ∙ sym m.layered) (omega (arith, l.high, m.low)))
            _ _
            (subst (λ j. Judgement (TreeFault (Some k) [] e inside) (tree_first (Some j) 0 0 e inside)) (sym x.2) (below k))
            (more k x.0.row x.0.count x.4)))
      ]
