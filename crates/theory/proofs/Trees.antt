-- Whether children begin an allowed list is decided, and so is the tree layer.
use Rattle.std.proofs.Common.{◌≡◌, ℕ, zero, suc, ◌+◌, ◌-◌, ◌≤◌, Bool, true, false, not, ◌&&◌, leb, ◌⊎◌, List, [], ◌∷◌, ◌++◌, drop, replicate, Some, None, Option, sym, refl, ap, ◌∙◌, subst, inl, inr, zero-add, one-add, arith}
use Rattle.std.proofs.lemmas.Bool.{cond-true, cond-false, and_parts, and_from, not-true, not_from_false, or_parts, or_right, leb-true, le-leb, eq-eqb, cases_Bool, both_ways, false≢true}
use Rattle.rules.specs.Located.{Given, Elements, none, element}
use Rattle.rules.specs.Schema.{Child, index, is, needs_child}
use Rattle.rules.specs.Values.{under, placed}
use Rattle.rules.specs.Grounds.{run, complete_by, some_node, complete, Begins, TreeFault, unknown, misplaced, in_child, past_child, unfinished}
use Rattle.rules.specs.declared.grounds.Fault.{Fault}
use Rattle.rules.specs.declared.grounds.Fault.TheVariants.{Misplaced, Unfinished}
use Rattle.rules.specs.declared.schema.Node.{Node}
use Rattle.theory.specs.Schema.{least_of}
use Rattle.theory.specs.Grounds.{Decided}
use Rattle.theory.proofs.Options.{none_some, some_same}
use Rattle.theory.proofs.Lists.{nil_cons}
use Rattle.theory.proofs.SchemaLaws.{at_level, stands_in}
use Rattle.theory.proofs.Compose.{Where, where_decided, Either, either_decided, decided_as}

-- a run of one node at the front of a list, and what follows it
run_more : (j k : Node) (ks : List Node) → is j k ≡ true → run k (j ∷ ks) ≡ suc (run k ks)
run_more j k ks h = cond-true (is j k) _ _ h ∙ one-add (run k ks)

run_stop : (j k : Node) (ks : List Node) → is j k ≡ false → run k (j ∷ ks) ≡ 0
run_stop j k ks h = cond-false (is j k) _ _ h

-- where the run is the whole list, it goes on in what follows
run_through : (k : Node) (ks more : List Node) → drop (run k ks) ks ≡ [] → (run k (ks ++ more) ≡ run k ks + run k more) × (drop (run k (ks ++ more)) (ks ++ more) ≡ drop (run k more) more)
run_through k [] more h = (sym (zero-add (run k more)), refl)
run_through k (j ∷ ks) more h =
    elim (cases_Bool (is j k)) [
      | inl e ↦
          let a = run_more j k ks e in
          let b = run_more j k (ks ++ more) e in
          let (u, v) = run_through k ks more (ap (λ n. drop n (j ∷ ks)) (sym a) ∙ h) in
          (b ∙ ap suc u ∙ more_of (run k ks) (run k (j ∷ ks)) (run k more) a, ap (λ n. drop n (j ∷ (ks ++ more))) b ∙ v)
      | inr e ↦ absurd (nil_cons j ks (sym h ∙ ap (λ n. drop n (j ∷ ks)) (run_stop j k ks e)))
    ]
  where
    more_of : (r n m : ℕ) → n ≡ suc r → suc (r + m) ≡ n + m
    more_of r n m e = omega arith

-- where another node follows the run, it ends there
run_stops : (k : Node) (ks more : List Node) (j : Node) (js : List Node) → drop (run k ks) ks ≡ j ∷ js → (run k (ks ++ more) ≡ run k ks) × (drop (run k ks) (ks ++ more) ≡ (j ∷ js) ++ more)
run_stops k [] more j js h = absurd (nil_cons j js h)
run_stops k (i ∷ ks) more j js h =
    elim (cases_Bool (is i k)) [
      | inl e ↦
          let a = run_more i k ks e in
          let (u, v) = run_stops k ks more j js (ap (λ n. drop n (i ∷ ks)) (sym a) ∙ h) in
          (run_more i k (ks ++ more) e ∙ ap suc u ∙ sym a, ap (λ n. drop n (i ∷ (ks ++ more))) a ∙ v)
      | inr e ↦
          let a = run_stop i k ks e in
          (run_stop i k (ks ++ more) e ∙ sym a, ap (λ n. drop n (i ∷ (ks ++ more))) a ∙ ap (λ l. l ++ more) (ap (λ n. drop n (i ∷ ks)) (sym a) ∙ h))
    ]

-- a test that is asked only where something is left
abbrev where_left : Bool → List Node → Bool
where_left b [] = true
where_left b (k ∷ ks) = b

-- whether nodes begin a complete list of some children
abbrev begins_by : List Child → List Node → Bool
begins_by [] ks = not (some_node ks)
begins_by (c ∷ cs) ks =
    leb (run c.node ks) c.most
    && where_left (leb c.least (run c.node ks) && begins_by cs (drop (run c.node ks) ks)) (drop (run c.node ks) ks)

-- the beginning of a complete list passes the test
complete_begins : (cs : List Child) (ks more : List Node) → complete_by cs (ks ++ more) ≡ true → begins_by cs ks ≡ true
complete_begins [] [] more h = refl
complete_begins [] (k ∷ ks) more h = absurd (false≢true h)
complete_begins (c ∷ cs) ks more h = go (drop (run c.node ks) ks) refl (λ js. complete_begins cs js more)
  where
    r : ℕ
    r = run c.node (ks ++ more)

    least : leb c.least r ≡ true
    least = (and_parts (leb c.least r) _ h).0

    most : leb r c.most ≡ true
    most = (and_parts (leb r c.most) _ (and_parts (leb c.least r) _ h).1).0

    after : complete_by cs (drop r (ks ++ more)) ≡ true
    after = (and_parts (leb r c.most) _ (and_parts (leb c.least r) _ h).1).1

    go : (rest : List Node) → drop (run c.node ks) ks ≡ rest → ((js : List Node) → complete_by cs (js ++ more) ≡ true → begins_by cs js ≡ true) → begins_by (c ∷ cs) ks ≡ true
    go [] e f =
        let (u, v) = run_through c.node ks more e in
        let w = leb-true _ _ most in
        and_from _ _ (le-leb _ _ (omega arith)) (ap (where_left (leb c.least (run c.node ks) && begins_by cs (drop (run c.node ks) ks))) e)
    go (j ∷ js) e f =
        let (u, v) = run_stops c.node ks more j js e in
        let q : complete_by cs ((j ∷ js) ++ more) ≡ true = ap (complete_by cs) (sym v ∙ ap (λ n. drop n (ks ++ more)) (sym u)) ∙ after in
        and_from _ _ (ap (λ n. leb n c.most) (sym u) ∙ most)
        (ap (where_left (leb c.least (run c.node ks) && begins_by cs (drop (run c.node ks) ks))) e ∙ and_from _ _ (ap (leb c.least) (sym u) ∙ least) (ap (begins_by cs) e ∙ f (j ∷ js) q))

-- counts in order, and no node twice
abbrev well_counted : List Child → Bool
well_counted [] = true
well_counted (c ∷ cs) = leb c.least c.most && (not (stands_in c.node cs) && well_counted cs)

-- the children of each node are so
well_counted_at : (p : Option Node) → well_counted (under p) ≡ true
well_counted_at = at_level (λ p. well_counted (under p)) refl refl

-- a node is of its own kind
is_itself : (k : Node) → is k k ≡ true
is_itself k = eq-eqb (index k) (index k) refl

-- so many of one node are a run of so many
run_replicate : (n : ℕ) (k : Node) → (run k (replicate n k) ≡ n) × (drop (run k (replicate n k)) (replicate n k) ≡ [])
run_replicate zero k = (refl, refl)
run_replicate (suc n) k =
    let a = run_more k k (replicate n k) (is_itself k) in
    let (u, v) = run_replicate n k in
    (a ∙ ap suc u, ap (λ m. drop m (k ∷ replicate n k)) a ∙ v)

-- another node in front ends a run
run_other : (n : ℕ) (j k : Node) (more : List Node) → is j k ≡ false → run k more ≡ 0 → run k (replicate n j ++ more) ≡ 0
run_other zero j k more h e = e
run_other (suc n) j k more h e = run_stop j k (replicate n j ++ more) h

-- a node that no child is has no run
run_absent : (k : Node) (cs : List Child) → stands_in k cs ≡ false → run k (least_of cs) ≡ 0
run_absent k [] h = refl
run_absent k (c ∷ cs) h = let (u, v) = or_parts (is c.node k) _ h in run_other c.least c.node k (least_of cs) u (run_absent k cs v)

-- what completes a run of the first child: as many more as it must have, and the least of the others
run_completes : (c : Child) (cs : List Child) (ks : List Node) → drop (run c.node ks) ks ≡ [] → run c.node ks ≤ c.most → c.least ≤ c.most → stands_in c.node cs ≡ false → complete_by cs (least_of cs) ≡ true →
    complete_by (c ∷ cs) (ks ++ (replicate (c.least - run c.node ks) c.node ++ least_of cs)) ≡ true
run_completes c cs ks e m l n h =
    let k : Node = c.node in
    let r : ℕ = run k ks in
    let lot : List Node = replicate (c.least - r) k in
    let (a, b) = run_replicate (c.least - r) k in
    let (u, v) = run_through k lot (least_of cs) b in
    let (w, x) = run_through k ks (lot ++ least_of cs) e in
    let z = run_absent k cs n in
    let whole : ℕ = run k (ks ++ (lot ++ least_of cs)) in
    let s : whole ≡ r + (c.least - r) = w ∙ ap (λ y. r + y) (u ∙ count _ _ _ a z) in
    let q : drop whole (ks ++ (lot ++ least_of cs)) ≡ least_of cs = x ∙ v ∙ ap (λ y. drop y (least_of cs)) z in
    and_from (leb c.least whole) _ (le-leb c.least whole (omega arith)) (and_from (leb whole c.most) _ (le-leb whole c.most (omega arith)) (ap (complete_by cs) q ∙ h))
  where
    count : (a b n : ℕ) → a ≡ n → b ≡ 0 → a + b ≡ n
    count a b n p q = omega arith

-- the least of all children are complete
least_complete : (cs : List Child) → well_counted cs ≡ true → complete_by cs (least_of cs) ≡ true
least_complete [] h = refl
least_complete (c ∷ cs) h =
    let (u, h₁) = and_parts (leb c.least c.most) _ h in
    let (v, w) = and_parts (not (stands_in c.node cs)) _ h₁ in
    let z : c.least - 0 ≡ c.least = omega arith in
    subst (λ n. complete_by (c ∷ cs) (replicate n c.node ++ least_of cs) ≡ true) z (run_completes c cs [] refl (omega arith) (leb-true _ _ u) (not-true _ v) (least_complete cs w))

-- nodes that pass the test begin a complete list
begins_complete : (cs : List Child) (ks : List Node) → well_counted cs ≡ true → begins_by cs ks ≡ true → (more : List Node) × (complete_by cs (ks ++ more) ≡ true)
begins_complete [] [] s h = ([], refl)
begins_complete [] (k ∷ ks) s h = absurd (false≢true h)
begins_complete (c ∷ cs) ks s h = let (u, h₁) = and_parts (leb (run c.node ks) c.most) _ h in go (drop (run c.node ks) ks) refl u h₁ (λ js. begins_complete cs js (and_parts (not (stands_in c.node cs)) _ (and_parts (leb c.least c.most) _ s).1).1)
  where
    go : (rest : List Node) → drop (run c.node ks) ks ≡ rest → leb (run c.node ks) c.most ≡ true → where_left (leb c.least (run c.node ks) && begins_by cs (drop (run c.node ks) ks)) (drop (run c.node ks) ks) ≡ true →
        ((js : List Node) → begins_by cs js ≡ true → (more : List Node) × (complete_by cs (js ++ more) ≡ true)) → (more : List Node) × (complete_by (c ∷ cs) (ks ++ more) ≡ true)
    go [] e u h f =
        let (l, s₁) = and_parts (leb c.least c.most) _ s in
        let (v, w) = and_parts (not (stands_in c.node cs)) _ s₁ in
        (_, run_completes c cs ks e (leb-true _ _ u) (leb-true _ _ l) (not-true _ v) (least_complete cs w))
    go (j ∷ js) e u h f =
        let (l, b) = and_parts (leb c.least (run c.node ks)) _ (sym (ap (where_left (leb c.least (run c.node ks) && begins_by cs (drop (run c.node ks) ks))) e) ∙ h) in
        let (more, q) = f (j ∷ js) (ap (begins_by cs) (sym e) ∙ b) in
        let (x, y) = run_stops c.node ks more j js e in
        (more, and_from _ _ (ap (leb c.least) x ∙ l) (and_from _ _ (ap (λ n. leb n c.most) x ∙ u) (ap (complete_by cs) (ap (λ n. drop n (ks ++ more)) x ∙ y) ∙ q)))

-- completeness under a node, where some child stands
complete_counts : (p : Option Node) (ks : List Node) → complete p ks ≡ true → complete_by (under p) ks ≡ true
complete_counts None ks h = h
complete_counts (Some k) ks h = (and_parts (complete_by (under (Some k)) ks) _ h).0

counts_complete : (p : Option Node) (ks : List Node) → some_node ks ≡ true → complete_by (under p) ks ≡ true → complete p ks ≡ true
counts_complete None ks s h = h
counts_complete (Some k) ks s h = and_from _ _ h (or_right (not (needs_child k)) _ s)

-- a node in front stays
some_before : (ks more : List Node) → some_node ks ≡ true → some_node (ks ++ more) ≡ true
some_before [] more h = absurd (false≢true h)
some_before (k ∷ ks) more h = refl

-- whether nodes begin an allowed list is decided
pub begins_decided : (p : Option Node) (ks : List Node) → some_node ks ≡ true → Begins p ks ⊎ (Begins p ks → ⊥)
begins_decided p ks s =
    elim (cases_Bool (begins_by (under p) ks)) [
      | inl e ↦ let (more, h) = begins_complete (under p) ks (well_counted_at p) e in inl (more, counts_complete p (ks ++ more) (some_before ks more s) h)
      | inr e ↦ inr (λ b. both_ways _ e (complete_begins (under p) ks b.0 (complete_counts p (ks ++ b.0) b.1)))
    ]

-- a node behind is one
some_after : (ks : List Node) (k : Node) → some_node (ks ++ k ∷ []) ≡ true
some_after [] k = refl
some_after (j ∷ ks) k = refl

-- what the tree layer finds at the end of a list, and at an element
at_end : {p : Option Node} {sofar : List Node} {ends : ℕ} {f : Fault} → TreeFault p sofar ends none f → Where (not (complete p sofar)) (Unfinished ends) f
at_end (unfinished h) = (not_from_false _ h, refl)

-- at an element without a place, or that begins no allowed list, that it is misplaced
unplaced : {p : Option Node} {sofar : List Node} {ends : ℕ} {n : List ℕ} {i : ℕ} {gs : List Given} {inside : Elements} {e : ℕ} {rest : Elements} {f : Fault} →
    ((k : Node) → placed p n ≡ Some k → Begins p (sofar ++ k ∷ []) → ⊥) → TreeFault p sofar ends (element n i gs inside e rest) f → Where true (Misplaced i) f
unplaced x (unknown h) = (refl, refl)
unplaced x (misplaced h b) = (refl, refl)
unplaced x (in_child {k = k} h b t) = absurd (x k h b)
unplaced x (past_child {k = k} h b t) = absurd (x k h b)

-- at another, what is found inside it and at those that follow it
found_past : {p : Option Node} {sofar : List Node} {ends : ℕ} {n : List ℕ} {i : ℕ} {gs : List Given} {inside : Elements} {e : ℕ} {rest : Elements} {f : Fault} (k : Node) →
    placed p n ≡ Some k → Begins p (sofar ++ k ∷ []) → TreeFault p sofar ends (element n i gs inside e rest) f → Either (TreeFault (Some k) [] e inside) (TreeFault p (sofar ++ k ∷ []) ends rest) f
found_past k q w (unknown h) = absurd (none_some h q)
found_past {p} {sofar} k q w (misplaced h b) = absurd (b (subst (λ j. Begins p (sofar ++ j ∷ [])) (some_same q h) w))
found_past {inside = inside} {e = e} {f = f} k q w (in_child h b t) = inl (subst (λ j. TreeFault (Some j) [] e inside f) (some_same h q) t)
found_past {p} {sofar} {ends} {rest = rest} {f = f} k q w (past_child h b t) = inr (subst (λ j. TreeFault p (sofar ++ j ∷ []) ends rest f) (some_same h q) t)

-- the tree layer is decided
pub tree_decided : (es : Elements) (p : Option Node) (sofar : List Node) (ends : ℕ) → Decided (TreeFault p sofar ends es)
tree_decided none p sofar ends =
    decided_as (Where (not (complete p sofar)) (Unfinished ends)) (TreeFault p sofar ends none) (λ f h. subst (TreeFault p sofar ends none) (sym h.1) (unfinished (not-true _ h.0))) (λ f t. at_end t)
    (where_decided (not (complete p sofar)) (Unfinished ends))
tree_decided (element n i gs inside e rest) p sofar ends =
    go (placed p n) refl (λ k. tree_decided inside (Some k) [] e) (λ k. tree_decided rest p (sofar ++ k ∷ []) ends)
  where
    Here : Fault → Type 0
    Here = TreeFault p sofar ends (element n i gs inside e rest)

    lone : Here (Misplaced i) → ((k : Node) → placed p n ≡ Some k → Begins p (sofar ++ k ∷ []) → ⊥) → Decided Here
    lone t x = decided_as (Where true (Misplaced i)) Here (λ f h. subst Here (sym h.1) t) (λ f u. unplaced x u) (where_decided true (Misplaced i))

    go : (o : Option Node) → placed p n ≡ o → ((k : Node) → Decided (TreeFault (Some k) [] e inside)) → ((k : Node) → Decided (TreeFault p (sofar ++ k ∷ []) ends rest)) → Decided Here
    go None q f g = lone (unknown q) (λ k h b. none_some q h)
    go (Some k) q f g =
        elim (begins_decided p (sofar ++ k ∷ []) (some_after sofar k)) [
          | inl b ↦
              decided_as (Either (TreeFault (Some k) [] e inside) (TreeFault p (sofar ++ k ∷ []) ends rest)) Here
              (λ x w. elim w [ inl t ↦ in_child q b t | inr t ↦ past_child q b t ]) (λ x t. found_past k q b t)
              (either_decided (TreeFault (Some k) [] e inside) (TreeFault p (sofar ++ k ∷ []) ends rest) (f k) (g k))
          | inr b ↦ lone (misplaced q b) (λ j h w. b (subst (λ y. Begins p (sofar ++ y ∷ [])) (some_same h q) w))
        ]
