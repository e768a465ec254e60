-- What a step through the rows of children decides: whether a list of children goes on to a complete one.
use Rattle.std.proofs.Common.{◌≡◌, ℕ, zero, suc, ◌+◌, ◌-◌, ◌<◌, ◌≤◌, Bool, true, false, cond, not, ◌&&◌, ◌||◌, eqb, ltb, leb, List, [], ◌∷◌, ◌++◌, get_or, drop, Some, None, Option, sym, refl, ap, ◌∙◌, subst, inl, inr, append_assoc, append-nil, add-zero, zero-add, one-add, arith}
use Rattle.std.proofs.lemmas.List.{drop-drop, get_or-drop}
use Rattle.std.proofs.lemmas.Bool.{cond-true, cond-false, and_parts, and_from, and_left, and_right, not-true, both_ways, eq-eqb, ne_eqb, le-leb, lt-leb, ltb-true, ltb-false, leb-true, cases_Bool}
use Rattle.rules.specs.Bytes.{same}
use Rattle.rules.specs.Schema.{Child, child, tag, index, is, needs_child}
use Rattle.rules.specs.Values.{named, under, placed}
use Rattle.rules.specs.Grounds.{run, complete_by, some_node, complete}
use Rattle.rules.specs.declared.schema.Node.{Node}
use Rattle.rules.specs.declared.schema.Node.TheVariants.{Comprobante}
use Rattle.reader.specs.declared.nodes.Progress.{Progress}
use Rattle.reader.specs.Tree.{progress, step, enough, finished}
use Rattle.theory.proofs.SchemaLaws.{at_level, is_same}
use Rattle.reader.proofs.Steps.{same_decides}
use Rattle.reader.proofs.Firsts.{Next}

is_self : (k : Node) → is k k ≡ true
is_self k = eq-eqb (index k) (index k) refl

-- the rows are sound: counts in order, nodes and tags apart
abbrev apart : Child → List Child → Bool
apart c [] = true
apart c (d ∷ ds) = not (is d.node c.node) && (not (same (tag d.node) (tag c.node)) && apart c ds)

abbrev sound : List Child → Bool
sound [] = true
sound (c ∷ cs) = leb c.least c.most && (apart c cs && sound cs)

rows_sound : (p : Option Node) → sound (under p) ≡ true
rows_sound = at_level (λ p. sound (under p)) refl refl

sound_tail : (c : Child) (cs : List Child) → sound (c ∷ cs) ≡ true → sound cs ≡ true
sound_tail c cs h = (and_parts (apart c cs) (sound cs) (and_parts (leb c.least c.most) (apart c cs && sound cs) h).1).1

sound_drop : (cs : List Child) (i : ℕ) → sound cs ≡ true → sound (drop i cs) ≡ true
sound_drop [] zero h = refl
sound_drop [] (suc i) h = refl
sound_drop (c ∷ cs) zero h = h
sound_drop (c ∷ cs) (suc i) h = sound_drop cs i (sound_tail c cs h)

-- what is left to complete, after n children of the first row
abbrev rem : List Child → ℕ → List Node → Bool
rem [] n more = complete_by [] more
rem (c ∷ cs) n more = leb c.least (n + run c.node more) && (leb (n + run c.node more) c.most && complete_by cs (drop (run c.node more) more))

rem_start : (cs : List Child) (more : List Node) → complete_by cs more ≡ rem cs 0 more
rem_start [] more = refl
rem_start (c ∷ cs) more = ap (λ n. leb c.least n && (leb n c.most && complete_by cs (drop (run c.node more) more))) (sym (zero-add (run c.node more)))

abbrev Room : List Child → ℕ → Type 0
Room [] n = Unit {0}
Room (c ∷ cs) n = n ≤ c.most

room_start : (cs : List Child) → Room cs 0
room_start [] = tt
room_start (c ∷ cs) = omega arith

-- the rows that take a name
abbrev Only : List Child → List ℕ → Node → Type 0
Only [] name k = Unit {0}
Only (c ∷ cs) name k = (same (tag c.node) name ≡ true → c.node ≡ k) × Only cs name k

only_drop : (cs : List Child) (name : List ℕ) (k : Node) (i : ℕ) → Only cs name k → Only (drop i cs) name k
only_drop [] name k zero o = tt
only_drop [] name k (suc i) o = tt
only_drop (c ∷ cs) name k zero o = o
only_drop (c ∷ cs) name k (suc i) o = only_drop cs name k i o.1

-- a later row does not carry the name of this one
only_apart : (c : Child) (ds : List Child) (name : List ℕ) → tag c.node ≡ name → apart c ds ≡ true → Only ds name c.node
only_apart c [] name e h = tt
only_apart c (d ∷ ds) name e h =
    let (u, v) = and_parts _ _ (and_parts _ _ h).1 in
    (λ s. absurd (both_ways (same (tag d.node) (tag c.node)) (not-true _ u) (ap (same (tag d.node)) e ∙ s)), only_apart c ds name e v)

only_from : (cs : List Child) (name : List ℕ) (k : Node) → sound cs ≡ true → named cs name ≡ Some k → Only cs name k × (tag k ≡ name)
only_from [] name k h e = absurd (let z : ◌≡◌ {A = ℕ} 0 1 = cc in omega arith)
only_from (c ∷ cs) name k h e =
    elim (cases_Bool (same (tag c.node) name)) [
      | inl s ↦
          let f = sym (cond-true _ _ _ s) ∙ e in
          let q : c.node ≡ k = cc in
          let t : tag c.node ≡ name = (same_decides (tag c.node) name).0 s in
          ((λ x. q, subst (λ j. Only cs name j) q (only_apart c cs name t (and_parts _ _ (and_parts _ _ h).1).0)), ap tag (sym q) ∙ t)
      | inr s ↦
          let r = only_from cs name k (sound_tail c cs h) (sym (cond-false _ _ _ s) ∙ e) in
          ((λ x. absurd (both_ways _ s x), r.0), r.1)
    ]

abbrev Never : List Child → List ℕ → Type 0
Never [] name = Unit {0}
Never (c ∷ cs) name = (same (tag c.node) name ≡ false) × Never cs name

never_from : (cs : List Child) (name : List ℕ) → named cs name ≡ None → Never cs name
never_from [] name e = tt
never_from (c ∷ cs) name e =
    elim (cases_Bool (same (tag c.node) name)) [
      | inl s ↦ let f = sym (cond-true _ _ _ s) ∙ e in absurd (let z : ◌≡◌ {A = ℕ} 0 1 = cc in omega arith)
      | inr s ↦ (s, never_from cs name (sym (cond-false _ _ _ s) ∙ e))
    ]

never_drop : (cs : List Child) (name : List ℕ) (i : ℕ) → Never cs name → Never (drop i cs) name
never_drop [] name zero o = tt
never_drop [] name (suc i) o = tt
never_drop (c ∷ cs) name zero o = o
never_drop (c ∷ cs) name (suc i) o = never_drop cs name i o.1

never_step : (cs : List Child) (i n : ℕ) (name : List ℕ) → Never cs name → step cs i n name ≡ None
never_step [] i n name o = refl
never_step (c ∷ cs) i n name o =
    cond-false _ _ _ o.0 ∙ elim (cases_Bool (ltb n c.least)) [ inl s ↦ cond-true _ _ _ s | inr s ↦ cond-false _ _ _ s ∙ never_step cs (i + 1) 0 name o.1 ]

pub unplaced : (p : Option Node) (i n : ℕ) (name : List ℕ) → placed p name ≡ None → step (drop i (under p)) i n name ≡ None
unplaced p i n name e = never_step (drop i (under p)) i n name (never_drop (under p) name i (never_from (under p) name e))

-- a child of the row, and one of a later row
rem_here : (c : Child) (cs : List Child) (n : ℕ) (k : Node) (more : List Node) → c.node ≡ k → rem (c ∷ cs) n (k ∷ more) ≡ rem (c ∷ cs) (n + 1) more
rem_here c cs n k more q =
    let s : is k c.node ≡ true = ap (λ j. is k j) q ∙ is_self k in
    let r : run c.node (k ∷ more) ≡ suc (run c.node more) = cond-true _ _ _ s ∙ one-add (run c.node more) in
    let m : n + suc (run c.node more) ≡ n + 1 + run c.node more = omega arith in
    ap (λ x. leb c.least (n + x) && (leb (n + x) c.most && complete_by cs (drop x (k ∷ more)))) r
    ∙ ap (λ x. leb c.least x && (leb x c.most && complete_by cs (drop (run c.node more) more))) m

rem_past : (c : Child) (cs : List Child) (n : ℕ) (k : Node) (more : List Node) → is k c.node ≡ false → rem (c ∷ cs) n (k ∷ more) ≡ (leb c.least n && (leb n c.most && rem cs 0 (k ∷ more)))
rem_past c cs n k more s =
    let r : run c.node (k ∷ more) ≡ 0 = cond-false _ _ _ s in
    ap (λ x. leb c.least (n + x) && (leb (n + x) c.most && complete_by cs (drop x (k ∷ more)))) r
    ∙ ap (λ x. leb c.least x && (leb x c.most && complete_by cs (k ∷ more))) (add-zero n)
    ∙ ap (λ x. leb c.least n && (leb n c.most && x)) (rem_start cs (k ∷ more))

not_here : (c : Child) (name : List ℕ) (k : Node) → tag k ≡ name → same (tag c.node) name ≡ false → is k c.node ≡ false
not_here c name k t s = elim (cases_Bool (is k c.node)) [ inl h ↦ absurd (both_ways _ s ((same_decides (tag c.node) name).1 (ap tag (sym (is_same k c.node h)) ∙ t))) | inr h ↦ h ]

-- where no row takes a child, no list goes on from it
step_none : (cs : List Child) (i n : ℕ) (name : List ℕ) (k : Node) (more : List Node) → Only cs name k → tag k ≡ name → step cs i n name ≡ None → rem cs n (k ∷ more) ≡ false
step_none [] i n name k more o t e = refl
step_none (c ∷ cs) i n name k more o t e =
    elim (cases_Bool (same (tag c.node) name)) [
      | inl s ↦
          let f = sym (cond-true _ _ _ s) ∙ e in
          elim (cases_Bool (ltb n c.most)) [
            | inl l ↦ let g = sym (cond-true _ _ _ l) ∙ f in absurd (let z : ◌≡◌ {A = ℕ} 0 1 = cc in omega arith)
            | inr l ↦ let b : c.most ≤ n = ltb-false n c.most l in rem_here c cs n k more (o.0 s) ∙ and_right _ _ (and_left _ _ (lt-leb (n + 1 + run c.node more) c.most (omega arith)))
          ]
      | inr s ↦
          rem_past c cs n k more (not_here c name k t s)
          ∙ elim (cases_Bool (ltb n c.least)) [
            | inl l ↦ let b : n < c.least = ltb-true n c.least l in and_left _ _ (lt-leb _ _ b)
            | inr l ↦ and_right (leb c.least n) _ (and_right (leb n c.most) _ (step_none cs (i + 1) 0 name k more o.1 t (sym (cond-false _ _ _ l) ∙ sym (cond-false _ _ _ s) ∙ e)))
          ]
    ]

-- the row that takes a child
record Found (cs : List Child) (i n : ℕ) (k : Node) (s : Progress) : Type 0 where
  j : ℕ
  row : s.row ≡ i + j
  c : Child
  later : List Child
  here : drop j cs ≡ c ∷ later
  node : c.node ≡ k
  most : s.count ≤ c.most
  count : 0 < s.count
  goes : (more : List Node) → rem cs n (k ∷ more) ≡ rem (c ∷ later) s.count more

step_some : (cs : List Child) (i n : ℕ) (name : List ℕ) (k : Node) (s : Progress) → Only cs name k → tag k ≡ name → Room cs n → step cs i n name ≡ Some s → Found cs i n k s
step_some [] i n name k s o t r e = absurd (let z : ◌≡◌ {A = ℕ} 0 1 = cc in omega arith)
step_some (c ∷ cs) i n name k s o t r e =
    elim (cases_Bool (same (tag c.node) name)) [
      | inl h ↦
          let f = sym (cond-true _ _ _ h) ∙ e in
          elim (cases_Bool (ltb n c.most)) [
            | inl l ↦
                let b : n < c.most = ltb-true n c.most l in
                let g = sym (cond-true _ _ _ l) ∙ f in
                let q : progress i (n + 1) ≡ s = cc in
                subst (λ x. Found (c ∷ cs) i n k x) q (record { j = 0; row = sym (add-zero i); c = c; later = cs; here = refl; node = o.0 h; most = omega arith; count = omega arith; goes = λ more. rem_here c cs n k more (o.0 h) })
            | inr l ↦ let g = sym (cond-false _ _ _ l) ∙ f in absurd (let z : ◌≡◌ {A = ℕ} 0 1 = cc in omega arith)
          ]
      | inr h ↦
          let f = sym (cond-false _ _ _ h) ∙ e in
          elim (cases_Bool (ltb n c.least)) [
            | inl l ↦ let g = sym (cond-true _ _ _ l) ∙ f in absurd (let z : ◌≡◌ {A = ℕ} 0 1 = cc in omega arith)
            | inr l ↦
                let b : c.least ≤ n = ltb-false n c.least l in
                let x = step_some cs (i + 1) 0 name k s o.1 t (room_start cs) (sym (cond-false _ _ _ l) ∙ f) in
                record {
                  j = suc x.j;
                  row = omega (arith, x.row);
                  c = x.c;
                  later = x.later;
                  here = x.here;
                  node = x.node;
                  most = x.most;
                  count = x.count;
                  goes = λ more. rem_past c cs n k more (not_here c name k t h) ∙ ap (λ y. y && (leb n c.most && rem cs 0 (k ∷ more))) (le-leb _ _ b) ∙ ap (λ y. y && rem cs 0 (k ∷ more)) (le-leb _ _ r) ∙ x.goes more;
                }
          ]
    ]

-- a way to complete a list
abbrev copies : ℕ → Node → List Node → List Node
copies zero k r = r
copies (suc a) k r = k ∷ copies a k r

abbrev fill : List Child → ℕ → List Node
fill [] n = []
fill (c ∷ cs) n = copies (c.least - n) c.node (fill cs 0)

run_copies : (a : ℕ) (k : Node) (r : List Node) → run k r ≡ 0 → run k (copies a k r) ≡ a
run_copies zero k r h = h
run_copies (suc a) k r h = cond-true _ _ _ (is_self k) ∙ one-add _ ∙ ap suc (run_copies a k r h)

run_other : (a : ℕ) (j k : Node) (r : List Node) → is j k ≡ false → run k r ≡ 0 → run k (copies a j r) ≡ 0
run_other zero j k r s h = h
run_other (suc a) j k r s h = cond-false _ _ _ s

drop_copies : (a : ℕ) (k : Node) (r : List Node) → drop a (copies a k r) ≡ r
drop_copies zero k r = refl
drop_copies (suc a) k r = drop_copies a k r

run_fill : (c : Child) (ds : List Child) → apart c ds ≡ true → run c.node (fill ds 0) ≡ 0
run_fill c [] h = refl
run_fill c (d ∷ ds) h = let (u, v) = and_parts _ _ h in run_other (d.least - 0) d.node c.node (fill ds 0) (not-true _ u) (run_fill c ds (and_parts _ _ v).1)

fill_ok : (cs : List Child) (n : ℕ) → sound cs ≡ true → Room cs n → rem cs n (fill cs n) ≡ true
fill_ok [] n h r = refl
fill_ok (c ∷ cs) n h r =
    let (u, v) = and_parts _ _ h in
    let (w, x) = and_parts _ _ v in
    let b : c.least ≤ c.most = leb-true _ _ u in
    let q = run_copies (c.least - n) c.node (fill cs 0) (run_fill c cs w) in
    ap (λ y. leb c.least (n + y) && (leb (n + y) c.most && complete_by cs (drop y (fill (c ∷ cs) n)))) q
    ∙ and_from _ _ (le-leb c.least (n + (c.least - n)) (omega arith)) (and_from _ _ (le-leb (n + (c.least - n)) c.most (omega (arith, r))) (ap (complete_by cs) (drop_copies (c.least - n) c.node (fill cs 0)) ∙ rem_start cs (fill cs 0) ∙ fill_ok cs 0 x (room_start cs)))

-- the state of the walk and the children so far
pub record Track (p : Option Node) (sofar : List Node) (i n : ℕ) : Type 0 where
  pub agrees : (more : List Node) → complete_by (under p) (sofar ++ more) ≡ rem (drop i (under p)) n more
  pub room : Room (drop i (under p)) n
  pub counted : some_node sofar ≡ not (eqb n 0)

pub start : (p : Option Node) → Track p [] 0 0
start p = record { agrees = λ more. rem_start (under p) more; room = room_start (under p); counted = refl }

rem_enough : (cs : List Child) (n : ℕ) → Room cs n → rem cs n [] ≡ enough cs n
rem_enough [] n r = refl
rem_enough (c ∷ cs) n r =
    ap (λ x. leb c.least x && (leb x c.most && complete_by cs [])) (add-zero n)
    ∙ elim (cases_Bool (ltb n c.least)) [
      | inl l ↦ let b : n < c.least = ltb-true n c.least l in and_left _ _ (lt-leb _ _ b) ∙ sym (cond-true _ _ _ l)
      | inr l ↦ let b : c.least ≤ n = ltb-false n c.least l in ap (λ y. y && (leb n c.most && complete_by cs [])) (le-leb _ _ b) ∙ ap (λ y. y && complete_by cs []) (le-leb _ _ r) ∙ rem_start cs [] ∙ rem_enough cs 0 (room_start cs) ∙ sym (cond-false _ _ _ l)
    ]

want : (d w z : Bool) → (d && (not w || not z)) ≡ cond (w && z) false d
want true true true = refl
want true true false = refl
want true false true = refl
want true false false = refl
want false true true = refl
want false true false = refl
want false false true = refl
want false false false = refl

pub ended : (p : Option Node) (sofar : List Node) (i n : ℕ) → Track p sofar i n → complete p sofar ≡ finished p i n
ended None sofar i n t = ap (complete_by (under None)) (sym (append-nil sofar)) ∙ t.agrees [] ∙ rem_enough _ n t.room
ended (Some k) sofar i n t =
    ap (λ x. x && (not (needs_child k) || some_node sofar)) (ap (complete_by (under (Some k))) (sym (append-nil sofar)) ∙ t.agrees [] ∙ rem_enough _ n t.room)
    ∙ ap (λ x. enough (drop i (under (Some k))) n && (not (needs_child k) || x)) t.counted ∙ want _ (needs_child k) (eqb n 0)

some_more : (sofar : List Node) (k : Node) (more : List Node) → some_node (sofar ++ k ∷ more) ≡ true
some_more [] k more = refl
some_more (j ∷ js) k more = refl

whole : (p : Option Node) (sofar : List Node) (k : Node) (more : List Node) → complete p ((sofar ++ k ∷ []) ++ more) ≡ complete_by (under p) (sofar ++ k ∷ more)
whole None sofar k more = ap (complete_by (under None)) (append_assoc sofar (k ∷ []) more)
whole (Some j) sofar k more =
    ap (λ l. complete_by (under (Some j)) l && (not (needs_child j) || some_node l)) (append_assoc sofar (k ∷ []) more)
    ∙ ap (λ x. complete_by (under (Some j)) (sofar ++ k ∷ more) && (not (needs_child j) || x)) (some_more sofar k more)
    ∙ last (complete_by (under (Some j)) (sofar ++ k ∷ more)) (needs_child j)
  where
    last : (a b : Bool) → (a && (not b || true)) ≡ a
    last true true = refl
    last true false = refl
    last false true = refl
    last false false = refl

pub next : (p : Option Node) (sofar : List Node) (i n : ℕ) (name : List ℕ) (k : Node) → Track p sofar i n → placed p name ≡ Some k → Next Track p sofar i n name k
next p sofar i n name k t e = go (step (drop i (under p)) i n name) refl
  where
    known : Only (under p) name k × (tag k ≡ name)
    known = only_from (under p) name k (rows_sound p) e

    only : Only (drop i (under p)) name k
    only = only_drop (under p) name k i known.0

    go : (o : Option Progress) → step (drop i (under p)) i n name ≡ o → Next Track p sofar i n name k
    go None q = inl (q, λ b. both_ways (complete p ((sofar ++ k ∷ []) ++ b.0)) (whole p sofar k b.0 ∙ t.agrees (k ∷ b.0) ∙ step_none (drop i (under p)) i n name k b.0 only known.1 q) b.1)
    go (Some s) q =
        let x = step_some (drop i (under p)) i n name k s only known.1 t.room q in
        let at : drop s.row (under p) ≡ x.c ∷ x.later = ap (λ m. drop m (under p)) x.row ∙ sym (drop-drop x.j i (under p)) ∙ x.here in
        let dflt : Child = child Comprobante 0 0 in
        let here : get_or (under p) s.row (child Comprobante 0 0) ≡ x.c = ap (λ m. get_or (under p) m (child Comprobante 0 0)) (sym (add-zero s.row)) ∙ sym (get_or-drop s.row (under p) 0 (child Comprobante 0 0)) ∙ ap (λ l. get_or l 0 (child Comprobante 0 0)) at in
        let good : sound (x.c ∷ x.later) ≡ true = ap sound (sym at) ∙ sound_drop (under p) s.row (rows_sound p) in
        let more = fill (x.c ∷ x.later) s.count in
        inr (
          s,
          q,
          ap (λ y. y.node) here ∙ x.node,
          (more, whole p sofar k more ∙ t.agrees (k ∷ more) ∙ x.goes more ∙ fill_ok (x.c ∷ x.later) s.count good x.most),
          record {
            agrees = λ m. ap (complete_by (under p)) (append_assoc sofar (k ∷ []) m) ∙ t.agrees (k ∷ m) ∙ x.goes m ∙ ap (λ l. rem l s.count m) (sym at);
            room = subst (λ l. Room l s.count) (sym at) x.most;
            counted = some_more sofar k [] ∙ sym (ap not (ne_eqb s.count 0 (λ z. omega (arith, x.count))));
          },
        )
