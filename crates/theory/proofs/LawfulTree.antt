-- What it says of the tree of a document that nothing is found in its tree, its names and its values, put positively.
use Rattle.std.proofs.Common.{◌≡◌, ℕ, ◌≤◌, true, leb, List, [], ◌∷◌, ◌++◌, length, drop, Some, None, Option, sym, refl, ap, ◌∙◌, subst, ⊎_elim, append_assoc, append-nil, arith}
use Rattle.std.proofs.lemmas.Bool.{and_parts, leb-true, cases_Bool, false≢true}
use Rattle.rules.specs.Bytes.{Among}
use Rattle.rules.specs.Markup.{Document, Marks}
use Rattle.rules.specs.Located.{Given, Elements, none, element, elements_of}
use Rattle.rules.specs.Kinds.{keep}
use Rattle.rules.specs.Schema.{Row, attributes, namespaces}
use Rattle.rules.specs.Values.{Values, no_nodes, node, kept_of, slots, placed, with_node, values_under, values_of}
use Rattle.rules.specs.Texts.{fair_copy}
use Rattle.rules.specs.Catalogues.{Facts}
use Rattle.rules.specs.Grounds.{Standing, standing_here, standing_under, standing, TreeFault, unknown, misplaced, in_child, past_child, unfinished, complete, complete_by, run, tree, names, values, Lawful}
use Rattle.rules.specs.declared.grounds.Fault.{Fault}
use Rattle.rules.specs.declared.schema.Node.{Node}
use Rattle.rules.specs.declared.schema.Node.TheVariants.{Comprobante}
use Rattle.theory.proofs.Lists.{Each, each_from, each_split}
use Rattle.theory.proofs.KindLaws.{keep_keep}
use Rattle.theory.proofs.ReadBack.{Fits, Conforms, roots, Whole}
use Rattle.theory.proofs.Shorter.{Sound, copy_shorter, placed_tag}
use Rattle.theory.proofs.LawfulNodes.{Clean, slot_ok, fixed_here, fixed_rows, given_or_absent}

-- the nodes side by side
abbrev pub kinds : Values → List Node
kinds no_nodes = []
kinds (node k s inside rest) = k ∷ kinds rest

-- every list of children is complete
abbrev pub Inner : Values → Type 0
Inner no_nodes = Unit {0}
Inner (node k s inside rest) = (complete (Some k) (kinds inside) ≡ true) × Inner inside × Inner rest

-- each element stands in its place
abbrev pub Placed : Option Node → Elements → Type 0
Placed p none = Unit {0}
Placed p (element n i gs inside e rest) = (k : Node) × (placed p n ≡ Some k) × Placed (Some k) inside × Placed p rest

-- the nodes so far with these are complete, and so is every list below
abbrev pub Grows : Option Node → List Node → Values → Type 0
Grows p sofar v = (complete p (sofar ++ kinds v) ≡ true) × Inner v

-- the tree layer finds nothing
abbrev pub NoFault : Option Node → List Node → ℕ → Elements → Type 0
NoFault p sofar ends es = (f : Fault) → TreeFault p sofar ends es f → ⊥

-- where the tree layer finds nothing, each element is in its place and each list is complete
pub tree_good : (es : Elements) (p : Option Node) (sofar : List Node) (ends : ℕ) → NoFault p sofar ends es → Placed p es × Grows p sofar (values_under p es)
tree_good none p sofar ends nf = (tt, (ap (complete p) (append-nil sofar) ∙ ⊎_elim (λ e. e) (λ e. absurd (nf _ (unfinished e))) (cases_Bool (complete p sofar)), tt))
tree_good (element n i gs inside e rest) p sofar ends nf =
    go (placed p n) refl (λ k. tree_good inside (Some k) [] e) (λ k. tree_good rest p (sofar ++ k ∷ []) ends)
  where
    go : (o : Option Node) → placed p n ≡ o → ((k : Node) → NoFault (Some k) [] e inside → Placed (Some k) inside × Grows (Some k) [] (values_under (Some k) inside)) →
        ((k : Node) → NoFault p (sofar ++ k ∷ []) ends rest → Placed p rest × Grows p (sofar ++ k ∷ []) (values_under p rest)) →
        Placed p (element n i gs inside e rest) × Grows p sofar (values_under p (element n i gs inside e rest))
    go None h f g = absurd (nf _ (unknown h))
    go (Some k) h f g =
        let (a, b) = f k (λ x t. nf _ (misplaced h (λ w. nf x (in_child h w t)))) in
        let (c, d) = g k (λ x t. nf _ (misplaced h (λ w. nf x (past_child h w t)))) in
        let w : Values = values_under p rest in
        let q : complete p (sofar ++ k ∷ kinds w) ≡ true = ap (complete p) (sym (append_assoc sofar (k ∷ []) (kinds w))) ∙ d.0 in
        let v : Values = node k (slots (attributes k) gs) (values_under (Some k) inside) w in
        let good : Grows p sofar v = (q, (b.0, b.1, d.1)) in
        let e' : v ≡ values_under p (element n i gs inside e rest) = ap (λ o. with_node o gs (λ j. values_under (Some j) inside) w) (sym h) in
        ((k, h, a, c), subst (Grows p sofar) e' good)

-- elements in their places without faults are sound
sound_from : (facts : Facts) (es : Elements) (p : Option Node) → Placed p es → Each (Clean facts) (standing_under p es) → Sound p es
sound_from facts none p h c = tt
sound_from facts (element n i gs inside e rest) p h c =
    let k : Node = h.0 in
    let s : Standing = record { kind = k; at = i; givens = gs } in
    let P : Option Node → Type 0 = λ o. Each (Clean facts) (standing_here o i gs (λ j. standing_under (Some j) inside) ++ standing_under p rest) in
    let c' : Each (Clean facts) (s ∷ (standing_under (Some k) inside ++ standing_under p rest)) = subst P h.1 c in
    let (a, b) = each_split (Clean facts) (standing_under (Some k) inside) (standing_under p rest) c'.1 in
    (k, h.1, fixed_here facts s c'.0 (namespaces k) (attributes k) (fixed_rows k) (slot_ok facts s c'.0), sound_from facts inside (Some k) h.2 a, sound_from facts rest p h.3 b)

-- values of elements conform, whatever the elements
kept_slot : (r : Row) (gs : List Given) (x : List ℕ) → kept_of r gs ≡ Some x → keep r.kind x ≡ x
kept_slot r gs x h =
    ⊎_elim
    (λ f. let a = f.0 in let z : ◌≡◌ {A = ℕ} 0 1 = cc in absurd (omega arith))
    (λ f. let a = f.3 in let e : keep r.kind f.0.value ≡ x = cc in subst (λ y. keep r.kind y ≡ y) e (keep_keep r.kind f.0.value))
    (given_or_absent r gs)

-- one more slot fits
fits_more : (r : Row) (rs : List Row) (s : List (Option (List ℕ))) (o : Option (List ℕ)) → ((x : List ℕ) → o ≡ Some x → keep r.kind x ≡ x) → Fits rs s → Fits (r ∷ rs) (o ∷ s)
fits_more r rs s None f h = h
fits_more r rs s (Some x) f h = (f x refl, h)

-- the slots of a tag fit its rows
slots_fit : (rs : List Row) (gs : List Given) → Fits rs (slots rs gs)
slots_fit [] gs = tt
slots_fit (r ∷ rs) gs = fits_more r rs (slots rs gs) (kept_of r gs) (kept_slot r gs) (slots_fit rs gs)

values_conform : (es : Elements) (p : Option Node) → Conforms p (values_under p es)
values_conform none p = tt
values_conform (element n i gs inside e rest) p = go (placed p n) refl (λ k. values_conform inside (Some k)) (values_conform rest p)
  where
    go : (o : Option Node) → placed p n ≡ o → ((k : Node) → Conforms (Some k) (values_under (Some k) inside)) → Conforms p (values_under p rest) → Conforms p (with_node o gs (λ k. values_under (Some k) inside) (values_under p rest))
    go None h f c = c
    go (Some k) h f c = (ap (placed p) (placed_tag p n k h) ∙ h, slots_fit (attributes k) gs, f k, c)

-- a complete document has one root
one_root : (v : Values) → complete None (kinds v) ≡ true → roots v ≡ 1
one_root no_nodes h = absurd (false≢true h)
one_root (node k s inside no_nodes) h = refl
one_root (node k s inside (node j t a b)) h =
    let r : ℕ = run Comprobante (k ∷ j ∷ kinds b) in
    let (h₁, h₂) = and_parts (leb 1 r) _ h in
    let (h₃, h₄) = and_parts (leb r 1) _ h₂ in
    absurd (two r (leb-true 1 r h₁) (leb-true r 1 h₃) h₄)
  where
    two : (r : ℕ) → 1 ≤ r → r ≤ 1 → complete_by [] (drop r (k ∷ j ∷ kinds b)) ≡ true → ⊥
    two r a c h = let e : r ≡ 1 = omega arith in false≢true (ap (λ x. complete_by [] (drop x (k ∷ j ∷ kinds b))) (sym e) ∙ h)

-- nothing is found in the tree of a document, and in the names and values of its nodes
pub record Clear (facts : Facts) (d : List ℕ) (m : Document) : Type 0 where
  pub in_order : NoFault None [] (length d) (elements_of m)
  pub clean_nodes : (s : Standing) → Among s (standing (elements_of m)) → Clean facts s

-- what that says, put positively
pub record Good (facts : Facts) (m : Document) : Type 0 where
  pub sound : Sound None (elements_of m)
  pub grows : Grows None [] (values_of (elements_of m))
  pub clean : Each (Clean facts) (standing (elements_of m))

pub clear_good : (facts : Facts) (d : List ℕ) (m : Document) → Clear facts d m → Good facts m
clear_good facts d m c =
    let (a, b) = tree_good (elements_of m) None [] (length d) c.in_order in
    let e : Each (Clean facts) (standing (elements_of m)) = each_from (Clean facts) (standing (elements_of m)) c.clean_nodes in
    record { sound = sound_from facts (elements_of m) None a e; grows = b; clean = e }

-- such a document has whole values
pub clear_whole : (facts : Facts) (d : List ℕ) (m : Document) → Clear facts d m → Whole (values_of (elements_of m))
clear_whole facts d m c = record { one = one_root _ (clear_good facts d m c).grows.0; conforms = values_conform (elements_of m) None }

-- its fair copy is never longer
pub clear_shorter : (facts : Facts) (d : List ℕ) (m : Document) → Clear facts d m → Marks d m → length (fair_copy (values_of (elements_of m))) ≤ length d
clear_shorter facts d m c h = rw (← h.1) (copy_shorter m h.0 (clear_good facts d m c).sound)

-- a lawful document is such a one
pub lawful_clear : (facts : Facts) (d : List ℕ) (m : Document) → Lawful facts d → Marks d m → Clear facts d m
lawful_clear facts d m l h = record { in_order = λ f t. l f (tree m f h t); clean_nodes = λ s i. (λ f n. l f (names m s f h i n), λ f n. l f (values m s f h i n)) }

-- so a lawful document is good
pub lawful_good : (facts : Facts) (d : List ℕ) (m : Document) → Lawful facts d → Marks d m → Good facts m
lawful_good facts d m l h = clear_good facts d m (lawful_clear facts d m l h)

-- it has whole values
pub lawful_whole : (facts : Facts) (d : List ℕ) (m : Document) → Lawful facts d → Marks d m → Whole (values_of (elements_of m))
lawful_whole facts d m l h = clear_whole facts d m (lawful_clear facts d m l h)

-- and its fair copy is never longer
pub never_longer : (facts : Facts) (d : List ℕ) (m : Document) → Lawful facts d → Marks d m → length (fair_copy (values_of (elements_of m))) ≤ length d
never_longer facts d m l h = clear_shorter facts d m (lawful_clear facts d m l h) h
