-- The tree of a fair copy and its nodes keep the rules that their values keep.
use Rattle.std.proofs.Common.{◌≡◌, ℕ, ◌+◌, Bool, true, not, ◌&&◌, ◌||◌, List, [], ◌∷◌, ◌++◌, length, is_some, Some, None, Option, sym, refl, ap, ◌∙◌, subst, append_assoc, append-nil}
use Rattle.std.proofs.lemmas.Bool.{and_parts, both_ways, false≢true}
use Rattle.rules.specs.Bytes.{all, same, Among}
use Rattle.rules.specs.Markup.{Attribute, tag_text}
use Rattle.rules.specs.Located.{Given, Elements, none, element, givens, located}
use Rattle.rules.specs.Kinds.{admits, keep, catalogue_of}
use Rattle.rules.specs.Schema.{Row, attributes, namespaces, tag, is}
use Rattle.rules.specs.Values.{Values, no_nodes, node, kept_of, slots, placed, with_node, values_under}
use Rattle.rules.specs.Texts.{fair_attribute, fair_attributes, fixed_attributes, only_text, fair_tag, fair}
use Rattle.rules.specs.Accounts.{rule_e}
use Rattle.rules.specs.Catalogues.{Facts}
use Rattle.rules.specs.Grounds.{rows, Standing, standing_here, standing_under, TreeFault, unknown, misplaced, in_child, past_child, unfinished, complete, Begins}
use Rattle.rules.specs.declared.grounds.Fault.{Fault}
use Rattle.rules.specs.declared.schema.Catalogue.{Catalogue}
use Rattle.rules.specs.declared.schema.Node.{Node}
use Rattle.rules.specs.declared.schema.Node.TheVariants.{ConceptoTraslado, Traslado}
use Rattle.theory.proofs.Options.{none_some, some_same}
use Rattle.theory.proofs.Lists.{Each, each_split, each_join}
use Rattle.theory.proofs.Bytes.{same_is}
use Rattle.theory.proofs.SchemaLaws.{at_node}
use Rattle.theory.proofs.ReadBack.{Fits, Conforms, slots_back}
use Rattle.theory.proofs.LawfulNodes.{InCatalogue, SlotOk, Clean, slot_ok}
use Rattle.theory.proofs.LawfulTree.{kinds, Inner}
use Rattle.theory.proofs.CopyNodes.{SlotsOk, clean_rows}

-- the tree
abbrev pub GoodTree : Option Node → List Node → Elements → Type 0
GoodTree p sofar none = complete p sofar ≡ true
GoodTree p sofar (element n i gs inside e rest) = (k : Node) × (placed p n ≡ Some k) × Begins p (sofar ++ k ∷ []) × GoodTree (Some k) [] inside × GoodTree p (sofar ++ k ∷ []) rest

-- a good tree has no fault
pub no_tree_fault : {p : Option Node} {sofar : List Node} {ends : ℕ} {es : Elements} {f : Fault} → TreeFault p sofar ends es f → GoodTree p sofar es → ⊥
no_tree_fault (unknown h) g = none_some h g.1
no_tree_fault {p} {sofar} (misplaced h b) g = b (subst (λ j. Begins p (sofar ++ j ∷ [])) (some_same g.1 h) g.2)
no_tree_fault (in_child {inside = inside} h b t) g = no_tree_fault t (subst (λ j. GoodTree (Some j) [] inside) (some_same g.1 h) g.3)
no_tree_fault {p} {sofar} (past_child {rest = rest} h b t) g = no_tree_fault t (subst (λ j. GoodTree p (sofar ++ j ∷ []) rest) (some_same g.1 h) g.4)
no_tree_fault (unfinished h) g = both_ways _ h g

-- the tree of a fair copy is good where its lists of children are complete
pub copy_tree : (v : Values) (p : Option Node) (sofar : List Node) (i : ℕ) → Conforms p v → complete p (sofar ++ kinds v) ≡ true → Inner v → GoodTree p sofar (located i (fair v))
copy_tree no_nodes p sofar i c h n = sym (ap (complete p) (append-nil sofar)) ∙ h
copy_tree (node k s no_nodes rest) p sofar i c h n =
    let q : complete p ((sofar ++ k ∷ []) ++ kinds rest) ≡ true = ap (complete p) (append_assoc sofar (k ∷ []) (kinds rest)) ∙ h in
    (k, c.0, (kinds rest, q), n.0, copy_tree rest p (sofar ++ k ∷ []) _ c.3 q n.2)
copy_tree (node k s (node j t a b) rest) p sofar i c h n =
    let q : complete p ((sofar ++ k ∷ []) ++ kinds rest) ≡ true = ap (complete p) (append_assoc sofar (k ∷ []) (kinds rest)) ∙ h in
    (k, c.0, (kinds rest, q), copy_tree (node j t a b) (Some k) [] _ c.2 n.0 n.1, copy_tree rest p (sofar ++ k ∷ []) _ c.3 q n.2)

-- the nodes
abbrev pub transfer : Node → Bool
transfer k = is k ConceptoTraslado || is k Traslado

-- what may be asked of a node by its slots
abbrev pub OfSlots : Type 1
OfSlots = Node → List (Option (List ℕ)) → Type 0

-- rule E, where it speaks of the node
abbrev pub KeepsE : OfSlots
KeepsE k s = transfer k ≡ true → rule_e k s ≡ true

-- a node has no fault of names or values, and what is asked of its slots holds
abbrev pub RulesKept : Facts → OfSlots → Standing → Type 0
RulesKept facts Q s = Clean facts s × Q s.kind (slots (attributes s.kind) s.givens)

-- the slots of each node keep the rules
abbrev pub Admitted : Facts → OfSlots → Values → Type 0
Admitted facts Q no_nodes = Unit {0}
Admitted facts Q (node k s inside rest) = SlotsOk facts (attributes k) s × Q k s × Admitted facts Q inside × Admitted facts Q rest

-- the slots of rows that each keep the rules
slots_ok : (facts : Facts) (gs : List Given) (rs : List Row) → ((r : Row) → Among r rs → SlotOk facts r (kept_of r gs)) → SlotsOk facts rs (slots rs gs)
slots_ok facts gs [] f = tt
slots_ok facts gs (r ∷ rs) f = (f r ([], rs, refl), slots_ok facts gs rs (λ q a. f q (r ∷ a.0, a.1, ap (λ l. r ∷ l) a.2)))

-- nodes without faults have slots that keep the rules
pub admitted_from : (facts : Facts) (Q : OfSlots) (es : Elements) (p : Option Node) → Each (RulesKept facts Q) (standing_under p es) → Admitted facts Q (values_under p es)
admitted_from facts Q none p c = tt
admitted_from facts Q (element n i gs inside e rest) p c = go (placed p n) c (λ k. admitted_from facts Q inside (Some k)) (admitted_from facts Q rest p)
  where
    go : (o : Option Node) → Each (RulesKept facts Q) (standing_here o i gs (λ k. standing_under (Some k) inside) ++ standing_under p rest) →
        ((k : Node) → Each (RulesKept facts Q) (standing_under (Some k) inside) → Admitted facts Q (values_under (Some k) inside)) →
        (Each (RulesKept facts Q) (standing_under p rest) → Admitted facts Q (values_under p rest)) → Admitted facts Q (with_node o gs (λ k. values_under (Some k) inside) (values_under p rest))
    go None c f g = g c
    go (Some k) c f g =
        let s : Standing = record { kind = k; at = i; givens = gs } in
        let (a, b) = each_split (RulesKept facts Q) (standing_under (Some k) inside) (standing_under p rest) c.1 in
        (slots_ok facts gs (attributes k) (λ r m. slot_ok facts s c.0.0 r (namespaces k ++ m.0, m.1, ap (λ l. namespaces k ++ l) m.2 ∙ sym (append_assoc (namespaces k) m.0 (r ∷ m.1)))), c.0.1, f k a, g b)

-- the fixed attributes are slots too
abbrev fixed_slots : List Row → List (Option (List ℕ))
fixed_slots [] = []
fixed_slots (r ∷ ns) = Some (only_text r.kind) ∷ fixed_slots ns

fixed_as_slots : (ns rs : List Row) (s : List (Option (List ℕ))) → fair_attributes (ns ++ rs) (fixed_slots ns ++ s) ≡ fixed_attributes ns ++ fair_attributes rs s
fixed_as_slots [] rs s = refl
fixed_as_slots (r ∷ ns) rs s = ap (λ l. fair_attribute r.name (only_text r.kind) ∷ l) (fixed_as_slots ns rs s)

-- a fixed text is admitted, is no code, and is its own kept form
abbrev fixed_fine : Row → Bool
fixed_fine r = admits r.kind (only_text r.kind) && (not (is_some (catalogue_of r.kind)) && same (keep r.kind (only_text r.kind)) (only_text r.kind))

-- the fixed attributes of each node are so
fixed_law : (k : Node) → all fixed_fine (namespaces k) ≡ true
fixed_law = at_node (λ k. all fixed_fine (namespaces k)) refl

-- what is in no catalogue need be in none
in_none : (facts : Facts) (o : Option Catalogue) (x : List ℕ) → not (is_some o) ≡ true → InCatalogue facts o x
in_none facts None x h = tt
in_none facts (Some c) x h = absurd (false≢true h)

-- the slots of all rows keep the rules, the fixed ones too
slots_all : (facts : Facts) (ns rs : List Row) (s : List (Option (List ℕ))) → all fixed_fine ns ≡ true → SlotsOk facts rs s → SlotsOk facts (ns ++ rs) (fixed_slots ns ++ s)
slots_all facts [] rs s h k = k
slots_all facts (r ∷ ns) rs s h k =
    let (u, w) = and_parts (fixed_fine r) _ h in
    let (a, b) = and_parts (admits r.kind (only_text r.kind)) _ u in
    let (c, d) = and_parts (not (is_some (catalogue_of r.kind))) _ b in
    ((a, in_none facts (catalogue_of r.kind) _ c, same_is _ _ d), slots_all facts ns rs s w k)

-- one such node
node_rules : (facts : Facts) (Q : OfSlots) (k : Node) (s : List (Option (List ℕ))) (at i : ℕ) → Fits (attributes k) s → SlotsOk facts (attributes k) s → Q k s → RulesKept facts Q (record { kind = k; at = at; givens = givens i (fair_tag k s).attributes })
node_rules facts Q k s at i f h e =
    let C : List Attribute → Type 0 = λ l. Clean facts (record { kind = k; at = at; givens = givens i l }) in
    let c : C (fair_attributes (rows k) (fixed_slots (namespaces k) ++ s)) = clean_rows facts k (fixed_slots (namespaces k) ++ s) (slots_all facts (namespaces k) (attributes k) s (fixed_law k) h) at i in
    (subst C (fixed_as_slots (namespaces k) (attributes k) s) c, subst (Q k) (sym (slots_back k i s f)) e)

-- a node, those inside it and those after it
stood_rules : (facts : Facts) (Q : OfSlots) (p : Option Node) (k : Node) (n : List ℕ) (at : ℕ) (gs : List Given) (es : Elements) (more : List Standing) → placed p n ≡ Some k → RulesKept facts Q (record { kind = k; at = at; givens = gs }) → Each (RulesKept facts Q) (standing_under (Some k) es) → Each (RulesKept facts Q) more →
    Each (RulesKept facts Q) (standing_here (placed p n) at gs (λ j. standing_under (Some j) es) ++ more)
stood_rules facts Q p k n at gs es more h a b c =
    let P : Option Node → Type 0 = λ o. Each (RulesKept facts Q) (standing_here o at gs (λ j. standing_under (Some j) es) ++ more) in
    let q : P (Some k) = (a, each_join (RulesKept facts Q) (standing_under (Some k) es) more b c) in
    subst P (sym h) q

-- the nodes of a fair copy keep the rules that their slots keep
pub copy_standing : (facts : Facts) (Q : OfSlots) (v : Values) (p : Option Node) (i : ℕ) → Conforms p v → Admitted facts Q v → Each (RulesKept facts Q) (standing_under p (located i (fair v)))
copy_standing facts Q no_nodes p i c a = tt
copy_standing facts Q (node k s no_nodes rest) p i c a =
    stood_rules facts Q p k (tag k) _ _ none _ c.0 (node_rules facts Q k s _ _ c.1 a.0 a.1) tt (copy_standing facts Q rest p (i + 0 + length (tag_text (fair_tag k s)) + 2) c.3 a.3)
copy_standing facts Q (node k s (node j t x y) rest) p i c a =
    stood_rules facts Q p k (tag k) _ _ _ _ c.0 (node_rules facts Q k s _ _ c.1 a.0 a.1) (copy_standing facts Q (node j t x y) (Some k) _ c.2 a.2) (copy_standing facts Q rest p _ c.3 a.3)
