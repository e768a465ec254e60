-- The fields of what is met in a document are those of its values.
use Rattle.std.proofs.Common.{◌≡◌, ℕ, ◌+◌, Bool, true, false, not, ◌&&◌, ◌||◌, leb, ◌⊎◌, List, [], ◌∷◌, ◌++◌, length, drop, Some, None, Option, sym, refl, ap, ◌∙◌, subst, inl, inr, ⊎_elim, append_assoc, append-nil, arith}
use Rattle.std.proofs.lemmas.Bool.{and_parts, or_cases, cond-true, cond-false, leb-true, not-true, false≢true}
use Rattle.rules.specs.Located.{Given, Elements, none, element, elements_of}
use Rattle.rules.specs.Markup.{Document}
use Rattle.rules.specs.Schema.{Child, child, attributes, is}
use Rattle.rules.specs.Values.{Values, slots, placed, with_node, values_under, values_of}
use Rattle.rules.specs.Texts.{field_if, own_fields, own_attributes, all_children, parts, part_fields, fields}
use Rattle.rules.specs.Grounds.{run, complete_by, complete}
use Rattle.rules.specs.declared.schema.Node.{Node}
use Rattle.rules.specs.declared.schema.Node.TheVariants.{Comprobante, Impuestos, Retenciones, Traslados}
use Rattle.theory.proofs.LawfulTree.{Placed, Inner, kinds, tree_good}
use Rattle.theory.proofs.SchemaLaws.{at_node, is_same}
use Rattle.theory.specs.Schema.{parent}
use Rattle.walk.specs.Events.{start, Occurrence, opened, closed, met_at, met_under, met}
use Rattle.walk.specs.Coming.{InOrder}
use Rattle.walk.proofs.Entering.{placed_parent}
use Rattle.original.specs.Totals.{Totals, no_totals, totals_of, opened_fields, opened_totals, met_fields, met_totals}

-- the fields of all that is met
abbrev pub all_fields : Totals → List Occurrence → List (List ℕ)
all_fields t [] = []
all_fields t (o ∷ os) = met_fields t o ++ all_fields (met_totals t o) os

-- the fields of all nodes of some values
abbrev every : Values → List (List ℕ)
every v = fields (λ k. true) v

-- the document's own level, or the Comprobante's
abbrev high : Option Node → Bool
high None = true
high (Some k) = is k Comprobante

-- the level of the invoice's taxes
abbrev taxes : Option Node → Bool
taxes None = false
taxes (Some k) = is k Impuestos

-- no total is written at a level or below
abbrev calm : Option Node → Bool
calm p = not (high p) && not (taxes p)

-- a node whose fields are its own and then those of its children
abbrev plain : Node → Bool
plain k = not (is k Impuestos) && not (is k Traslados)

-- one fact follows from another
abbrev follows : Bool → Bool → Bool
follows a b = not a || b

follow : (a b : Bool) → follows a b ≡ true → a ≡ true → b ≡ true
follow true b h e = h
follow false b h e = absurd (false≢true e)

below_calm : (k : Node) → calm (parent k) ≡ true → (plain k && calm (Some k)) ≡ true
below_calm k = follow _ _ (at_node (λ j. follows (calm (parent j)) (plain j && calm (Some j))) refl k)

below_high : (k : Node) → high (parent k) ≡ true → ((plain k && (high (Some k) || calm (Some k))) || is k Impuestos) ≡ true
below_high k = follow _ _ (at_node (λ j. follows (high (parent j)) ((plain j && (high (Some j) || calm (Some j))) || is j Impuestos)) refl k)

below_taxes : (k : Node) → taxes (parent k) ≡ true → (is k Retenciones || is k Traslados) ≡ true
below_taxes k = follow _ _ (at_node (λ j. follows (taxes (parent j)) (is j Retenciones || is j Traslados)) refl k)

-- a node and what stands in it give their fields, and leave the totals t
abbrev Says : Totals → Totals → Node → List ℕ → ℕ → List Given → Elements → List Occurrence → Type 0
Says t u k n i gs inside more =
    all_fields t (opened (start k n i gs inside) ∷ met_under (Some k) inside (closed k ∷ more))
    ≡ part_fields k (slots (attributes k) gs) (λ q. fields q (values_under (Some k) inside)) (parts k) ++ all_fields u more

-- a plain node, whose children leave the totals
plain_says : (t : Totals) (k : Node) (n : List ℕ) (i : ℕ) (gs : List Given) (inside : Elements) (more : List Occurrence) → plain k ≡ true →
    all_fields t (met_under (Some k) inside (closed k ∷ more)) ≡ every (values_under (Some k) inside) ++ all_fields t (closed k ∷ more) → Says t t k n i gs inside more
plain_says t k n i gs inside more h f =
    let (a, b) = and_parts _ _ h in
    let x : is k Impuestos ≡ false = not-true _ a in
    let y : is k Traslados ≡ false = not-true _ b in
    let own : List (List ℕ) = own_fields (attributes k) (slots (attributes k) gs) in
    let v : Values = values_under (Some k) inside in
    let first : opened_fields t k gs ≡ own = cond-false _ _ _ x ∙ cond-false _ _ _ y in
    let stay : opened_totals t k gs ≡ t = cond-false _ _ _ x ∙ cond-false _ _ _ y in
    let shut : all_fields t (closed k ∷ more) ≡ all_fields t more = λ j. cond-false (is k Impuestos) (field_if true t.retained ++ field_if true t.transferred) [] x j ++ all_fields (cond-false (is k Impuestos) no_totals t x j) more in
    let right : part_fields k (slots (attributes k) gs) (λ q. fields q v) (parts k) ≡ own ++ (every v ++ []) = ap (part_fields k (slots (attributes k) gs) (λ q. fields q v)) (cond-false (is k Impuestos) _ (own_attributes ∷ all_children ∷ []) x) in
    (λ j. first j ++ all_fields (stay j) (met_under (Some k) inside (closed k ∷ more)))
    ∙ ap (λ l. own ++ l) (f ∙ ap (λ l. every v ++ l) shut)
    ∙ regroup own (every v) (all_fields t more)
    ∙ ap (λ l. l ++ all_fields t more) (sym right)
  where
    regroup : (x y z : List (List ℕ)) → x ++ (y ++ z) ≡ (x ++ (y ++ [])) ++ z
    regroup x y z = sym (append_assoc x y z) ∙ ap (λ l. (x ++ l) ++ z) (sym (append-nil y))

-- an element before others
beside : (t u : Totals) (p : Option Node) (n : List ℕ) (i : ℕ) (gs : List Given) (inside : Elements) (e : ℕ) (rest : Elements) (k : Node) (more : List Occurrence) → placed p n ≡ Some k →
    Says t u k n i gs inside (met_under p rest more) → all_fields u (met_under p rest more) ≡ every (values_under p rest) ++ all_fields u more →
    all_fields t (met_under p (element n i gs inside e rest) more) ≡ every (values_under p (element n i gs inside e rest)) ++ all_fields u more
beside t u p n i gs inside e rest k more q s f =
    let part : List (List ℕ) = part_fields k (slots (attributes k) gs) (λ q. fields q (values_under (Some k) inside)) (parts k) in
    let w : Values = values_under p rest in
    ap (λ o. all_fields t (met_at o (λ j. opened (start j n i gs inside) ∷ met_under (Some j) inside (closed j ∷ met_under p rest more)) (met_under p rest more))) q
    ∙ s
    ∙ ap (λ l. part ++ l) f
    ∙ sym (append_assoc part (every w) (all_fields u more))
    ∙ ap (λ o. every (with_node o gs (λ j. values_under (Some j) inside) w) ++ all_fields u more) (sym q)

-- at a calm level the totals are left
quiet : (es : Elements) (p : Option Node) (t : Totals) (more : List Occurrence) → calm p ≡ true → Placed p es → all_fields t (met_under p es more) ≡ every (values_under p es) ++ all_fields t more
quiet none p t more c h = refl
quiet (element n i gs inside e rest) p t more c (k, q, a, b) =
    let (x, y) = and_parts _ _ (below_calm k (ap calm (placed_parent p n k q) ∙ c)) in
    beside t t p n i gs inside e rest k more q (plain_says t k n i gs inside (met_under p rest more) x (quiet inside (Some k) t (closed k ∷ met_under p rest more) y a)) (quiet rest p t more c b)

-- the children of the invoice's taxes
abbrev Level : Option Node
Level = Some Impuestos

-- no more children
alone : (es : Elements) (p : Option Node) → Placed p es → complete_by [] (kinds (values_under p es)) ≡ true → es ≡ none
alone none p h c = refl
alone (element n i gs inside e rest) p (k, q, a, b) c =
    absurd (false≢true (ap (λ o. complete_by [] (kinds (with_node o gs (λ j. values_under (Some j) inside) (values_under p rest)))) (sym q) ∙ c))

-- one child of a kind, and then what may follow it
one_then : (k : Node) (cs : List Child) (ks : List Node) → is k k ≡ true → complete_by (child k 0 1 ∷ cs) (k ∷ ks) ≡ true → complete_by cs ks ≡ true
one_then k cs ks s h =
    let r : ℕ = run k (k ∷ ks) in
    let e : r ≡ 1 + run k ks = cond-true _ _ _ s in
    let (u, v) = and_parts (leb r 1) _ (and_parts (leb 0 r) _ h).1 in
    let low : r ≡ 1 = omega (arith, leb-true r 1 u) in
    ap (λ x. complete_by cs (drop x (k ∷ ks))) (sym low) ∙ v

-- the fields of the withheld and of the transferred taxes
abbrev withheld : Values → List (List ℕ)
withheld v = fields (λ i. is i Retenciones) v

abbrev passed : Values → List (List ℕ)
passed v = fields (λ i. is i Traslados) v

-- what the transferred taxes and the totals give, before the fields m
abbrev closing : Totals → Values → List (List ℕ) → List (List ℕ)
closing t v m = field_if true t.retained ++ (passed v ++ (field_if true t.transferred ++ m))

one_transfer : (t : Totals) (n : List ℕ) (i : ℕ) (gs : List Given) (inside : Elements) (e : ℕ) (more : List Occurrence) → placed Level n ≡ Some Traslados → Placed (Some Traslados) inside →
    (all_fields t (met_under Level (element n i gs inside e none) (closed Impuestos ∷ more)) ≡ closing t (values_under Level (element n i gs inside e none)) (all_fields no_totals more))
    × (withheld (values_under Level (element n i gs inside e none)) ≡ [])
one_transfer t n i gs inside e more q a =
    let v : Values = values_under (Some Traslados) inside in
    let t' : Totals = record { retained = None; transferred = t.transferred } in
    let m : List (List ℕ) = field_if true t.transferred ++ all_fields no_totals more in
    let tail : every v ++ m ≡ ((every v ++ []) ++ []) ++ m = ap (λ l. l ++ m) (sym (append-nil (every v)) ∙ sym (append-nil (every v ++ []))) in (
      ap (λ o. all_fields t (met_at o (λ j. opened (start j n i gs inside) ∷ met_under (Some j) inside (closed j ∷ closed Impuestos ∷ more)) (closed Impuestos ∷ more))) q
          ∙ ap (λ l. field_if true t.retained ++ l) (quiet inside (Some Traslados) t' (closed Traslados ∷ closed Impuestos ∷ more) refl a ∙ tail)
          ∙ ap (λ o. closing t (with_node o gs (λ j. values_under (Some j) inside) (values_under Level none)) (all_fields no_totals more)) (sym q),
      ap (λ o. withheld (with_node o gs (λ j. values_under (Some j) inside) (values_under Level none))) q,
    )

-- which child of the invoice's taxes a name means
which : (n : List ℕ) (k : Node) → placed Level n ≡ Some k → (k ≡ Retenciones) ⊎ (k ≡ Traslados)
which n k q = ⊎_elim (λ x. inl (is_same k Retenciones x)) (λ y. inr (is_same k Traslados y)) (or_cases _ _ (below_taxes k (ap taxes (placed_parent Level n k q))))

-- at most one Traslados, and then the end of the taxes
transfers : (es : Elements) (t : Totals) (more : List Occurrence) → Placed Level es → complete_by (child Traslados 0 1 ∷ []) (kinds (values_under Level es)) ≡ true →
    (all_fields t (met_under Level es (closed Impuestos ∷ more)) ≡ closing t (values_under Level es) (all_fields no_totals more)) × (withheld (values_under Level es) ≡ [])
transfers none t more h c = (append_assoc (field_if true t.retained) (field_if true t.transferred) (all_fields no_totals more), refl)
transfers (element n i gs inside e rest) t more (k, q, a, b) c =
    let w : Values = values_under Level rest in
    let counted : (j : Node) → k ≡ j → complete_by (child Traslados 0 1 ∷ []) (j ∷ kinds w) ≡ true = λ j x. ap (λ o. complete_by (child Traslados 0 1 ∷ []) (kinds (with_node o gs (λ j. values_under (Some j) inside) w))) (sym (q ∙ ap Some x)) ∙ c in
    ⊎_elim
    (λ x. absurd (false≢true (counted Retenciones x)))
    (λ y.
    let last : rest ≡ none = alone rest Level b (one_then Traslados [] (kinds w) refl (counted Traslados y)) in
    let P : Elements → Type 0 = λ r. (all_fields t (met_under Level (element n i gs inside e r) (closed Impuestos ∷ more)) ≡ closing t (values_under Level (element n i gs inside e r)) (all_fields no_totals more)) × (withheld (values_under Level (element n i gs inside e r)) ≡ []) in
    subst P (sym last) (one_transfer t n i gs inside e more (q ∙ ap Some y) (subst (λ j. Placed (Some j) inside) y a)))
    (which n k q)

-- at most one Retenciones, then at most one Traslados, and then the end of the taxes
taxed : (es : Elements) (t : Totals) (more : List Occurrence) → Placed Level es → complete_by (child Retenciones 0 1 ∷ child Traslados 0 1 ∷ []) (kinds (values_under Level es)) ≡ true →
    all_fields t (met_under Level es (closed Impuestos ∷ more)) ≡ withheld (values_under Level es) ++ closing t (values_under Level es) (all_fields no_totals more)
taxed none t more h c = (transfers none t more tt refl).0
taxed (element n i gs inside e rest) t more (k, q, a, b) c =
    let w : Values = values_under Level rest in
    let m : List (List ℕ) = all_fields no_totals more in
    let counted : (j : Node) → k ≡ j → complete_by (child Retenciones 0 1 ∷ child Traslados 0 1 ∷ []) (j ∷ kinds w) ≡ true = λ j x. ap (λ o. complete_by (child Retenciones 0 1 ∷ child Traslados 0 1 ∷ []) (kinds (with_node o gs (λ j. values_under (Some j) inside) w))) (sym (q ∙ ap Some x)) ∙ c in
    ⊎_elim
    (λ x.
    let v : Values = values_under (Some Retenciones) inside in
    let part : List (List ℕ) = part_fields Retenciones (slots (attributes Retenciones) gs) (λ q. fields q v) (parts Retenciones) in
    let later = transfers rest t more b (one_then Retenciones (child Traslados 0 1 ∷ []) (kinds w) refl (counted Retenciones x)) in
    ap (λ o. all_fields t (met_at o (λ j. opened (start j n i gs inside) ∷ met_under (Some j) inside (closed j ∷ met_under Level rest (closed Impuestos ∷ more))) (met_under Level rest (closed Impuestos ∷ more)))) (q ∙ ap Some x)
    ∙ plain_says t Retenciones n i gs inside (met_under Level rest (closed Impuestos ∷ more)) refl (quiet inside (Some Retenciones) t _ refl (subst (λ j. Placed (Some j) inside) x a))
    ∙ ap (λ l. part ++ l) later.0
    ∙ ap (λ l. l ++ closing t w m) (sym (append-nil part) ∙ ap (λ l. part ++ l) (sym later.1))
    ∙ ap (λ o. withheld (with_node o gs (λ j. values_under (Some j) inside) w) ++ closing t (with_node o gs (λ j. values_under (Some j) inside) w) m) (sym (q ∙ ap Some x)))
    (λ y.
    let v : Values = values_under Level (element n i gs inside e rest) in
    let all = transfers (element n i gs inside e rest) t more (k, q, a, b) (ap (λ o. complete_by (child Traslados 0 1 ∷ []) (kinds (with_node o gs (λ j. values_under (Some j) inside) w))) (q ∙ ap Some y) ∙ counted Traslados y) in
    all.0 ∙ ap (λ l. l ++ closing t v m) (sym all.1))
    (which n k q)

-- the invoice's taxes
taxes_say : (n : List ℕ) (i : ℕ) (gs : List Given) (inside : Elements) (more : List Occurrence) → Placed Level inside → complete Level (kinds (values_under Level inside)) ≡ true → Says no_totals no_totals Impuestos n i gs inside more
taxes_say n i gs inside more a c =
    let v : Values = values_under Level inside in
    taxed inside (totals_of gs) more a (and_parts _ _ c).0 ∙ regroup (withheld v) (field_if true (totals_of gs).retained) (passed v) (field_if true (totals_of gs).transferred) (all_fields no_totals more)
  where
    regroup : (a b c d m : List (List ℕ)) → a ++ (b ++ (c ++ (d ++ m))) ≡ (a ++ (b ++ (c ++ (d ++ [])))) ++ m
    regroup a b c d m = simp append_assoc

-- from the document's own level down
from_high : (es : Elements) (p : Option Node) (more : List Occurrence) → high p ≡ true → Placed p es → Inner (values_under p es) → all_fields no_totals (met_under p es more) ≡ every (values_under p es) ++ all_fields no_totals more
from_high none p more h a s = refl
from_high (element n i gs inside e rest) p more h (k, q, a, b) s =
    let s' : Inner (with_node (Some k) gs (λ j. values_under (Some j) inside) (values_under p rest)) = subst (λ o. Inner (with_node o gs (λ j. values_under (Some j) inside) (values_under p rest))) q s in
    let later = from_high rest p more h b s'.2 in
    let next : List Occurrence = met_under p rest more in
    ⊎_elim
    (λ x.
    let (x₁, x₂) = and_parts _ _ x in
    let inner = ⊎_elim (λ y. from_high inside (Some k) (closed k ∷ next) y a s'.1) (λ y. quiet inside (Some k) no_totals (closed k ∷ next) y a) (or_cases _ _ x₂) in
    beside no_totals no_totals p n i gs inside e rest k more q (plain_says no_totals k n i gs inside next x₁ inner) later)
    (λ x.
    let z : k ≡ Impuestos = is_same k Impuestos x in
    let says = taxes_say n i gs inside next (subst (λ j. Placed (Some j) inside) z a) (subst (λ j. complete (Some j) (kinds (values_under (Some j) inside)) ≡ true) z s'.0) in
    beside no_totals no_totals p n i gs inside e rest Impuestos more (q ∙ ap Some z) says later)
    (or_cases _ _ (below_high k (ap high (placed_parent p n k q) ∙ h)))

-- the fields of what is met in a document in order
pub fields_met : (d : List ℕ) (m : Document) → InOrder d m → all_fields no_totals (met m) ≡ fields (λ k. true) (values_of (elements_of m))
fields_met d m good =
    let (a, b) = tree_good (elements_of m) None [] (length d) good in
    from_high (elements_of m) None [] refl a b.1 ∙ append-nil _
