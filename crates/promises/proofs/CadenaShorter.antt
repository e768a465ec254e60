-- A cadena is never longer than the fair copy of its values.
use Rattle.std.proofs.Common.{◌≡◌, ℕ, ◌+◌, ◌≤◌, Bool, true, false, cond, ◌&&◌, eqb, List, [], ◌∷◌, ◌++◌, length, Some, None, codes, Option, sym, refl, ◌∙◌, ⊎_elim, arith, length-append, eqb-true}
use Rattle.std.proofs.lemmas.Bool.{cond_both, and_parts, cases_Bool}
use Rattle.rules.specs.Markup.{Piece, plain, escaped, amp, lt, gt, quot, apos, piece_text, pieces_text, Attribute, some, attribute_text, attributes_text, Tag, tag_text, Content, text}
use Rattle.rules.specs.Schema.{Row, attributes, namespaces, tag, is, index}
use Rattle.rules.specs.Values.{Values, no_nodes, node, field}
use Rattle.rules.specs.Texts.{field_if, own_fields, own_attributes, all_children, parts, part_fields, fields, joined, cadena, piece, pieces, fair_attribute, fair_attributes, fixed_attributes, fair_tag, enclosed, fair, fair_copy}
use Rattle.rules.specs.declared.schema.Node.{Node}
use Rattle.rules.specs.declared.schema.Node.TheVariants.{Comprobante, Emisor, Receptor, Conceptos, Concepto, ConceptoImpuestos, ConceptoTraslados, ConceptoTraslado, ConceptoRetenciones, ConceptoRetencion, Impuestos, Retenciones, Retencion, Traslados, Traslado}
use Rattle.theory.proofs.SchemaLaws.{names_plain}
use Rattle.theory.proofs.ReadBack.{Whole}

-- the bytes that fields take in a cadena, each with a bar
abbrev weight : List (List ℕ) → ℕ
weight [] = 0
weight (x ∷ xs) = length x + 1 + weight xs

weight_append : (xs ys : List (List ℕ)) → weight (xs ++ ys) ≡ weight xs + weight ys
weight_append [] ys = omega arith
weight_append (x ∷ xs) ys = omega (arith, weight_append xs ys)

joined_weight : (fs : List (List ℕ)) → length (joined fs) ≤ weight fs
joined_weight [] = omega arith
joined_weight (x ∷ []) = omega arith
joined_weight (x ∷ y ∷ more) = omega (arith, joined_weight (y ∷ more), length-append x (124 ∷ joined (y ∷ more)))

-- a value with its escapes is as long at least
piece_long : (p : Piece) → 1 ≤ length (piece_text p)
piece_long (plain b) = omega arith
piece_long (escaped amp) = omega arith
piece_long (escaped lt) = omega arith
piece_long (escaped gt) = omega arith
piece_long (escaped quot) = omega arith
piece_long (escaped apos) = omega arith

pieces_long : (s : List ℕ) → length s ≤ length (pieces_text (pieces s))
pieces_long [] = omega arith
pieces_long (b ∷ s) = omega (arith, piece_long (piece b), pieces_long s, length-append (piece_text (piece b)) (pieces_text (pieces s)))

attribute_long : (n v : List ℕ) → length v + 1 ≤ length (attribute_text (fair_attribute n v))
attribute_long n v = let l = pieces_long v in simp length-append (omega arith)

-- an attribute that is present or not
abbrev shown : List ℕ → Option (List ℕ) → List Attribute
shown n None = []
shown n (Some v) = fair_attribute n v ∷ []

field_long : (b : Bool) (n : List ℕ) (o : Option (List ℕ)) → weight (field_if b o) ≤ length (attributes_text (shown n o))
field_long b n None = omega arith
field_long b n (Some v) = cond_both b (v ∷ []) [] (λ l. weight l ≤ length (attributes_text (shown n (Some v)))) (λ e. omega (arith, attribute_long n v, length-append (attribute_text (fair_attribute n v)) [])) (λ e. omega arith)

shown_more : (r : Row) (rs : List Row) (o : Option (List ℕ)) (s : List (Option (List ℕ))) → length (attributes_text (fair_attributes (r ∷ rs) (o ∷ s))) ≡ length (attributes_text (shown r.name o)) + length (attributes_text (fair_attributes rs s))
shown_more r rs None s = omega arith
shown_more r rs (Some v) s = simp length-append (omega arith)

own_long : (rs : List Row) (s : List (Option (List ℕ))) → weight (own_fields rs s) ≤ length (attributes_text (fair_attributes rs s))
own_long [] s = omega arith
own_long (r ∷ rs) [] = omega arith
own_long (r ∷ rs) (o ∷ s) = omega (arith, own_long rs s, field_long r.in_cadena r.name o, shown_more r rs o s, weight_append (field_if r.in_cadena o) (own_fields rs s))

-- the two totals of the invoice's own taxes
totals_long : (s : List (Option (List ℕ))) → weight (field_if true (field Impuestos (codes "TotalImpuestosRetenidos") s)) + weight (field_if true (field Impuestos (codes "TotalImpuestosTrasladados") s)) ≤ length (attributes_text (fair_attributes (attributes Impuestos) s))
totals_long [] = omega arith
totals_long (a ∷ []) = omega (arith, own_long (attributes Impuestos) (a ∷ []), weight_append (field_if true a) [])
totals_long (a ∷ b ∷ s) = omega (arith, own_long (attributes Impuestos) (a ∷ b ∷ s), weight_append (field_if true a) (field_if true b ++ []), weight_append (field_if true b) [])

-- two tests that no node passes both
abbrev Apart : (Node → Bool) → (Node → Bool) → Type 0
Apart p q = (k : Node) → (p k && q k) ≡ false

not_both : (n a b : ℕ) → (a ≡ b → ⊥) → (eqb n a && eqb n b) ≡ false
not_both n a b h = ⊎_elim (λ e. let (x, y) = and_parts (eqb n a) (eqb n b) e in absurd (h (sym (eqb-true n a x) ∙ eqb-true n b y))) (λ e. e) (cases_Bool (eqb n a && eqb n b))

-- what the nodes of two such tests give is no longer than the markup
abbrev Shorter : Values → Type 0
Shorter v = (p q : Node → Bool) → Apart p q → weight (fields p v) + weight (fields q v) ≤ length (text (fair v))

module _ (inside : Values) (short : Shorter inside) (s : List (Option (List ℕ))) where
  abbrev Given : Node → ℕ
  Given k = weight (part_fields k s (λ q. fields q inside) (parts k))

  abbrev Written : Node → ℕ
  Written k = length (attributes_text (fair_attributes (attributes k) s)) + length (text (fair inside))

  plain_parts : (k : Node) → weight (part_fields k s (λ q. fields q inside) (own_attributes ∷ all_children ∷ [])) ≤ Written k
  plain_parts k =
      let f : List (List ℕ) = fields (λ j. true) inside in
      let o : List (List ℕ) = own_fields (attributes k) s in
      omega (arith, own_long (attributes k) s, short (λ j. true) (λ j. false) (λ j. refl), weight_append o (f ++ []), weight_append f [])

  tax_parts : Given Impuestos ≤ Written Impuestos
  tax_parts =
      let a : List (List ℕ) = fields (λ i. is i Retenciones) inside in
      let b : List (List ℕ) = field_if true (field Impuestos (codes "TotalImpuestosRetenidos") s) in
      let c : List (List ℕ) = fields (λ i. is i Traslados) inside in
      let d : List (List ℕ) = field_if true (field Impuestos (codes "TotalImpuestosTrasladados") s) in
      let x = short (λ i. is i Retenciones) (λ i. is i Traslados) (λ i. not_both (index i) 11 13 (λ e. omega arith)) in
      omega (arith, x, totals_long s, weight_append a (b ++ (c ++ (d ++ []))), weight_append b (c ++ (d ++ [])), weight_append c (d ++ []), weight_append d [])

  parts_shorter : (k : Node) → Given k ≤ Written k
  parts_shorter Comprobante = plain_parts Comprobante
  parts_shorter Emisor = plain_parts Emisor
  parts_shorter Receptor = plain_parts Receptor
  parts_shorter Conceptos = plain_parts Conceptos
  parts_shorter Concepto = plain_parts Concepto
  parts_shorter ConceptoImpuestos = plain_parts ConceptoImpuestos
  parts_shorter ConceptoTraslados = plain_parts ConceptoTraslados
  parts_shorter ConceptoTraslado = plain_parts ConceptoTraslado
  parts_shorter ConceptoRetenciones = plain_parts ConceptoRetenciones
  parts_shorter ConceptoRetencion = plain_parts ConceptoRetencion
  parts_shorter Impuestos = tax_parts
  parts_shorter Retenciones = plain_parts Retenciones
  parts_shorter Retencion = plain_parts Retencion
  parts_shorter Traslados = plain_parts Traslados
  parts_shorter Traslado = plain_parts Traslado

some_long : (n : List ℕ) → some n ≡ true → 1 ≤ length n
some_long [] h = let z : ◌≡◌ {A = ℕ} 0 1 = cc in absurd (omega arith)
some_long (b ∷ n) h = omega arith

tag_long : (k : Node) → 1 ≤ length (tag k)
tag_long k = some_long (tag k) (and_parts _ _ (names_plain.tags k).is_name).0

attributes_append : (l m : List Attribute) → length (attributes_text (l ++ m)) ≡ length (attributes_text l) + length (attributes_text m)
attributes_append [] m = omega arith
attributes_append (a ∷ l) m = omega (arith, attributes_append l m, length-append (attribute_text a) (attributes_text (l ++ m)), length-append (attribute_text a) (attributes_text l))

enclosed_long : (t : Tag) (u : Values) (after : Content) → length (tag_text t) + 2 + length (text (fair u)) + length (text after) ≤ length (text (enclosed t u (fair u) after))
enclosed_long t no_nodes after = simp length-append (omega arith)
enclosed_long t (node k s i r) after = simp length-append (omega arith)

-- a node with what is inside it, and what follows
node_long : (k : Node) (s : List (Option (List ℕ))) (inside rest : Values) → length (attributes_text (fair_attributes (attributes k) s)) + length (text (fair inside)) + 4 + length (text (fair rest)) ≤ length (text (fair (node k s inside rest)))
node_long k s inside rest =
    let l : List Attribute = fixed_attributes (namespaces k) ++ fair_attributes (attributes k) s in
    let a = attributes_append (fixed_attributes (namespaces k)) (fair_attributes (attributes k) s) in
    let e = enclosed_long (fair_tag k s) inside (fair rest) in
    let n = tag_long k in
    let t : length (tag_text (fair_tag k s)) ≡ 1 + length (tag k) + length (attributes_text l) = simp length-append (omega arith) in
    omega arith

once : (a b : Bool) (fs : List (List ℕ)) → (a && b) ≡ false → weight (cond a fs []) + weight (cond b fs []) ≤ weight fs
once true true fs h = let z : ◌≡◌ {A = ℕ} 0 1 = cc in absurd (omega arith)
once true false fs h = omega arith
once false b fs h = cond_both b fs [] (λ l. 0 + weight l ≤ weight fs) (λ e. omega arith) (λ e. omega arith)

shorter : (v : Values) → Shorter v
shorter no_nodes p q h = omega arith
shorter (node k s inside rest) p q h =
    let g : List (List ℕ) = part_fields k s (λ j. fields j inside) (parts k) in
    let x = parts_shorter inside (shorter inside) s k in
    let y = shorter rest p q h in
    let o = once (p k) (q k) g (h k) in
    let n = node_long k s inside rest in
    omega (arith, weight_append (cond (p k) g []) (fields p rest), weight_append (cond (q k) g []) (fields q rest))

-- never longer
pub cadena_shorter : (v : Values) → Whole v → length (cadena v) ≤ length (fair_copy v)
cadena_shorter no_nodes w = let z = w.one in absurd (omega arith)
cadena_shorter (node k s inside rest) w =
    let v : Values = node k s inside rest in
    let g : List (List ℕ) = part_fields k s (λ j. fields j inside) (parts k) in
    let x = parts_shorter inside (shorter inside) s k in
    let y = shorter rest (λ j. true) (λ j. false) (λ j. refl) in
    let n = node_long k s inside rest in
    let j = joined_weight (fields (λ j. true) v) in
    omega (arith, weight_append g (fields (λ j. true) rest), length-append (joined (fields (λ j. true) v)) (124 ∷ 124 ∷ []))
