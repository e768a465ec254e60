-- The lines that tell facts, and their keys.
use Rattle.std.proofs.Common.{◌≡◌, ℕ, ◌+◌, ◌-◌, ◌<◌, ◌≤◌, true, eqb, leb, List, [], ◌∷◌, ◌++◌, length, get_or, drop, is_some, Some, None, Option, sym, refl, ap, ◌∙◌, subst, ⊎_elim, append_assoc, arith, length-append}
use Rattle.std.specs.Int.{is_in_range}
use Rattle.std.proofs.lemmas.Bool.{cond_both, cond-false, and_parts, and_from, not-true, cases_Bool, false≢true, leb-true, le-leb, eqb-true, eq-eqb}
use Rattle.std.proofs.lemmas.List.{take_at, get_or_at, take-append-drop, drop_more, drop_all}
use Rattle.rules.specs.Bytes.{all, same, no_bar}
use Rattle.rules.specs.Kinds.{code_ok}
use Rattle.rules.specs.Catalogues.{catalogue_name, Fact, fact_ok, fact_text, before_bar, after_bar, catalogues, named_among}
use Rattle.rules.specs.declared.schema.Catalogue.{Catalogue}
use Rattle.rules.specs.declared.schema.Catalogue.TheVariants.{FormaPago, Moneda, TipoDeComprobante, Exportacion, MetodoPago, CodigoPostal, RegimenFiscal, ResidenciaFiscal, UsoCFDI, ClaveProdServ, ClaveUnidad, ObjetoImp, Impuesto, TipoFactor}
use Rattle.theory.proofs.Bytes.{same_is}
use Rattle.catalogues.specs.Lines.{key_of, asked, last_of, is_named, pair_ok, fact_line}

-- names of catalogues have no bar, and each is found by its own name
name_law : (c : Catalogue) → (all no_bar (catalogue_name c) ≡ true) × (named_among catalogues (catalogue_name c) ≡ Some c)
name_law FormaPago = (refl, refl)
name_law Moneda = (refl, refl)
name_law TipoDeComprobante = (refl, refl)
name_law Exportacion = (refl, refl)
name_law MetodoPago = (refl, refl)
name_law CodigoPostal = (refl, refl)
name_law RegimenFiscal = (refl, refl)
name_law ResidenciaFiscal = (refl, refl)
name_law UsoCFDI = (refl, refl)
name_law ClaveProdServ = (refl, refl)
name_law ClaveUnidad = (refl, refl)
name_law ObjetoImp = (refl, refl)
name_law Impuesto = (refl, refl)
name_law TipoFactor = (refl, refl)

cut_before : (n r : List ℕ) → all no_bar n ≡ true → before_bar (n ++ 124 ∷ r) ≡ n
cut_before [] r h = refl
cut_before (b ∷ n) r h = let (u, v) = and_parts (no_bar b) _ h in cond-false (eqb b 124) _ _ (not-true _ u) ∙ ap (λ x. b ∷ x) (cut_before n r v)

cut_after : (n r : List ℕ) → all no_bar n ≡ true → after_bar (n ++ 124 ∷ r) ≡ r
cut_after [] r h = refl
cut_after (b ∷ n) r h = let (u, v) = and_parts (no_bar b) _ h in cond-false (eqb b 124) _ _ (not-true _ u) ∙ cut_after n r v

named_is : (cs : List Catalogue) (n : List ℕ) (c : Catalogue) → named_among cs n ≡ Some c → catalogue_name c ≡ n
named_is [] n c e = absurd (let z : ◌≡◌ {A = ℕ} 0 1 = cc in omega arith)
named_is (d ∷ cs) n c e =
    cond_both (same (catalogue_name d) n) (Some d) (named_among cs n) (λ x. x ≡ Some c → catalogue_name c ≡ n)
    (λ h x. let q : d ≡ c = cc in ap catalogue_name (sym q) ∙ same_is _ _ h)
    (λ h x. named_is cs n c x) e

-- keys tell their catalogue and code
asked_before : (c : Catalogue) (s : List ℕ) → before_bar (asked c s) ≡ catalogue_name c
asked_before c s = cut_before (catalogue_name c) s (name_law c).0

asked_after : (c : Catalogue) (s : List ℕ) → after_bar (asked c s) ≡ s
asked_after c s = cut_after (catalogue_name c) s (name_law c).0

pub asked_is : (c d : Catalogue) (s r : List ℕ) → asked c s ≡ asked d r → (c ≡ d) × (s ≡ r)
asked_is c d s r e =
    let n : catalogue_name c ≡ catalogue_name d = sym (asked_before c s) ∙ ap before_bar e ∙ asked_before d r in
    let q : Some c ≡ Some d = sym (name_law c).1 ∙ ap (named_among catalogues) n ∙ (name_law d).1 in
    let k : s ≡ r = sym (asked_after c s) ∙ ap after_bar e ∙ asked_after d r in
    (cc, k)

asked_ok : (c : Catalogue) (s : List ℕ) → code_ok s ≡ true → pair_ok (asked c s) ≡ true
unfolding is_named
asked_ok c s h =
    let n : named_among catalogues (before_bar (asked c s)) ≡ Some c = ap (named_among catalogues) (asked_before c s) ∙ (name_law c).1 in
    and_from (is_named (before_bar (asked c s))) (code_ok (after_bar (asked c s))) (ap is_some n) (ap code_ok (asked_after c s) ∙ h)

bar_split : (k : List ℕ) → 0 < length (after_bar k) → k ≡ before_bar k ++ 124 ∷ after_bar k
bar_split [] h = absurd (omega arith)
bar_split (b ∷ k) h =
    ⊎_elim
    (λ e. let q : b ≡ 124 = eqb-true b 124 e in rw (e, q))
    (λ e. let g : 0 < length (after_bar k) = subst (λ x. 0 < length x) (cond-false (eqb b 124) _ _ e) h in rw e (ap (λ x. b ∷ x) (bar_split k g)))
    (cases_Bool (eqb b 124))

pair_is : (k : List ℕ) → pair_ok k ≡ true → (c : Catalogue) × (s : List ℕ) × (code_ok s ≡ true) × (k ≡ asked c s)
unfolding is_named
pair_is k h = go (named_among catalogues (before_bar k)) refl (and_parts _ (code_ok (after_bar k)) h).0
  where
    go : (o : Option Catalogue) → named_among catalogues (before_bar k) ≡ o → is_some o ≡ true → (c : Catalogue) × (s : List ℕ) × (code_ok s ≡ true) × (k ≡ asked c s)
    go None e x = absurd (false≢true x)
    go (Some c) e x =
        let v = (and_parts (is_named (before_bar k)) _ h).1 in
        let g : 0 < length (after_bar k) = leb-true _ _ (and_parts _ _ (and_parts _ _ v).0).0 in
        (c, after_bar k, v, bar_split k g ∙ ap (λ n. n ++ 124 ∷ after_bar k) (sym (named_is catalogues _ c e)))

-- the last two bytes of a line
module _ (k : List ℕ) (x y : ℕ) where
  two_more : length (k ++ x ∷ y ∷ []) ≡ length k + 2
  two_more = length-append k (x ∷ y ∷ [])

  pub key_before : key_of (k ++ x ∷ y ∷ []) ≡ k
  key_before = take_at k _ _ (omega (arith, two_more))

  pub last_but_one : get_or (k ++ x ∷ y ∷ []) (length (k ++ x ∷ y ∷ []) - 2) 0 ≡ x
  last_but_one = get_or_at k x _ 0 _ (omega (arith, two_more))

  pub last_is : last_of (k ++ x ∷ y ∷ []) ≡ y
  last_is =
      ap (λ l. get_or l (length (k ++ x ∷ y ∷ []) - 1) 0) (sym (append_assoc k (x ∷ []) (y ∷ [])))
      ∙ get_or_at (k ++ x ∷ []) y [] 0 _ (omega (arith, two_more, length-append k (x ∷ [])))

last_two : (l : List ℕ) → 2 ≤ length l → l ≡ key_of l ++ get_or l (length l - 2) 0 ∷ last_of l ∷ []
last_two l h =
    let n : ℕ = length l - 2 in
    let a : n < length l = omega arith in
    let b : n + 1 < length l = omega arith in
    let e : n + 1 ≡ length l - 1 = omega arith in
    sym (take-append-drop n l)
    ∙ ap (λ z. key_of l ++ z) (drop_more l n 0 a ∙ ap (λ z. get_or l n 0 ∷ z) (drop_more l (n + 1) 0 b ∙ (λ i. get_or l (e i) 0 ∷ drop (n + 1 + 1) l) ∙ ap (λ z. last_of l ∷ z) (drop_all (n + 1 + 1) l (omega arith))))

text_is : (f : Fact) → fact_text f ≡ asked f.catalogue f.key ++ 124 ∷ (48 + f.decimals) ∷ []
text_is f = sym (append_assoc (catalogue_name f.catalogue) (124 ∷ f.key) _)

-- a line tells a fact exactly when the test holds
pub fact_tested : (f : Fact) → fact_ok f ≡ true → fact_line (fact_text f) ≡ true
fact_tested f h =
    let (u, v) = and_parts (code_ok f.key) _ h in
    let k : List ℕ = asked f.catalogue f.key in
    let n : f.decimals ≤ 6 = leb-true _ _ v in
    let lo : 48 ≤ 48 + f.decimals = omega arith in
    let hi : 48 + f.decimals ≤ 54 = omega arith in
    subst (λ l. fact_line l ≡ true) (sym (text_is f))
    (and_from _ _ (le-leb _ _ (omega (arith, two_more k 124 (48 + f.decimals))))
    (and_from _ _ (eq-eqb _ _ (last_but_one k 124 (48 + f.decimals)))
    (and_from _ _ (ap (is_in_range 48 54) (last_is k 124 (48 + f.decimals)) ∙ and_from _ _ (le-leb _ _ lo) (le-leb _ _ hi))
    (ap pair_ok (key_before k 124 (48 + f.decimals)) ∙ asked_ok f.catalogue f.key u))))

pub fact_key : (f : Fact) → key_of (fact_text f) ≡ asked f.catalogue f.key
fact_key f = ap key_of (text_is f) ∙ key_before (asked f.catalogue f.key) 124 (48 + f.decimals)

pub fact_last : (f : Fact) → last_of (fact_text f) - 48 ≡ f.decimals
fact_last f = let e : last_of (fact_text f) ≡ 48 + f.decimals = ap last_of (text_is f) ∙ last_is (asked f.catalogue f.key) 124 (48 + f.decimals) in omega arith

pub two_bytes : (l : List ℕ) → fact_line l ≡ true → 2 ≤ length l
two_bytes l h = leb-true _ _ (and_parts _ _ h).0

pub digit_from : (l : List ℕ) → fact_line l ≡ true → 48 ≤ last_of l
digit_from l h =
    let (_, h₁) = and_parts (leb 2 (length l)) _ h in
    let (_, h₂) = and_parts (eqb (get_or l (length l - 2) 0) 124) _ h₁ in
    let (d, _) = and_parts (is_in_range 48 54 (last_of l)) _ h₂ in
    leb-true _ _ (and_parts (leb 48 (last_of l)) _ d).0

pub fact_told : (l : List ℕ) → fact_line l ≡ true → (f : Fact) × (fact_ok f ≡ true) × (l ≡ fact_text f)
fact_told l h =
    let (a, h₁) = and_parts (leb 2 (length l)) _ h in
    let (b, h₂) = and_parts (eqb (get_or l (length l - 2) 0) 124) _ h₁ in
    let (d, p) = and_parts (is_in_range 48 54 (last_of l)) (pair_ok (key_of l)) h₂ in
    let (c, s, o, e) = pair_is (key_of l) p in
    let f : Fact = record { catalogue = c; key = s; decimals = last_of l - 48 } in
    let x : get_or l (length l - 2) 0 ≡ 124 = eqb-true _ _ b in
    let (n, y) = digit_is (last_of l) d in
    (f, and_from (code_ok s) _ o (le-leb _ _ n), last_two l (leb-true 2 (length l) a) ∙ (λ i. e i ++ x i ∷ y i ∷ []) ∙ sym (text_is f))
  where
    digit_is : (b : ℕ) → is_in_range 48 54 b ≡ true → (b - 48 ≤ 6) × (b ≡ 48 + (b - 48))
    digit_is b h =
        let (u, v) = and_parts (leb 48 b) (leb b 54) h in
        let lo = leb-true 48 b u in
        let hi = leb-true b 54 v in
        (omega arith, omega arith)

-- the longest name has 17 bytes
pub name_short : (c : Catalogue) → length (catalogue_name c) ≤ 17
name_short FormaPago = omega arith
name_short Moneda = omega arith
name_short TipoDeComprobante = omega arith
name_short Exportacion = omega arith
name_short MetodoPago = omega arith
name_short CodigoPostal = omega arith
name_short RegimenFiscal = omega arith
name_short ResidenciaFiscal = omega arith
name_short UsoCFDI = omega arith
name_short ClaveProdServ = omega arith
name_short ClaveUnidad = omega arith
name_short ObjetoImp = omega arith
name_short Impuesto = omega arith
name_short TipoFactor = omega arith
