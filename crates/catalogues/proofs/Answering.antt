-- What the set of a catalogue text answers.
use Rattle.std.proofs.Common.{◌≡◌, ℕ, ◌-◌, ◌<◌, ◌≤◌, true, leb, List, ◌∷◌, ◌++◌, length, get_or, Some, None, Err, Option, sym, refl, ap, ◌∙◌, subst, arith}
use Rattle.std.proofs.lemmas.List.{take_all}
use Rattle.std.proofs.lemmas.Bool.{and_parts, leb-true}
use Rattle.rules.specs.Bytes.{Among, all}
use Rattle.rules.specs.Kinds.{code_ok, length_in, alphanumeric}
use Rattle.rules.specs.Catalogues.{catalogue_name, ended_lines, CatalogueFinds, facts_of, fact_text, Holds}
use Rattle.rules.specs.declared.grounds.Fault.{Fault}
use Rattle.rules.specs.declared.schema.Catalogue.{Catalogue}
use Rattle.theory.proofs.CatalogueLaws.{knows_what_it_holds as knows}
use Rattle.catalogues.specs.Lines.{line_at, key_of, key_at, asked, last_of, Within, InOrder}
use Rattle.catalogues.specs.Ordered.{key_in, Indexed, Sought}
use Rattle.catalogues.proofs.FactLines.{asked_is, fact_key, fact_last, fact_told}
use Rattle.catalogues.proofs.Places.{line_before, placed}
use Rattle.catalogues.proofs.Indexing.{absent}
use Rattle.catalogues.proofs.FirstFault.{no_faults, fact_after_header}

-- an answer that holds of no number is nothing
nothing : (o : Option ℕ) → ((n : ℕ) → o ≡ Some n → ⊥) → o ≡ None
nothing None h = refl
nothing (Some n) h = absurd (h n refl)

module _ (t : List ℕ) (c : Catalogue) (s : List ℕ) where
  pub bad_answers : (((f : Fault) → CatalogueFinds t f → ⊥) → ⊥) → facts_of t c s ≡ None
  bad_answers x = nothing (facts_of t c s) (λ n e. x ((knows t c s n).1 e).0)

  pub long_answers : 10 < length s → facts_of t c s ≡ None
  long_answers h = nothing (facts_of t c s) (λ n e. go n ((knows t c s n).1 e))
    where
      go : (n : ℕ) → Holds t c s n → ⊥
      go n x =
          let k : code_ok x.1.key ≡ true = (and_parts (code_ok x.1.key) (leb x.1.decimals 6) x.3).0 in
          let l : length_in 1 10 x.1.key ≡ true = (and_parts (length_in 1 10 x.1.key) (all alphanumeric x.1.key) k).0 in
          let m : length x.1.key ≤ 10 = leb-true (length x.1.key) 10 (and_parts (leb 1 (length x.1.key)) (leb (length x.1.key) 10) l).1 in
          let e : length x.1.key ≡ length s = ap length x.5 in
          omega arith

  module _ (o : InOrder t (length t)) where
    pub found_answers : (p : ℕ) → Within t (length t) p → key_at t p ≡ asked c s → facts_of t c s ≡ Some (last_of (line_at t p) - 48)
    found_answers p w e =
        let (f, u, v) = fact_told (line_at t p) (o.facts p w) in
        let m = (line_before t p (length t) w.0 o.begins w.2 o.inside).1 in
        let m' : Among (fact_text f) (ended_lines t) = subst (λ l. Among l (ended_lines t)) v (subst (λ x. Among (line_at t p) (ended_lines x)) (take_all (length t) t (omega arith)) m) in
        let (a, b) = asked_is f.catalogue c f.key s (sym (ap key_of v ∙ fact_key f) ∙ e) in
        (knows t c s f.decimals).0 (no_faults t t (length t) o refl refl, f, m', u, a, b, refl) ∙ ap Some (sym (fact_last f) ∙ ap (λ l. last_of l - 48) (sym v))

    pub none_answers : ((p : ℕ) → Within t (length t) p → key_at t p ≡ asked c s → ⊥) → facts_of t c s ≡ None
    none_answers h = nothing (facts_of t c s) (λ n e. go n ((knows t c s n).1 e))
      where
        go : (n : ℕ) → Holds t c s n → ⊥
        go n x =
            let g = x.1 in
            let a = placed x.2.0 t (fact_text g) x.2.1 x.2.2 in
            let p = fact_after_header t (length t) o g x.2.0 x.2.1 x.3 x.2.2 in
            let i = x.4 in
            let j = x.5 in
            h _ (a.begins, p, omega (arith, a.ended)) (ap key_of a.line ∙ fact_key g ∙ (λ k. asked (i k) (j k)))

-- what is answered from the index of a whole text, where the key of a catalogue's name and a code was sought
module _ (t u : List ℕ) (at : ℕ) (index : List ℕ) (n : ℕ) (o : InOrder u at) (x : Indexed u at index n) (same : u ≡ t) (whole : at ≡ length t) (c : Catalogue) (name s : List ℕ) (named : name ≡ catalogue_name c) where
  to_end : InOrder t (length t) × Indexed t (length t) index n
  to_end = subst (λ m. InOrder t m × Indexed t m index n) whole (subst (λ z. InOrder z at × Indexed z at index n) same (o, x))

  asked_key : name ++ 124 ∷ s ≡ asked c s
  asked_key = ap (λ k. k ++ 124 ∷ s) named

  pub found_in : (i : ℕ) → i < n → key_in u index i ≡ name ++ 124 ∷ s → Some (last_of (line_at t (get_or index i 0)) - 48) ≡ facts_of t c s
  found_in i l k = sym (found_answers t c s to_end.0 (get_or index i 0) (to_end.1.lists i l) (subst (λ z. key_in z index i ≡ name ++ 124 ∷ s) same k ∙ asked_key))

  pub none_in : (place : ℕ) → Sought u index n (name ++ 124 ∷ s) (Err place) → None ≡ facts_of t c s
  none_in place k =
      let sought : Sought t index n (asked c s) (Err place) = subst (λ y. Sought t index n y (Err place)) asked_key (subst (λ z. Sought z index n (name ++ 124 ∷ s) (Err place)) same k) in
      sym (none_answers t c s to_end.0 (absent t (length t) index (asked c s) n place to_end.1.covers sought))
