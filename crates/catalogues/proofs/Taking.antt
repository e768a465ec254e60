-- What comes of the next line of a text in order, as it is read.
use Rattle.std.proofs.Common.{◌≡◌, ℕ, ◌+◌, ◌<◌, true, false, List, length, get_or, Err, sym, ap, ◌∙◌, subst, ⊎_elim, arith}
use Rattle.std.proofs.lemmas.Bool.{cases_lt}
use Rattle.rules.specs.Catalogues.{CatalogueFirst}
use Rattle.rules.specs.declared.grounds.Fault.TheVariants.{BadCatalogueLine}
use Rattle.catalogues.specs.Lines.{line_at, key_of, key_at, fact_line, InOrder}
use Rattle.catalogues.specs.Ordered.{key_in, Indexed, Sought, Inserted}
use Rattle.catalogues.proofs.FirstFault.{first_unended, first_no_fact, first_repeated, onward}
use Rattle.catalogues.proofs.Indexing.{room_left, absent, grown}
use Rattle.catalogues.proofs.Places.{line_inside}

module _ (t line : List ℕ) (at : ℕ) (o : InOrder t at) (e : line ≡ line_at t at) where
  same_length : length line ≡ length (line_at t at)
  same_length = ap length e

  pub told_unended : at < length t → at + length line ≡ length t → CatalogueFirst t (BadCatalogueLine at)
  told_unended h q = first_unended t at o h (omega (arith, same_length))

  module _ (n : at + length line ≡ length t → ⊥) where
    ended : at + length (line_at t at) < length t
    ended =
        let i = line_inside t at o.inside in
        ⊎_elim (λ x. x) (λ x. absurd (n (omega (arith, same_length)))) (cases_lt (at + length (line_at t at)) (length t))

    pub told_no_fact : fact_line line ≡ false → CatalogueFirst t (BadCatalogueLine at)
    told_no_fact f = first_no_fact t at o ended (ap fact_line (sym e) ∙ f)

    module _ (f : fact_line line ≡ true) (key : List ℕ) (k : key_of line ≡ key) (index : List ℕ) (count : ℕ) (x : Indexed t at index count) where
      fact_here : fact_line (line_at t at) ≡ true
      fact_here = ap fact_line (sym e) ∙ f

      key_here : key ≡ key_at t at
      key_here = sym k ∙ ap key_of e

      pub told_repeated : (i : ℕ) → i < count → key_in t index i ≡ key → CatalogueFirst t (BadCatalogueLine at)
      told_repeated i l q = first_repeated t at o ended fact_here (get_or index i 0) (x.lists i l) (q ∙ key_here)

      pub room_there : count + 1 < 4096
      room_there = room_left t at o ended index count x

      module _ (place : ℕ) (s : Sought t index count key (Err place)) where
        sought : Sought t index count (key_at t at) (Err place)
        sought = subst (λ k. Sought t index count k (Err place)) key_here s

        pub order_next : InOrder t (at + length line + 1)
        order_next = subst (λ m. InOrder t (at + m + 1)) (sym same_length) (onward t at o ended fact_here (absent t at index (key_at t at) count place x.covers sought))

        pub indexed_next : (longer : List ℕ) → Inserted count place at index longer → Indexed t (at + length line + 1) longer (count + 1)
        indexed_next longer y = subst (λ m. Indexed t (at + m + 1) longer (count + 1)) (sym same_length) (grown t at o ended index count x place longer sought y)
