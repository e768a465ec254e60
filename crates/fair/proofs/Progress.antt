-- A text of which a part is written and the rest is left.
use Rattle.std.proofs.Common.{◌≡◌, ℕ, Bool, true, false, List, [], ◌++◌, sym, refl, ◌∙◌, subst, append_assoc, append-nil}
use Rattle.sinks.specs.Writers.{Writing, Written}
use Rattle.sinks.proofs.Sending.{nothing_written, then, cut, passed_on}

module _ {W : Type 0} (w : Writing W) where
  -- of a whole text, all but the rest is written
  pub record Left (a : W) (whole rest : List ℕ) (b : W) : Type 0 where
    pub sofar : List ℕ
    pub written : Written w a sofar true b
    pub shown : sofar ++ rest ≡ whole

module _ {W : Type 0} {w : Writing W} where
  -- nothing is written yet
  pub all_left : {a : W} {whole : List ℕ} → Left w a whole whole a
  all_left = record { sofar = []; written = nothing_written; shown = refl }

  -- the rest may be told otherwise
  pub left_as : {a b : W} {whole rest rest' : List ℕ} → rest ≡ rest' → Left w a whole rest b → Left w a whole rest' b
  left_as {a} {b} {whole} e p = subst (λ r. Left w a whole r b) e p

  module _ {a b c : W} {whole xs : List ℕ} where
    -- the next part is written
    pub more_written : {rest : List ℕ} → Written w b xs true c → Left w a whole (xs ++ rest) b → Left w a whole rest c
    more_written {rest} q p = record { sofar = p.sofar ++ xs; written = then p.written q; shown = append_assoc p.sofar xs rest ∙ p.shown }

    -- the rest is written, or refused at a byte
    pub rest_written : {all : Bool} → Written w b xs all c → Left w a whole xs b → Written w a whole all c
    rest_written {all} q p = subst (λ t. Written w a t all c) p.shown (then p.written q)

    -- a byte of the next part is refused
    pub refused : {all : Bool} → all ≡ false → (rest : List ℕ) → Written w b xs false c → Left w a whole (xs ++ rest) b → Written w a whole all c
    refused no' rest q p = passed_on no' (subst (λ t. Written w a t false c) (append_assoc p.sofar xs rest ∙ p.shown) (cut (then p.written q) rest))

  -- nothing is left
  pub none_left : {a b : W} {whole : List ℕ} → Left w a whole [] b → Written w a whole true b
  none_left {a} {b} p = subst (λ t. Written w a t true b) (sym (append-nil p.sofar) ∙ p.shown) p.written
