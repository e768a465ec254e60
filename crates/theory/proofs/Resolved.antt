-- A value as it is written, with each escape resolved, is the text that its pieces mean.
use Rattle.std.proofs.Common.{◌≡◌, ℕ, true, false, eqb, List, [], ◌∷◌, ◌++◌, None, sym, refl, ap, ◌∙◌}
use Rattle.std.proofs.lemmas.Bool.{and_parts, not-true, ne_eqb, eq-eqb, both_ways}
use Rattle.rules.specs.Markup.{amp, lt, gt, quot, apos, Piece, plain, escaped, piece_ok, piece_text, piece_byte, pieces_text}
use Rattle.rules.specs.Kept.{escape_at, meant, tail_size, resolved, resolved_past}
use Rattle.theory.specs.Readings.{EscapesResolved}

-- no escape begins with another byte than '&'
no_escape : (b : ℕ) (bs : List ℕ) → eqb 38 b ≡ false → escape_at (b ∷ bs) ≡ None
no_escape b bs h = rw h refl

-- one piece resolves to its byte
piece_resolved : (p : Piece) (r : List ℕ) → piece_ok p ≡ true → resolved (piece_text p ++ r) ≡ piece_byte p ∷ resolved r
piece_resolved (escaped amp) r h = refl
piece_resolved (escaped lt) r h = refl
piece_resolved (escaped gt) r h = refl
piece_resolved (escaped quot) r h = refl
piece_resolved (escaped apos) r h = refl
piece_resolved (plain b) r h =
    let n : eqb b 38 ≡ false = not-true _ (and_parts _ _ h).0 in
    let e = no_escape b r (ne_eqb 38 b (λ q. both_ways _ n (eq-eqb b 38 (sym q)))) in
    ap (λ o. meant o b ∷ resolved_past (tail_size o) r) e

-- a written value resolves to what its pieces mean
pub resolved_pieces : EscapesResolved
resolved_pieces [] h = refl
resolved_pieces (p ∷ ps) h = let (u, v) = and_parts _ _ h in piece_resolved p (pieces_text ps) u ∙ ap (λ x. piece_byte p ∷ x) (resolved_pieces ps v)
