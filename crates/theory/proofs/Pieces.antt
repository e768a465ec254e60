-- The bytes of a value and the pieces that write them.
use Rattle.std.proofs.Common.{◌≡◌, ℕ, true, cond, eqb, List, [], ◌∷◌, sym, refl, ◌∙◌}
use Rattle.std.proofs.lemmas.Bool.{cond_both, cond-false, and_parts, and_from, not-true, not_from_false, eqb-true}
use Rattle.rules.specs.Bytes.{all}
use Rattle.rules.specs.Markup.{amp, lt, gt, quot, apos, Piece, plain, escaped, plain_byte, piece_ok, piece_byte, pieces_bytes}
use Rattle.rules.specs.Texts.{piece, pieces}

-- how a byte is written: one of the five, or as itself
pub written : (b : ℕ) (P : Piece → Type 0) → (b ≡ 38 → P (escaped amp)) → (b ≡ 60 → P (escaped lt)) → (b ≡ 62 → P (escaped gt)) → (b ≡ 34 → P (escaped quot)) → (b ≡ 39 → P (escaped apos)) → (plain_byte b ≡ true → P (plain b)) → P (piece b)
written b P f₁ f₂ f₃ f₄ f₅ f =
    let p₅ : Piece = cond (eqb b 39) (escaped apos) (plain b) in
    let p₄ : Piece = cond (eqb b 34) (escaped quot) p₅ in
    let p₃ : Piece = cond (eqb b 62) (escaped gt) p₄ in
    let p₂ : Piece = cond (eqb b 60) (escaped lt) p₃ in
    cond_both (eqb b 38) (escaped amp) p₂ P (λ e. f₁ (eqb-true b 38 e)) λ e₁.
    cond_both (eqb b 60) (escaped lt) p₃ P (λ e. f₂ (eqb-true b 60 e)) λ e₂.
    cond_both (eqb b 62) (escaped gt) p₄ P (λ e. f₃ (eqb-true b 62 e)) λ e₃.
    cond_both (eqb b 34) (escaped quot) p₅ P (λ e. f₄ (eqb-true b 34 e)) λ e₄.
    cond_both (eqb b 39) (escaped apos) (plain b) P (λ e. f₅ (eqb-true b 39 e)) λ e₅.
    f (and_from _ _ (not_from_false _ e₁) (and_from _ _ (not_from_false _ e₂) (and_from _ _ (not_from_false _ e₃) (and_from _ _ (not_from_false _ e₄) (not_from_false _ e₅)))))

byte_piece : (b : ℕ) → piece_byte (piece b) ≡ b
byte_piece b = written b (λ p. piece_byte p ≡ b) sym sym sym sym sym (λ e. refl)

ok_piece : (b : ℕ) → piece_ok (piece b) ≡ true
ok_piece b = written b (λ p. piece_ok p ≡ true) (λ e. refl) (λ e. refl) (λ e. refl) (λ e. refl) (λ e. refl) (λ e. e)

-- a text is what its pieces mean
pub bytes_pieces : (s : List ℕ) → pieces_bytes (pieces s) ≡ s
bytes_pieces [] = refl
bytes_pieces (b ∷ bs) = let e = byte_piece b in let f = bytes_pieces bs in cc

-- the pieces of a text may stand in a value
pub ok_pieces : (s : List ℕ) → all piece_ok (pieces s) ≡ true
ok_pieces [] = refl
ok_pieces (b ∷ bs) = and_from _ _ (ok_piece b) (ok_pieces bs)

-- and back: a piece that may stand in a value is the one that writes its byte
piece_back : (p : Piece) → piece_ok p ≡ true → piece (piece_byte p) ≡ p
piece_back (escaped amp) h = refl
piece_back (escaped lt) h = refl
piece_back (escaped gt) h = refl
piece_back (escaped quot) h = refl
piece_back (escaped apos) h = refl
piece_back (plain b) h =
    let (e₁, h₁) = and_parts _ _ h in
    let (e₂, h₂) = and_parts _ _ h₁ in
    let (e₃, h₃) = and_parts _ _ h₂ in
    let (e₄, e₅) = and_parts _ _ h₃ in
    cond-false (eqb b 38) _ _ (not-true _ e₁) ∙ cond-false (eqb b 60) _ _ (not-true _ e₂) ∙ cond-false (eqb b 62) _ _ (not-true _ e₃) ∙ cond-false (eqb b 34) _ _ (not-true _ e₄) ∙ cond-false (eqb b 39) _ _ (not-true _ e₅)

-- pieces that may stand in a value are those of what they mean
pub pieces_back : (ps : List Piece) → all piece_ok ps ≡ true → pieces (pieces_bytes ps) ≡ ps
pieces_back [] h = refl
pieces_back (p ∷ ps) h = let (u, v) = and_parts _ _ h in let e = piece_back p u in let f = pieces_back ps v in cc
