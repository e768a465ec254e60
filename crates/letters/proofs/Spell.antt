-- What the spelling of characters says of the beginnings of a text.
use Rattle.std.proofs.Common.{◌≡◌, ℕ, ◌+◌, ◌<◌, true, List, [], ◌∷◌, ◌++◌, length, take, drop, IsUtf8, sym, refl, ap, ◌∙◌, subst, ⊎_elim, arith, length-append, take-append-drop, length-take, ◌≤◌}
use lib.Utf8.{encode, encodes, scalar, scalars}
use Rattle.std.specs.Str.{IsValidUpTo}
use Rattle.std.proofs.lemmas.List.{append_assoc, append-nil, take-take, take_at, nil_from_length}
use Rattle.std.proofs.lemmas.Bool.Decides.{nat_tests}
use Rattle.std.proofs.lemmas.Bool.{and_parts, and_from, cases_lt}
use Rattle.std.proofs.lemmas.Str.{encode_same, encodes-append, length-encode, len_utf8_bounds}
use Rattle.rules.specs.Bytes.{all}
use Rattle.rules.specs.Letters.{allowed, Spelled, SpelledUpTo}

-- the letters of a text end at n, before the text does
abbrev pub EndsAt : List ℕ → ℕ → Type 0
EndsAt bs n = (n < length bs) × SpelledUpTo bs n

allowed_scalar : (c : ℕ) → allowed c ≡ true → scalar c ≡ true
allowed_scalar c h = grind (arith, nat_tests)

allowed_scalars : (cs : List ℕ) → all allowed cs ≡ true → scalars cs ≡ true
allowed_scalars [] h = refl
allowed_scalars (c ∷ cs) h = let (u, v) = and_parts _ _ h in and_from _ _ (allowed_scalar c u) (allowed_scalars cs v)

spelled_utf8 : (bs : List ℕ) → Spelled bs → IsUtf8 bs
spelled_utf8 bs (cs, allows, is) = (cs, (allowed_scalars cs allows, is))

all_append : (cs ds : List ℕ) → all allowed cs ≡ true → all allowed ds ≡ true → all allowed (cs ++ ds) ≡ true
all_append [] ds h k = k
all_append (c ∷ cs) ds h k = let (u, v) = and_parts _ _ h in and_from _ _ u (all_append cs ds v k)

-- where allowed characters go on past cs, the character after cs is allowed
goes_on : (cs ds : List ℕ) (c : ℕ) (y t : List ℕ) → encodes ds ++ y ≡ encodes cs ++ (encode c ++ t) → length (encodes cs) < length (encodes ds) → all allowed ds ≡ true → allowed c ≡ true
goes_on [] [] c y t e h allows = absurd (omega arith)
goes_on [] (d ∷ ds) c y t e h allows = subst (λ x. allowed x ≡ true) (encode_same d c _ _ (sym (append_assoc (encode d) (encodes ds) y) ∙ e)).0 (and_parts _ _ allows).0
goes_on (x ∷ cs) [] c y t e h allows = absurd (omega arith)
goes_on (x ∷ cs) (d ∷ ds) c y t e h allows =
    let p = encode_same d x _ _ (sym (append_assoc (encode d) (encodes ds) y) ∙ e ∙ append_assoc (encode x) (encodes cs) (encode c ++ t)) in
    goes_on cs ds c y t p.1 (omega (arith, ap (λ z. length (encode z)) p.0, length-append (encode d) (encodes ds), length-append (encode x) (encodes cs))) (and_parts _ _ allows).1

-- front is spelled, and rest is what is left
pub record Sofar (bs : List ℕ) (at : ℕ) (rest : List ℕ) : Type 0 where
  pub front : List ℕ
  pub spelled : Spelled front
  pub whole : front ++ rest ≡ bs
  pub long : length front ≡ at

pub start : {bs rest : List ℕ} {at : ℕ} → rest ≡ bs → at ≡ 0 → Sofar bs at rest
start whole none = record { front = []; spelled = ([], refl, refl); whole = whole; long = sym none }

pub more : {bs rest next : List ℕ} {at : ℕ} (c : ℕ) → Sofar bs at rest → allowed c ≡ true → rest ≡ encode c ++ next → Sofar bs (at + length (encode c)) next
more {bs} {rest} {next} c s h e =
    let cs = s.spelled.0 in
    record {
      front = s.front ++ encode c;
      spelled = (cs ++ c ∷ [], all_append cs (c ∷ []) s.spelled.1 (and_from _ _ h refl), encodes-append cs (c ∷ []) ∙ ap (λ x. encodes cs ++ x) (append-nil (encode c)) ∙ ap (λ x. x ++ encode c) s.spelled.2);
      whole = append_assoc s.front (encode c) next ∙ ap (λ x. s.front ++ x) (sym e) ∙ s.whole;
      long = simp length-append (ap (λ n. n + length (encode c)) s.long);
    }

pub within : {bs rest : List ℕ} {at : ℕ} → Sofar bs at rest → at ≤ length bs
within s = omega (arith, s.long, simp length-append at (ap length s.whole))

pub ended : {bs rest : List ℕ} {at : ℕ} → Sofar bs at rest → length rest ≡ 0 → Spelled bs
ended {bs} {rest} s e = subst Spelled (sym (append-nil s.front) ∙ ap (λ x. s.front ++ x) (sym (nil_from_length rest e)) ∙ s.whole) s.spelled

-- where a character is not allowed, the letters end before it
pub stops : {bs rest : List ℕ} {at : ℕ} (c : ℕ) (next : List ℕ) → Sofar bs at rest → (allowed c ≡ true → ⊥) → rest ≡ encode c ++ next → EndsAt bs at
stops {bs} {rest} {at} c next s bad e =
    let cs = s.spelled.0 in
    let long = simp length-append at (ap length s.whole) in
    let left = simp (length-append, length-encode) at (ap length e) in
    let short : at < length bs = omega (arith, long, left, s.long, (len_utf8_bounds c).0) in (
      short,
      record {
        within = omega arith;
        spelled = subst Spelled (sym (take_at s.front rest at s.long) ∙ ap (take at) s.whole) s.spelled;
        longest = λ m le (ds, each, is). ⊎_elim
            (λ h. absurd (bad (goes_on cs ds c (drop m bs) next
            (ap (λ x. x ++ drop m bs) is ∙ take-append-drop m bs ∙ sym s.whole ∙ ap (λ x. x ++ rest) (sym s.spelled.2) ∙ ap (λ x. encodes cs ++ x) e)
            (omega (arith, ap length s.spelled.2, s.long, ap length is, length-take m bs)) each)))
            (λ h. h) (cases_lt at m);
      },
    )

-- a front that is text, with no more text after it, ends where its letters end
pub ends_past : (bs : List ℕ) (n : ℕ) → IsValidUpTo bs n → Spelled (take n bs) → EndsAt bs n
ends_past bs n v h =
    let short : n < length bs = v.short in
    (short, record { within = omega arith; spelled = h; longest = λ m le s. ⊎_elim (λ up. absurd (v.longest m up (spelled_utf8 _ s))) (λ down. down) (cases_lt n m) })

-- letters that end within that front end there in the whole text
pub ends_within : (bs : List ℕ) (n k : ℕ) → IsValidUpTo bs n → EndsAt (take n bs) k → EndsAt bs k
ends_within bs n k v h =
    let lt : k < n = omega (arith, h.0, length-take n bs) in (
      omega (arith, v.short),
      record {
        within = omega (arith, v.short);
        spelled = subst Spelled (take-take k n bs (omega arith)) h.1.spelled;
        longest = λ m le s. ⊎_elim (λ up. absurd (v.longest m up (spelled_utf8 _ s))) (λ down. h.1.longest m (omega (arith, length-take n bs)) (subst Spelled (sym (take-take m n bs down)) s)) (cases_lt n m);
      },
    )
