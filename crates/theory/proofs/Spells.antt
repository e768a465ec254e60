-- Spelled texts: how they join, and where they may be cut.
use Rattle.std.proofs.Common.{◌≡◌, ℕ, zero, suc, ◌+◌, ◌<◌, ◌≤◌, Bool, true, false, ◌&&◌, leb, ◌⊎◌, List, [], ◌∷◌, ◌++◌, length, take, IsUtf8, sym, refl, ap, ◌∙◌, subst, inl, inr, ⊎_elim, append-nil, arith, length-append}
use lib.Utf8.{encodes, encode, scalar, scalars}
use Rattle.std.specs.Str.{IsCharBoundary, chars}
use Rattle.std.proofs.lemmas.List.{take_all, take_at, drop_at, get_or_at}
use Rattle.std.proofs.lemmas.Str.{encodes-append, encode_ascii, IsUtf8-take, IsUtf8-drop, IsCharBoundary-before_ascii, IsCharBoundary-after_ascii, chars-encodes, encodes-chars, chars-append}
use Rattle.std.proofs.lemmas.Bool.{and_parts, and_from, cases_Bool, both_ways, leb-true, cases_lt}
use Rattle.std.proofs.lemmas.Bool.Decides.{nat_tests}
use Rattle.rules.specs.Bytes.{all, same}
use Rattle.rules.specs.Letters.{allowed, Spelled, SpelledUpTo}
use Rattle.theory.proofs.Lists.{all_append, all_split}
use Rattle.theory.proofs.Bytes.{same_is, same_refl}

allowed_scalar : (c : ℕ) → allowed c ≡ true → scalar c ≡ true
allowed_scalar c h = grind (arith, nat_tests)

all_scalars : (cs : List ℕ) → all allowed cs ≡ true → scalars cs ≡ true
all_scalars [] h = refl
all_scalars (c ∷ cs) h = let (u, v) = and_parts (allowed c) _ h in and_from _ _ (allowed_scalar c u) (all_scalars cs v)

-- spelled text is UTF-8
pub spelled_utf8 : (s : List ℕ) → Spelled s → IsUtf8 s
spelled_utf8 s h = (h.0, (all_scalars h.0 h.1, h.2))

-- its characters are allowed
pub spelled_decodes : (s : List ℕ) → Spelled s → all allowed (chars s) ≡ true
spelled_decodes s h = let e : chars s ≡ h.0 = ap chars (sym h.2) ∙ chars-encodes h.0 (all_scalars h.0 h.1) in ap (all allowed) e ∙ h.1

-- UTF-8 of allowed characters is spelled
pub spelled_from : (s : List ℕ) → IsUtf8 s → all allowed (chars s) ≡ true → Spelled s
spelled_from s u h = (chars s, h, encodes-chars s u)

-- the empty text is spelled
pub spelled_nil : Spelled []
spelled_nil = ([], refl, refl)

-- two spelled texts make one
pub spelled_append : (a b : List ℕ) → Spelled a → Spelled b → Spelled (a ++ b)
spelled_append a b h k = (h.0 ++ k.0, all_append allowed h.0 k.0 h.1 k.1, encodes-append h.0 k.0 ∙ (λ i. h.2 i ++ k.2 i))

-- ASCII that may stand in a document
abbrev pub ascii_letter : ℕ → Bool
ascii_letter b = leb b 127 && allowed b

-- one such byte is spelled
pub ascii_letter_spelled : (b : ℕ) → ascii_letter b ≡ true → Spelled (b ∷ [])
ascii_letter_spelled b h =
    let (u, v) = and_parts (leb b 127) _ h in
    let l = leb-true b 127 u in
    (b ∷ [], and_from _ _ v refl, append-nil (encode b) ∙ encode_ascii b (omega arith))

-- such bytes are spelled
pub ascii_spelled : (s : List ℕ) → all ascii_letter s ≡ true → Spelled s
ascii_spelled [] h = spelled_nil
ascii_spelled (b ∷ s) h = let (u, v) = and_parts (ascii_letter b) _ h in spelled_append (b ∷ []) s (ascii_letter_spelled b u) (ascii_spelled s v)

-- a text is cut before an ASCII byte, and after it
pub cut : (a c : List ℕ) (b : ℕ) → b < 128 → Spelled (a ++ b ∷ c) → Spelled a × Spelled (b ∷ c)
cut a c b l h =
    let s : List ℕ = a ++ b ∷ c in
    let u = spelled_utf8 s h in
    let n = length-append a (b ∷ c) in
    let g = get_or_at a b c 0 (length a) refl in
    let w : IsCharBoundary s (length a) = IsCharBoundary-before_ascii s (length a) (omega arith) (omega arith) in
    let ua : IsUtf8 a = subst IsUtf8 (take_at a (b ∷ c) (length a) refl) (IsUtf8-take s (length a) u w) in
    let uc : IsUtf8 (b ∷ c) = subst IsUtf8 (drop_at a (b ∷ c) (length a) refl) (IsUtf8-drop s (length a) u w) in
    let (x, y) = all_split allowed (chars a) (chars (b ∷ c)) (ap (all allowed) (sym (chars-append a (b ∷ c) ua)) ∙ spelled_decodes s h) in
    (spelled_from a ua x, spelled_from (b ∷ c) uc y)

-- what follows an ASCII byte is spelled
pub after_one : (c : List ℕ) (b : ℕ) → b < 128 → Spelled (b ∷ c) → Spelled c
after_one c b l h =
    let s : List ℕ = b ∷ c in
    let u = spelled_utf8 s h in
    let w : IsCharBoundary s (0 + 1) = IsCharBoundary-after_ascii s 0 u (omega arith) l in
    let uc : IsUtf8 c = IsUtf8-drop s 1 u w in
    let ub : IsUtf8 (b ∷ []) = IsUtf8-take s 1 u w in
    let (x, y) = all_split allowed (chars (b ∷ [])) (chars c) (ap (all allowed) (sym (chars-append (b ∷ []) c ub)) ∙ spelled_decodes s h) in
    spelled_from c uc y

-- so is what follows it later on
pub after : (a c : List ℕ) (b : ℕ) → b < 128 → Spelled (a ++ b ∷ c) → Spelled c
after a c b l h = after_one c b l (cut a c b l h).1

-- whether a text is spelled, computed
abbrev pub spells : List ℕ → Bool
spells s = same (encodes (chars s)) s && all allowed (chars s)

pub spells_true : (s : List ℕ) → spells s ≡ true → Spelled s
spells_true s h = let (u, v) = and_parts (same (encodes (chars s)) s) _ h in (chars s, v, same_is _ s u)

spells_false : (s : List ℕ) → spells s ≡ false → Spelled s → ⊥
spells_false s h k = both_ways _ h (and_from _ _ (ap (λ x. same x s) (encodes-chars s (spelled_utf8 s k)) ∙ same_refl s) (spelled_decodes s k))

-- the longest spelled beginning up to n bytes
greatest : (d : List ℕ) (n : ℕ) → (k : ℕ) × (k ≤ n) × Spelled (take k d) × ((j : ℕ) → j ≤ n → Spelled (take j d) → j ≤ k)
greatest d zero = (0, omega arith, spelled_nil, λ j l h. l)
greatest d (suc n) =
    ⊎_elim
    (λ e. (suc n, omega arith, spells_true (take (suc n) d) e, λ j l h. l))
    (λ e.
    let g = greatest d n in
    let (k, l, h, m) = g in
    (k, omega arith, h, λ j x y. ⊎_elim (λ (z : j ≤ n). m j z y) (λ z. absurd (spells_false (take (suc n) d) e (subst (λ w. Spelled (take w d)) z y))) (below j n x)))
    (cases_Bool (spells (take (suc n) d)))
  where
    below : (j n : ℕ) → j ≤ suc n → (j ≤ n) ⊎ (j ≡ suc n)
    below j n x = ⊎_elim (λ h. inl (omega arith)) (λ h. inr (omega arith)) (cases_lt j (suc n))

-- every text has a place where its whole allowed characters end
pub spelled_up_to : (d : List ℕ) → (n : ℕ) × SpelledUpTo d n
spelled_up_to d = let (k, l, h, m) = greatest d (length d) in (k, record { within = l; spelled = h; longest = m })

-- a text whose allowed characters end nowhere before it does is spelled
pub all_spelled : (d : List ℕ) → ((n : ℕ) → n < length d → SpelledUpTo d n → ⊥) → Spelled d
all_spelled d f =
    let (n, u) = spelled_up_to d in
    ⊎_elim (λ l. absurd (f n l u)) (λ l. subst Spelled (take_all n d l) u.spelled) (cases_lt n (length d))
