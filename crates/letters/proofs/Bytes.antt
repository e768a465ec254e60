-- UTF-8 of which every byte is plain spells allowed characters.
use Rattle.std.proofs.Common.{◌≡◌, ℕ, ◌+◌, ◌/◌, ◌<◌, ◌≤◌, Bool, true, false, ◌&&◌, List, [], ◌∷◌, ◌++◌, IsUtf8, sym, refl, ◌∙◌, subst, ⊎_elim, arith}
use lib.Utf8.{encode, encodes, scalar, scalars, next}
use Rattle.std.proofs.lemmas.Bool.Decides.{nat_tests}
use Rattle.std.proofs.lemmas.Bool.{and_parts, and_from, cases_lt, cond-true, cond-false, lt-ltb, le-ltb}
use Rattle.std.proofs.lemmas.Str.{encode_ascii}
use Rattle.rules.specs.Bytes.{all}
use Rattle.rules.specs.Letters.{allowed, Spelled}
use Rattle.letters.specs.Plain.{plain_byte}

-- a test of one element more
pub all_more : (p : ℕ → Bool) (xs : List ℕ) (x : ℕ) → all p (xs ++ x ∷ []) ≡ (all p xs && p x)
all_more p [] x = elim (p x) as (λ b. (b && true) ≡ (true && b)) [ true ↦ refl | false ↦ refl ]
all_more p (y ∷ ys) x = elim (p y) as (λ b. (b && all p (ys ++ x ∷ [])) ≡ ((b && all p ys) && p x)) [ true ↦ all_more p ys x | false ↦ refl ]

-- what every element passes, those of each part pass
all_parts : (p : ℕ → Bool) (xs ys : List ℕ) → all p (xs ++ ys) ≡ true → (all p xs ≡ true) × (all p ys ≡ true)
all_parts p [] ys h = (refl, h)
all_parts p (x ∷ xs) ys h = let (u, v) = and_parts _ _ h in let (a, b) = all_parts p xs ys v in (and_from _ _ u a, b)

-- a character of one byte, of two, of three and of four
one : (c : ℕ) → c < 128 → plain_byte c ≡ true → allowed c ≡ true
one c lt h = grind (arith, nat_tests)

two : (c : ℕ) → 128 ≤ c → c < 2048 → allowed c ≡ true
two c ge lt = grind (arith, nat_tests)

three : (c : ℕ) → scalar c ≡ true → 2048 ≤ c → c < 65536 → plain_byte (224 + c / 4096) ≡ true → allowed c ≡ true
three c s ge lt h = ⊎_elim (λ low. grind (arith, nat_tests)) (λ high. let e : c / 4096 ≡ 15 = omega arith in grind (arith, nat_tests)) (cases_lt c 61440)

four : (c : ℕ) → scalar c ≡ true → 65536 ≤ c → allowed c ≡ true
four c s ge = grind (arith, nat_tests)

encode_three : (c : ℕ) → 2048 ≤ c → c < 65536 → encode c ≡ (224 + c / 4096) ∷ next (c / 64) ∷ next c ∷ []
unfolding encode
encode_three c ge lt = cond-false _ _ _ (le-ltb c 128 (omega arith)) ∙ cond-false _ _ _ (le-ltb c 2048 ge) ∙ cond-true _ _ _ (lt-ltb c 65536 lt)

-- a character of plain bytes is allowed
plain_allowed : (c : ℕ) → scalar c ≡ true → all plain_byte (encode c) ≡ true → allowed c ≡ true
plain_allowed c s h =
    ⊎_elim
    (λ lt. one c lt (and_parts _ _ (subst (λ x. all plain_byte x ≡ true) (encode_ascii c lt) h)).0)
    (λ ge. ⊎_elim
    (λ lt. two c ge lt)
    (λ more. ⊎_elim (λ lt. three c s more lt (and_parts _ _ (subst (λ x. all plain_byte x ≡ true) (encode_three c more lt) h)).0) (four c s) (cases_lt c 65536))
    (cases_lt c 2048))
    (cases_lt c 128)

all_allowed : (cs : List ℕ) → scalars cs ≡ true → all plain_byte (encodes cs) ≡ true → all allowed cs ≡ true
all_allowed [] s h = refl
all_allowed (c ∷ cs) s h =
    let (a, b) = and_parts _ _ s in
    let (u, v) = all_parts plain_byte (encode c) (encodes cs) h in and_from _ _ (plain_allowed c a u) (all_allowed cs b v)

pub plain_spelled : (bs : List ℕ) → IsUtf8 bs → all plain_byte bs ≡ true → Spelled bs
plain_spelled bs (cs, (s, is)) h = (cs, all_allowed cs s (subst (λ x. all plain_byte x ≡ true) (sym is) h), is)
