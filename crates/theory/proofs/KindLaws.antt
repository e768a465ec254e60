-- The law of every kind.
use Rattle.std.proofs.Common.{◌≡◌, ℕ, zero, suc, ◌+◌, Bool, true, ◌&&◌, ◌||◌, eqb, List, [], ◌∷◌, length, get_or, take, drop, sym, refl, ap, ◌∙◌, ⊎_elim, arith}
use Rattle.std.specs.Char.{is_ascii_digit, is_ascii_uppercase}
use Rattle.std.proofs.lemmas.Bool.{cond-true, cond-false, and_parts, and_from, or_cases, eqb-true, cases_Bool, false≢true}
use Rattle.std.proofs.lemmas.List.{drop-drop, drop_all}
use Rattle.std.proofs.lemmas.Bool.Decides.{nat_tests}
use Rattle.rules.specs.Bytes.{all, no_bar}
use Rattle.rules.specs.Kinds.{after_whole, fraction_ok, alphanumeric, base64, rfc_mark, rfc_tail, rfc_after, day_ok, time_ok, date_time_ok, numeral_in, fixed_text, admits, part, keep, KindLaw}
use Rattle.rules.specs.declared.schema.Kind.{Kind}
use Rattle.rules.specs.declared.schema.Kind.TheVariants.{Fixed, Text, Amount, Positive, DateTime, Digits, Mark, Rfc, Seal, Code}
use Rattle.theory.proofs.Lists.{all_with}
use Rattle.theory.proofs.Bytes.{same_is}
use Rattle.theory.proofs.SchemaLaws.{fixed_texts}
use Rattle.theory.proofs.KeptLaws.{kept_kept}

-- bytes of these kinds are no bars
digit_no_bar : (b : ℕ) → is_ascii_digit b ≡ true → no_bar b ≡ true
digit_no_bar b h = grind (arith, nat_tests)

alphanumeric_no_bar : (b : ℕ) → alphanumeric b ≡ true → no_bar b ≡ true
alphanumeric_no_bar b h = grind (arith, nat_tests)

base64_no_bar : (b : ℕ) → base64 b ≡ true → no_bar b ≡ true
base64_no_bar b h = grind (arith, nat_tests)

rfc_mark_no_bar : (b : ℕ) → rfc_mark b ≡ true → no_bar b ≡ true
rfc_mark_no_bar b h = grind (arith, nat_tests)

-- a text part by part: n bytes from m on, and one byte at m
pub part_then : (p : ℕ → Bool) (m n : ℕ) (s : List ℕ) → all p (take n (drop m s)) ≡ true → all p (drop (m + n) s) ≡ true → all p (drop m s) ≡ true
part_then p m n s h k = go n (drop m s) h (rw drop-drop k)
  where
    go : (n : ℕ) (t : List ℕ) → all p (take n t) ≡ true → all p (drop n t) ≡ true → all p t ≡ true
    go zero t h k = k
    go (suc n) [] h k = refl
    go (suc n) (b ∷ t) h k = let (u, v) = and_parts _ _ h in and_from _ _ u (go n t v k)

pub byte_then : (p : ℕ → Bool) (m : ℕ) (s : List ℕ) → p (get_or s m 0) ≡ true → all p (drop (suc m) s) ≡ true → all p (drop m s) ≡ true
byte_then p zero [] h k = refl
byte_then p zero (b ∷ s) h k = and_from _ _ h k
byte_then p (suc m) [] h k = refl
byte_then p (suc m) (b ∷ s) h k = byte_then p m s h k

-- a byte that is another one passes a test where that one does
equal_passes : (p : ℕ → Bool) (b c : ℕ) → p c ≡ true → eqb b c ≡ true → p b ≡ true
equal_passes p b c h e = rw (eqb-true b c e) h

-- nothing stands past the end of a text
pub nothing_after : (p : ℕ → Bool) (n : ℕ) (s : List ℕ) → eqb (length s) n ≡ true → all p (drop n s) ≡ true
nothing_after p n s e = rw (drop_all n s (omega (arith, eqb-true _ _ e))) refl

-- the texts whose bytes all pass a test that digits pass
module _ (p : ℕ → Bool) (digit : (b : ℕ) → is_ascii_digit b ≡ true → p b ≡ true) where
  pub digits_pass : (s : List ℕ) → all is_ascii_digit s ≡ true → all p s ≡ true
  digits_pass s h = all_with is_ascii_digit p digit s h

  -- an amount, where the point passes
  pub amount_passes : p 46 ≡ true → (s : List ℕ) → fraction_ok (after_whole s) ≡ true → all p s ≡ true
  amount_passes point [] h = refl
  amount_passes point (b ∷ bs) h =
      ⊎_elim
      (λ e. and_from _ _ (digit b e) (amount_passes point bs (sym (ap fraction_ok (cond-true (is_ascii_digit b) _ _ e)) ∙ h)))
      (λ e.
      let h' : fraction_ok (b ∷ bs) ≡ true = sym (ap fraction_ok (cond-false (is_ascii_digit b) _ _ e)) ∙ h in
      let (u, v) = and_parts _ _ h' in
      and_from _ _ (equal_passes p b 46 point u) (digits_pass bs (and_parts _ _ v).0))
      (cases_Bool (is_ascii_digit b))

  -- a numeral that stands in a text, and what follows it
  numeral_then : (lo hi m n : ℕ) (s : List ℕ) → numeral_in lo hi (part m n s) ≡ true → all p (drop (m + n) s) ≡ true → all p (drop m s) ≡ true
  numeral_then lo hi m n s h k = part_then p m n s (digits_pass (part m n s) (and_parts _ _ h).0) k

  -- a day, where '-' passes
  pub day_passes : p 45 ≡ true → (s : List ℕ) → day_ok s ≡ true → all p s ≡ true
  day_passes dash s h =
      let (l, h₁) = and_parts _ _ h in
      let (y, h₂) = and_parts _ _ h₁ in
      let (a, h₃) = and_parts _ _ h₂ in
      let (m, h₄) = and_parts _ _ h₃ in
      let (b, d) = and_parts _ _ h₄ in
      numeral_then _ _ 0 4 s y
      (byte_then p 4 s (equal_passes p (get_or s 4 0) 45 dash a)
      (numeral_then _ _ 5 2 s m
      (byte_then p 7 s (equal_passes p (get_or s 7 0) 45 dash b)
      (numeral_then _ _ 8 2 s d (nothing_after p 10 s l)))))

  -- a time, where ':' passes
  pub time_passes : p 58 ≡ true → (s : List ℕ) → time_ok s ≡ true → all p s ≡ true
  time_passes colon s h =
      let (l, h₁) = and_parts _ _ h in
      let (y, h₂) = and_parts _ _ h₁ in
      let (a, h₃) = and_parts _ _ h₂ in
      let (m, h₄) = and_parts _ _ h₃ in
      let (b, d) = and_parts _ _ h₄ in
      numeral_then _ _ 0 2 s y
      (byte_then p 2 s (equal_passes p (get_or s 2 0) 58 colon a)
      (numeral_then _ _ 3 2 s m
      (byte_then p 5 s (equal_passes p (get_or s 5 0) 58 colon b)
      (numeral_then _ _ 6 2 s d (nothing_after p 8 s l)))))

  -- a day and a time, where '-', ':' and 'T' pass
  pub date_time_passes : p 45 ≡ true → p 58 ≡ true → p 84 ≡ true → (s : List ℕ) → date_time_ok s ≡ true → all p s ≡ true
  date_time_passes dash colon t s h =
      let (l, h₁) = and_parts _ _ h in
      let (y, h₂) = and_parts _ _ h₁ in
      let (a, h₃) = and_parts _ _ h₂ in
      part_then p 0 10 s (day_passes dash (part 0 10 s) y) (byte_then p 10 s (equal_passes p (get_or s 10 0) 84 t a) (time_passes colon (drop 11 s) h₃))

-- digits have no bar
digits_no_bar : (s : List ℕ) → all is_ascii_digit s ≡ true → all no_bar s ≡ true
digits_no_bar s h = digits_pass no_bar digit_no_bar s h

-- the end of an RFC has no bar
rfc_tail_no_bar : (s : List ℕ) → rfc_tail s ≡ true → all no_bar s ≡ true
rfc_tail_no_bar s h =
    let (l, h₁) = and_parts _ _ h in
    let (y, h₂) = and_parts _ _ h₁ in
    let (m, h₃) = and_parts _ _ h₂ in
    let (d, h₄) = and_parts _ _ h₃ in
    let (x, z) = and_parts _ _ h₄ in
    part_then no_bar 0 2 s (digits_no_bar (part 0 2 s) y)
    (part_then no_bar 2 2 s (digits_no_bar (part 2 2 s) (and_parts _ _ m).0)
    (part_then no_bar 4 2 s (digits_no_bar (part 4 2 s) (and_parts _ _ d).0)
    (part_then no_bar 6 2 s (all_with rfc_mark no_bar rfc_mark_no_bar (part 6 2 s) x)
    (byte_then no_bar 8 s (⊎_elim (digit_no_bar (get_or s 8 0)) (equal_passes no_bar (get_or s 8 0) 65 refl) (or_cases _ _ z)) (nothing_after no_bar 9 s l)))))

-- an RFC has no bar
rfc_no_bar : (n : ℕ) (s : List ℕ) → rfc_after n s ≡ true → all no_bar s ≡ true
rfc_no_bar zero s h = rfc_tail_no_bar s h
rfc_no_bar (suc n) [] h = refl
rfc_no_bar (suc n) (b ∷ []) h = absurd (false≢true h)
rfc_no_bar (suc n) (b ∷ c ∷ s) h =
    ⊎_elim
    (λ e. and_from _ _ (letter_no_bar b e) (rfc_no_bar n (c ∷ s) (sym (cond-true (is_ascii_uppercase b || eqb b 38) _ _ e) ∙ h)))
    (λ e.
    let h' : (eqb b 195 && (eqb c 145 && rfc_after n s)) ≡ true = sym (cond-false (is_ascii_uppercase b || eqb b 38) _ _ e) ∙ h in
    let (u, h₁) = and_parts _ _ h' in
    let (v, h₂) = and_parts _ _ h₁ in
    and_from _ _ (equal_passes no_bar b 195 refl u) (and_from _ _ (equal_passes no_bar c 145 refl v) (rfc_no_bar n s h₂)))
    (cases_Bool (is_ascii_uppercase b || eqb b 38))
  where
    letter_no_bar : (b : ℕ) → (is_ascii_uppercase b || eqb b 38) ≡ true → no_bar b ≡ true
    letter_no_bar b h = grind (arith, nat_tests)

-- an admitted text has no bar
pub admitted_no_bar : (k : Kind) (s : List ℕ) → admits k s ≡ true → all no_bar s ≡ true
admitted_no_bar (Fixed t) s h = rw (same_is s (fixed_text t) h) (fixed_texts t).without_bar
admitted_no_bar (Text n) s h = (and_parts _ _ h).1
admitted_no_bar Amount s h = amount_passes no_bar digit_no_bar refl s (and_parts _ _ h).1
admitted_no_bar Positive s h = amount_passes no_bar digit_no_bar refl s (and_parts _ _ (and_parts _ _ h).0).1
admitted_no_bar DateTime s h = date_time_passes no_bar digit_no_bar refl refl refl s h
admitted_no_bar (Digits n) s h = digits_no_bar s (and_parts _ _ h).1
admitted_no_bar Mark s h = all_with alphanumeric no_bar alphanumeric_no_bar s (and_parts _ _ h).1
admitted_no_bar Rfc s h = ⊎_elim (rfc_no_bar 3 s) (rfc_no_bar 4 s) (or_cases _ _ h)
admitted_no_bar Seal s h = all_with base64 no_bar base64_no_bar s h
admitted_no_bar (Code c) s h = all_with alphanumeric no_bar alphanumeric_no_bar s (and_parts _ _ h).1

-- keeping twice is keeping once
pub keep_keep : (k : Kind) (s : List ℕ) → keep k (keep k s) ≡ keep k s
keep_keep k s = kept_kept s

-- the law of kinds
pub kind_law : (k : Kind) (s : List ℕ) → KindLaw k s
kind_law k s = record { by_kept_form = ap (admits k) (sym (keep_keep k s)); kept_once = keep_keep k s; without_bar = admitted_no_bar k (keep k s) }
