-- One step of a kept form.
use Rattle.std.proofs.Common.{◌≡◌, ℕ, zero, suc, ◌+◌, ◌<◌, ◌≤◌, Bool, true, false, cond, ◌&&◌, List, [], ◌∷◌, length, drop, sym, refl, ap, ◌∙◌, arith, eqb, get_or, length-drop}
use Rattle.std.proofs.lemmas.List.{drop-drop, drop_more, drop_all}
use Rattle.std.proofs.lemmas.Bool.{false≢true, cond-true, cond-false, eq-eqb, ne_eqb, and_parts}
use Rattle.rules.specs.Bytes.{blank}
use Rattle.rules.specs.Kept.{resolved_past, resolved, kept, kept_on, kept_gap, starts}
use Rattle.kinds.specs.Reading.{letter_of}

-- a text begins with another, byte by byte
pub starts_more : (ns bs : List ℕ) (i j : ℕ) → i < length ns → j < length bs → get_or ns i 0 ≡ get_or bs j 0 → starts (drop i ns) (drop j bs) ≡ starts (drop (i + 1) ns) (drop (j + 1) bs)
starts_more ns bs i j h k e = rw (drop_more ns i 0 h, drop_more bs j 0 k, eq-eqb _ _ e)

pub starts_differ : (ns bs : List ℕ) (i j : ℕ) → i < length ns → j < length bs → (get_or ns i 0 ≡ get_or bs j 0 → ⊥) → starts (drop i ns) (drop j bs) ≡ false
starts_differ ns bs i j h k e = rw (drop_more ns i 0 h, drop_more bs j 0 k, ne_eqb _ _ e)

pub starts_short : (ns bs : List ℕ) (i j : ℕ) → i < length ns → length bs ≤ j → starts (drop i ns) (drop j bs) ≡ false
starts_short ns bs i j h k = rw (drop_more ns i 0 h, drop_all j bs k)

pub starts_all : (ns bs : List ℕ) (i : ℕ) → length ns ≤ i → starts (drop i ns) bs ≡ true
starts_all ns bs i h = rw (drop_all i ns h)

pub starts_long : (ns bs : List ℕ) → starts ns bs ≡ true → length ns ≤ length bs
starts_long [] bs e = omega arith
starts_long (n ∷ ns) [] e = absurd (false≢true e)
starts_long (n ∷ ns) (b ∷ bs) e = let h : length ns ≤ length bs = starts_long ns bs (and_parts (eqb n b) (starts ns bs) e).1 in omega arith

pub text_fits : (ns raw : List ℕ) (at : ℕ) → at < length raw → true ≡ starts ns (drop at raw) → at + length ns ≤ length raw
text_fits ns raw at h e = let l = starts_long ns _ (sym e) in omega (arith, length-drop at raw)

pub letter_plain : (raw : List ℕ) (at : ℕ) → at < length raw → (get_or raw at 0 ≡ 38 → ⊥) → ◌≡◌ {A = ℕ × ℕ} (get_or raw at 0, 0) (letter_of (drop at raw))
letter_plain raw at h e = let f : 38 ≡ get_or raw at 0 → ⊥ = λ g. e (sym g) in rw (drop_more raw at 0 h, ne_eqb 38 (get_or raw at 0) f)

pub first_at : (raw : List ℕ) (at : ℕ) → at < length raw → get_or (drop at raw) 0 0 ≡ get_or raw at 0
first_at raw at h = ap (λ s. get_or s 0 0) (drop_more raw at 0 h)

-- what is left to give of a text, where begun says that a byte was given, and gap that a blank has come since
abbrev pub left : Bool → Bool → List ℕ → List ℕ
left false gap s = kept s
left true false s = kept_on s
left true true s = kept_gap s

pub rest_is : (begun : Bool) (s : List ℕ) → left begun false s ≡ cond begun (kept_on s) (kept s)
rest_is true s = refl
rest_is false s = refl

pub left_nil : (begun gap : Bool) → left begun gap [] ≡ []
left_nil false gap = refl
left_nil true false = refl
left_nil true true = refl

pub left_blank : (begun gap : Bool) (b : ℕ) (bs : List ℕ) → blank b ≡ true → left begun gap (b ∷ bs) ≡ left begun true bs
left_blank false gap b bs e = cond-true _ _ _ e
left_blank true false b bs e = cond-true _ _ _ e
left_blank true true b bs e = cond-true _ _ _ e

pub left_byte : (begun gap : Bool) (b : ℕ) (bs : List ℕ) → blank b ≡ false → (gap && begun) ≡ false → left begun gap (b ∷ bs) ≡ b ∷ left true false bs
left_byte false gap b bs e f = cond-false _ _ _ e
left_byte true false b bs e f = cond-false _ _ _ e
left_byte true true b bs e f = absurd (false≢true (sym f))

pub left_gap : (begun gap : Bool) (b : ℕ) (bs : List ℕ) → blank b ≡ false → gap ≡ true → begun ≡ true → left begun gap (b ∷ bs) ≡ 32 ∷ left begun false (b ∷ bs)
left_gap begun gap b bs e f g = rw (f, g) (cond-false _ _ _ e ∙ ap (λ s. 32 ∷ s) (sym (cond-false _ _ _ e)))

resolved_drop : (k : ℕ) (bs : List ℕ) → resolved_past k bs ≡ resolved (drop k bs)
resolved_drop zero bs = refl
resolved_drop (suc k) [] = refl
resolved_drop (suc k) (b ∷ bs) = resolved_drop k bs

-- a text is what is left of another after so many of its bytes
abbrev pub Passed : List ℕ → List ℕ → Type 0
Passed s t = (n : ℕ) × (t ≡ drop n s)

pub passes : (s t u : List ℕ) (n : ℕ) → Passed s t → u ≡ drop n t → Passed s u
passes s t u n p e = (p.0 + n, e ∙ ap (drop n) p.1 ∙ drop-drop n p.0 s)

pub resolved_letter : (raw after : List ℕ) (b : ℕ) → 0 < length raw → b ≡ (letter_of raw).0 → after ≡ drop (1 + (letter_of raw).1) raw → resolved raw ≡ b ∷ resolved after
resolved_letter [] after b h e f = absurd (omega (arith, h))
resolved_letter (r ∷ rs) after b h e f =
    let n = (letter_of (r ∷ rs)).1 in
    let l : 1 + n ≡ suc n = omega arith in
    ap (λ x. x ∷ resolved_past n rs) (sym e) ∙ ap (λ s. b ∷ s) (resolved_drop n rs ∙ ap resolved (sym (f ∙ ap (λ k. drop k (r ∷ rs)) l)))

module _ (raw after : List ℕ) (b : ℕ) (is : resolved raw ≡ b ∷ resolved after) where
  pub at_blank : (begun gap : Bool) → blank b ≡ true → left begun gap (resolved raw) ≡ left begun true (resolved after)
  at_blank begun gap e = ap (left begun gap) is ∙ left_blank begun gap _ _ e

  pub at_byte : (begun gap : Bool) → blank b ≡ false → (gap && begun) ≡ false → left begun gap (resolved raw) ≡ b ∷ left true false (resolved after)
  at_byte begun gap e f = ap (left begun gap) is ∙ left_byte begun gap _ _ e f

  pub at_gap : (begun gap : Bool) → blank b ≡ false → gap ≡ true → begun ≡ true → left begun gap (resolved raw) ≡ 32 ∷ left begun false (resolved raw)
  at_gap begun gap e f g = ap (left begun gap) is ∙ left_gap begun gap _ _ e f g ∙ ap (λ s. 32 ∷ left begun false s) (sym is)

pub at_end : (begun gap : Bool) (raw : List ℕ) → raw ≡ [] → left begun gap (resolved raw) ≡ []
at_end begun gap raw h = ap (λ s. left begun gap (resolved s)) h ∙ left_nil begun gap
