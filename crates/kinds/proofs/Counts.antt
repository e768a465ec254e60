-- The characters of a text, counted where they end.
use Rattle.std.proofs.Common.{◌≡◌, ℕ, zero, suc, ◌+◌, ◌-◌, ◌*◌, ◌<◌, ◌≤◌, Bool, true, false, cond, ◌&&◌, eqb, leb, List, [], ◌∷◌, length, sym, refl, ap, ◌∙◌, arith}
use Rattle.std.specs.Str.{chars, chars_after, continuation_len, lead_bits}
use Rattle.std.proofs.lemmas.Bool.{cond-false, and_left, and_right, ne_eqb, le-leb, lt-leb}
use Rattle.rules.specs.Bytes.{all, no_bar}
use Rattle.rules.specs.Kinds.{admits}
use Rattle.rules.specs.declared.schema.Kind.TheVariants.{Text}
use Rattle.kinds.specs.Characters.{to_come}

-- one if a character ends where k bytes of it follow
abbrev pub ends : ℕ → ℕ
ends k = cond (eqb k 0) 1 0

-- how many characters end in a text, where k bytes of one are to come
abbrev pub ended : ℕ → List ℕ → ℕ
ended k [] = 0
ended k (b ∷ s) = ends (to_come k b) + ended (to_come k b) s

none_ends : (k : ℕ) → ends (suc k) ≡ 0
none_ends k = rw (ne_eqb (suc k) 0 (λ e. omega arith))

count_after : (k c : ℕ) (s : List ℕ) → length (chars_after k c s) ≡ ends k + ended k s
count_after zero c [] = refl
count_after zero c (b ∷ s) = let h = count_after (continuation_len b) (lead_bits b) s in omega (arith, h)
count_after (suc k) c [] = rw (none_ends k)
count_after (suc k) c (b ∷ s) =
    let e : suc k - 1 ≡ k = omega arith in
    let t : to_come (suc k) b ≡ k = cond-false _ _ _ (ne_eqb (suc k) 0 (λ z. omega arith)) ∙ e in
    let h : length (chars_after k (c * 64 + (b - 128)) s) ≡ ends (to_come (suc k) b) + ended (to_come (suc k) b) s = count_after k (c * 64 + (b - 128)) s ∙ sym (ap (λ j. ends j + ended j s) t) in
    omega (arith, h, none_ends k)

pub count_is : (s : List ℕ) → length (chars s) ≡ ended 0 s
unfolding chars
count_is [] = refl
count_is (b ∷ s) = count_after (continuation_len b) (lead_bits b) s

pub too_many : (most n k m b : ℕ) (start s xs : List ℕ) → n + ended k s ≡ ended 0 start → s ≡ b ∷ xs → m ≡ to_come k b → m ≡ 0 → most ≤ n → false ≡ admits (Text most) start
too_many most n k m b start s xs h e f g l =
    let is : ended k s ≡ ends m + ended m xs = ap (ended k) e ∙ ap (λ j. ends j + ended j xs) (sym f) in
    let one : ends m ≡ 1 = ap ends g in
    let long : most < length (chars start) = omega (arith, count_is start, is, one) in
    sym (and_left (leb 1 (length (chars start)) && leb (length (chars start)) most) _ (and_right (leb 1 (length (chars start))) _ (lt-leb (length (chars start)) most long)))

pub all_read : (most n k : ℕ) (start s : List ℕ) → n ≤ most → n + ended k s ≡ ended 0 start → all no_bar s ≡ all no_bar start → s ≡ [] → leb 1 n ≡ admits (Text most) start
all_read most n k start s l h a e =
    let z : ended k s ≡ 0 = ap (ended k) e in
    let is : length (chars start) ≡ n = omega (arith, count_is start) in
    let t : all no_bar start ≡ true = sym a ∙ ap (λ x. all no_bar x) e in
    rw (is, t, le-leb n most l) (go (leb 1 n))
  where
    go : (t : Bool) → t ≡ ((t && true) && true)
    go true = refl
    go false = refl
