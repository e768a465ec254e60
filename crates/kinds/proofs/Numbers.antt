-- Texts of one class, and the numbers of digits, byte by byte.
use Rattle.std.proofs.Common.{◌≡◌, ℕ, ◌+◌, ◌-◌, ◌*◌, ◌^◌, ◌<◌, ◌≤◌, Bool, true, false, ◌&&◌, List, length, get_or, drop, sym, ap, ◌∙◌, arith, pow-add}
use Rattle.std.proofs.lemmas.List.{drop_more, drop_all}
use Rattle.std.proofs.lemmas.Bool.{and_left}
use Rattle.rules.specs.Bytes.{all}
use Rattle.rules.specs.Kinds.{number_from}

module _ (p : ℕ → Bool) (s : List ℕ) (i : ℕ) where
  pub all_more : i < length s → p (get_or s i 0) ≡ true → all p (drop i s) ≡ all p (drop (i + 1) s)
  all_more h e = ap (λ t. all p t) (drop_more s i 0 h) ∙ ap (λ t. t && all p (drop (i + 1) s)) e

  pub all_not : i < length s → p (get_or s i 0) ≡ false → all p (drop i s) ≡ false
  all_not h e = ap (λ t. all p t) (drop_more s i 0 h) ∙ and_left _ _ e

  pub all_end : length s ≤ i → all p (drop i s) ≡ true
  all_end h = ap (λ t. all p t) (drop_all i s h)

pub number_more : (s : List ℕ) (i n m : ℕ) → i < length s → m ≡ 10 * n + (get_or s i 0 - 48) → number_from n (drop i s) ≡ number_from m (drop (i + 1) s)
number_more s i n m h e = ap (number_from n) (drop_more s i 0 h) ∙ ap (λ k. number_from k (drop (i + 1) s)) (sym e)

pub number_end : (s : List ℕ) (i n : ℕ) → length s ≤ i → number_from n (drop i s) ≡ n
number_end s i n h = ap (number_from n) (drop_all i s h)

pub grows : (n i d : ℕ) → n < 10 ^ i → d ≤ 9 → 10 * n + d < 10 ^ (i + 1)
grows n i d h k = omega (arith, pow-add 10 i 1)
