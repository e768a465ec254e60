-- Tests on each byte of what is left of a text.
use Rattle.std.proofs.Common.{◌≡◌, ℕ, ◌+◌, ◌<◌, ◌≤◌, Bool, true, false, List, length, get_or, drop, ◌∙◌, arith}
use Rattle.std.proofs.lemmas.List.{at_drop_more, at_drop_all}
use Rattle.std.specs.Char.{is_ascii_alphanumeric}
use Rattle.std.proofs.lemmas.Bool.Decides.{nat_tests}
use Rattle.rules.specs.Bytes.{all}
use Rattle.rules.specs.Kinds.{alphanumeric}

module _ (p : ℕ → Bool) (s : List ℕ) (i : ℕ) where
  pub passed : i < length s → p (get_or s i 0) ≡ true → all p (drop i s) ≡ all p (drop (i + 1) s)
  passed h e = at_drop_more (all p) s i 0 h ∙ rw e

  pub stopped : i < length s → p (get_or s i 0) ≡ false → all p (drop i s) ≡ false
  stopped h e = at_drop_more (all p) s i 0 h ∙ rw e

  pub all_passed : length s ≤ i → all p (drop i s) ≡ true
  all_passed h = at_drop_all (all p) s i h

-- the order of the tests does not matter
pub alphanumeric_is : (b : ℕ) → alphanumeric b ≡ is_ascii_alphanumeric b
alphanumeric_is b = grind (arith, nat_tests)
