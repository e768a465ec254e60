-- The kinds whose texts have no blank and none of & < > " '.
use Rattle.std.proofs.Common.{◌≡◌, ℕ, true, List, refl, arith}
use Rattle.std.specs.Char.{is_ascii_digit}
use Rattle.std.proofs.lemmas.Bool.{and_parts}
use Rattle.std.proofs.lemmas.Bool.Decides.{nat_tests}
use Rattle.rules.specs.Bytes.{all}
use Rattle.rules.specs.Kinds.{amount_ok, alphanumeric, base64, date_time_ok, code_ok}
use Rattle.theory.proofs.Lists.{all_with}
use Rattle.theory.proofs.KindLaws.{digits_pass, amount_passes, date_time_passes}
use Rattle.kinds.specs.Pieces.{solid}

digit_solid : (b : ℕ) → is_ascii_digit b ≡ true → solid b ≡ true
digit_solid b h = grind (arith, nat_tests)

alpha_solid : (b : ℕ) → alphanumeric b ≡ true → solid b ≡ true
alpha_solid b h = grind (arith, nat_tests)

base64_solid : (b : ℕ) → base64 b ≡ true → solid b ≡ true
base64_solid b h = grind (arith, nat_tests)

pub digits_solid : (s : List ℕ) → all is_ascii_digit s ≡ true → all solid s ≡ true
digits_solid s h = digits_pass solid digit_solid s h

pub alphas_solid : (s : List ℕ) → all alphanumeric s ≡ true → all solid s ≡ true
alphas_solid s h = all_with alphanumeric solid alpha_solid s h

pub seal_solid : (s : List ℕ) → all base64 s ≡ true → all solid s ≡ true
seal_solid s h = all_with base64 solid base64_solid s h

pub code_solid : (s : List ℕ) → code_ok s ≡ true → all solid s ≡ true
code_solid s h = alphas_solid s (and_parts _ _ h).1

pub amount_solid : (s : List ℕ) → amount_ok s ≡ true → all solid s ≡ true
amount_solid s h = amount_passes solid digit_solid refl s (and_parts _ _ h).1

pub date_time_solid : (s : List ℕ) → date_time_ok s ≡ true → all solid s ≡ true
date_time_solid s h = date_time_passes solid digit_solid refl refl refl s h
