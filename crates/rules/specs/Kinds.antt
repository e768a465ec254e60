-- The kinds of value: which kept forms each admits.
use Rattle.std.specs.Prelude.{◌≡◌, ℕ, zero, suc, ◌+◌, ◌-◌, ◌*◌, ◌%◌, ◌^◌, Bool, true, false, cond, not, ◌&&◌, ◌||◌, List, [], ◌∷◌, length, take, drop, Some, None, codes, Option, ◌==◌, nat_lt, slice_index}
use Rattle.std.specs.Int.{is_in_range}
use Rattle.std.specs.Char.{is_ascii_digit, is_ascii_uppercase, is_ascii_alphabetic}
use Rattle.std.specs.Str.{chars}
use Rattle.rules.specs.Bytes.{all, same, no_bar}
use Rattle.rules.specs.Kept.{kept}
use Rattle.rules.specs.declared.schema.FixedText.{FixedText}
use Rattle.rules.specs.declared.schema.FixedText.TheVariants.{Version, CfdiNamespace, XsiNamespace, SchemaLocation}
use Rattle.rules.specs.declared.schema.Catalogue.{Catalogue}
use Rattle.rules.specs.declared.schema.Kind.{Kind}
use Rattle.rules.specs.declared.schema.Kind.TheVariants.{Fixed, Text, Amount, Positive, DateTime, Digits, Mark, Rfc, Seal, Code}

-- the texts that are fixed to the letter
abbrev pub fixed_text : FixedText → List ℕ
fixed_text Version = codes "4.0"
fixed_text CfdiNamespace = codes "http://www.sat.gob.mx/cfd/4"
fixed_text XsiNamespace = codes "http://www.w3.org/2001/XMLSchema-instance"
fixed_text SchemaLocation = codes "http://www.sat.gob.mx/cfd/4 http://www.sat.gob.mx/sitio_internet/cfd/4/cfdv40.xsd"

-- an ASCII letter or digit
abbrev pub alphanumeric : ℕ → Bool
alphanumeric b = is_ascii_alphabetic b || is_ascii_digit b

-- a text has from lo to hi bytes
abbrev pub length_in : ℕ → ℕ → List ℕ → Bool
length_in lo hi s = is_in_range lo hi (length s)

-- the number that digits write after n
abbrev pub number_from : ℕ → List ℕ → ℕ
number_from n [] = n
number_from n (b ∷ bs) = number_from (10 * n + (b - 48)) bs

-- the number that digits write
abbrev pub number : List ℕ → ℕ
number s = number_from 0 s

-- the digits before the first other byte
abbrev pub whole : List ℕ → List ℕ
whole [] = []
whole (b ∷ bs) = cond (is_ascii_digit b) (b ∷ whole bs) []

-- what follows those digits
abbrev pub after_whole : List ℕ → List ℕ
after_whole [] = []
after_whole (b ∷ bs) = cond (is_ascii_digit b) (after_whole bs) (b ∷ bs)

-- nothing, or a point and 1 to 6 digits
abbrev pub fraction_ok : List ℕ → Bool
fraction_ok [] = true
fraction_ok (b ∷ bs) = b == 46 && (all is_ascii_digit bs && length_in 1 6 bs)

-- 1 to 10 digits, and perhaps a point and 1 to 6 digits
abbrev pub amount_ok : List ℕ → Bool
amount_ok s = length_in 1 10 (whole s) && fraction_ok (after_whole s)

-- an amount in millionths
abbrev pub millionths : List ℕ → ℕ
millionths s = number (whole s) * 1000000 + number (drop 1 (after_whole s)) * 10 ^ (6 - (length (after_whole s) - 1))

-- a leap year
abbrev pub leap : ℕ → Bool
leap y = y % 4 == 0 && (not (y % 100 == 0) || y % 400 == 0)

-- how many days the month m of the year y has
abbrev pub days_in : ℕ → ℕ → ℕ
days_in y m = cond (m == 2) (cond (leap y) 29 28) (cond (m == 4 || (m == 6 || (m == 9 || m == 11))) 30 31)

-- so many bytes of a text, from a place on
abbrev pub part : ℕ → ℕ → List ℕ → List ℕ
part from size s = take size (drop from s)

-- digits that write a number from lo to hi
abbrev pub numeral_in : ℕ → ℕ → List ℕ → Bool
numeral_in lo hi s = all is_ascii_digit s && is_in_range lo hi (number s)

-- AAAA-MM-DD, a real day of 2010 to 2099
abbrev pub day_ok : List ℕ → Bool
day_ok s =
    (length s == 10)
    && (numeral_in 2010 2099 (part 0 4 s)
    && (slice_index s 4 == 45
    && (numeral_in 1 12 (part 5 2 s)
    && (slice_index s 7 == 45
    && numeral_in 1 (days_in (number (part 0 4 s)) (number (part 5 2 s))) (part 8 2 s)))))

-- hh:mm:ss, to 23:59:59
abbrev pub time_ok : List ℕ → Bool
time_ok s =
    (length s == 8)
    && (numeral_in 0 23 (part 0 2 s)
    && (slice_index s 2 == 58
    && (numeral_in 0 59 (part 3 2 s)
    && (slice_index s 5 == 58
    && numeral_in 0 59 (part 6 2 s)))))

-- a day, 'T' and a time
abbrev pub date_time_ok : List ℕ → Bool
date_time_ok s = length s == 19 && (day_ok (part 0 10 s) && (slice_index s 10 == 84 && time_ok (drop 11 s)))

-- a mark that closes an RFC: A to Z or a digit
abbrev pub rfc_mark : ℕ → Bool
rfc_mark c = is_ascii_uppercase c || is_ascii_digit c

-- the nine characters after the letters of an RFC: a day as AAMMDD, two marks, and 0 to 9 or A
abbrev pub rfc_tail : List ℕ → Bool
rfc_tail s =
    (length s == 9)
    && (all is_ascii_digit (part 0 2 s)
    && (numeral_in 1 12 (part 2 2 s)
    && (numeral_in 1 31 (part 4 2 s)
    && (all rfc_mark (part 6 2 s)
    && (is_ascii_digit (slice_index s 8) || slice_index s 8 == 65)))))

-- n letters of A to Z, & and Ñ, which is two bytes, and then those nine
abbrev pub rfc_after : ℕ → List ℕ → Bool
rfc_after zero s = rfc_tail s
rfc_after (suc n) [] = false
rfc_after (suc n) (b ∷ []) = false
rfc_after (suc n) (b ∷ c ∷ s) = cond (is_ascii_uppercase b || b == 38) (rfc_after n (c ∷ s)) (b == 195 && (c == 145 && rfc_after n s))

-- a byte of a seal or a certificate
abbrev pub base64 : ℕ → Bool
base64 b = alphanumeric b || (b == 43 || (b == 47 || b == 61))

-- a code is 1 to 10 ASCII letters or digits
abbrev pub code_ok : List ℕ → Bool
code_ok s = length_in 1 10 s && all alphanumeric s

-- the kept forms that a kind admits; a text's length counts its Unicode characters
abbrev pub admits : Kind → List ℕ → Bool
admits (Fixed t) s = same s (fixed_text t)
admits (Text n) s = is_in_range 1 n (length (chars s)) && all no_bar s
admits Amount s = amount_ok s
admits Positive s = amount_ok s && nat_lt 0 (millionths s)
admits DateTime s = date_time_ok s
admits (Digits n) s = length s == n && all is_ascii_digit s
admits Mark s = length s == 5 && all alphanumeric s
admits Rfc s = rfc_after 3 s || rfc_after 4 s
admits Seal s = all base64 s
admits (Code c) s = code_ok s

-- the kept form of a text under a kind, which today is the same for all kinds
abbrev pub keep : Kind → List ℕ → List ℕ
keep k s = kept s

-- a text is admitted by its kept form
abbrev pub admitted : Kind → List ℕ → Bool
admitted k s = admits k (keep k s)

-- the catalogue that a code of this kind must be in
abbrev pub catalogue_of : Kind → Option Catalogue
catalogue_of (Fixed t) = None
catalogue_of (Text n) = None
catalogue_of Amount = None
catalogue_of Positive = None
catalogue_of DateTime = None
catalogue_of (Digits n) = None
catalogue_of Mark = None
catalogue_of Rfc = None
catalogue_of Seal = None
catalogue_of (Code c) = Some c

-- a text is admitted exactly when its kept form is, keeping twice is keeping once, and an admitted kept form has no '|'
pub record KindLaw (k : Kind) (s : List ℕ) : Type 0 where
  pub by_kept_form : admitted k s ≡ admitted k (keep k s)
  pub kept_once : keep k (keep k s) ≡ keep k s
  pub without_bar : admitted k s ≡ true → all no_bar (keep k s) ≡ true
