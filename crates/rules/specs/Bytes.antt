-- Bytes, blanks and names.
use Rattle.std.specs.Prelude.{◌≡◌, ℕ, Bool, true, false, not, ◌&&◌, ◌||◌, List, [], ◌∷◌, ◌++◌, ◌==◌, nat_le}
use Rattle.std.specs.Char.{is_ascii_digit, is_ascii_alphabetic}

-- a blank is a space, a tab, a line feed or a carriage return
abbrev pub blank : ℕ → Bool
blank b = b == 32 || (b == 9 || (b == 10 || b == 13))

-- a byte of a name is an ASCII letter or digit, one of : _ - . or any byte from 128 up
abbrev pub name_byte : ℕ → Bool
name_byte b = is_ascii_alphabetic b || (is_ascii_digit b || (b == 58 || (b == 95 || (b == 45 || (b == 46 || nat_le 128 b)))))

-- any byte but '|', which parts the fields of a cadena
abbrev pub no_bar : ℕ → Bool
no_bar b = not (b == 124)

-- every element passes a test
abbrev pub all : {A : Type 0} → (A → Bool) → List A → Bool
all p [] = true
all p (x ∷ xs) = p x && all p xs

-- two texts have the same bytes
abbrev pub same : List ℕ → List ℕ → Bool
same [] [] = true
same [] (y ∷ ys) = false
same (x ∷ xs) [] = false
same (x ∷ xs) (y ∷ ys) = x == y && same xs ys

-- x stands in a list, after some elements and before others
abbrev pub Among : {A : Type 0} → A → List A → Type 0
Among {A} x xs = (before : List A) × (after : List A) × (xs ≡ before ++ x ∷ after)
