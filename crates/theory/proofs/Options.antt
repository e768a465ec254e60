-- What is there and what is not.
use Rattle.std.proofs.Common.{◌≡◌, ℕ, true, not, is_some, Some, None, Option, refl, arith}
use Rattle.std.proofs.lemmas.Bool.{false≢true}

-- nothing is not something
pub none_some : {A : Type 0} {x : A} {o : Option A} → o ≡ None → o ≡ Some x → ⊥
none_some a b = let z : ◌≡◌ {A = ℕ} 0 1 = cc in omega arith

-- one thing at most is there
pub some_same : {A : Type 0} {x y : A} {o : Option A} → o ≡ Some x → o ≡ Some y → x ≡ y
some_same a b = cc

-- what is not something is nothing
pub is_none : {A : Type 0} (o : Option A) → not (is_some o) ≡ true → o ≡ None
is_none None h = refl
is_none (Some x) h = absurd (false≢true h)
