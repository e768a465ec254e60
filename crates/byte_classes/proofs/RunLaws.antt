-- What std's words say of runs of bytes of one class.
use Rattle.std.proofs.Common.{◌≡◌, ℕ, ◌+◌, ◌≤◌, Bool, true, false, cond, not, ◌&&◌, List, [], ◌∷◌, length, Option, Some, None, refl, ap, arith}
use Rattle.std.proofs.Math.Dec.{ltb}
use Rattle.std.specs.Option.{unwrap_or}
use Rattle.std.specs.List.{prefix_len, position_or_len, list_all}
use Rattle.std.proofs.lemmas.Grind.{common_steps}
use Rattle.std.proofs.lemmas.List.Recursion.{is_position_or_len}
use Rattle.std.proofs.lemmas.List.Sums.{prefix_len-le-length}
use Rattle.rules.specs.Bytes.{all}

-- a choice by the opposite of a test
cond_not : {A : Type 0} (b : Bool) (x y : A) → cond b y x ≡ cond (not b) x y
cond_not true x y = refl
cond_not false x y = refl

-- a run of bytes is as long as the place of the first byte that is not of the class
prefix_len-position : (p : ℕ → Bool) (bs : List ℕ) → prefix_len p bs ≡ position_or_len (λ b. not (p b)) bs
prefix_len-position p bs = is_position_or_len (prefix_len p) (λ b. not (p b)) refl (λ b r. cond_not (p b) 0 (1 + prefix_len p r)) bs

-- both words for 'every byte passes' are one
pub all-list_all : (p : ℕ → Bool) (bs : List ℕ) → all p bs ≡ list_all p bs
all-list_all p [] = refl
all-list_all p (b ∷ bs) = ap (λ r. p b && r) (all-list_all p bs)

-- the place of the first byte that is not of the class, or else the end, is where the run ends
pub run_end : (p : ℕ → Bool) (bs : List ℕ) (r : Option ℕ) →
    r ≡ cond (ltb (position_or_len (λ b. not (p b)) bs) (length bs)) (Some (position_or_len (λ b. not (p b)) bs)) None →
    unwrap_or r (length bs) ≡ prefix_len p bs
run_end p bs r e =
    rw e (rw (← prefix_len-position p bs) (chosen (prefix_len p bs) (length bs) (prefix_len-le-length p bs))) where
      chosen : (n m : ℕ) → n ≤ m → unwrap_or (cond (ltb n m) (Some n) None) m ≡ n
      chosen n m h = grind (arith, common_steps, h)
