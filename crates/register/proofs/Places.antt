-- The texts of a register by their numbers, which begin at 1.
use Rattle.std.proofs.Common.{◌≡◌, ℕ, zero, suc, ◌+◌, ◌<◌, List, [], ◌∷◌, length, Some, None, Option, Ok, Bor, refl, sym, ap, ◌∙◌, arith}
use Rattle.std.specs.List.{slice_get, AllWithin, HoldsAt, slice_index_or}
use Rattle.std.specs.Option.{MatchOption, option_map, ok_or}
use Rattle.rules.specs.Register.{nth, Absent}
use Rattle.theory.proofs.Options.{none_some}
use Rattle.promises.proofs.Stored.{no_entry_zero, entry_within}

nth_get : (cs : List (List ℕ)) (k : ℕ) → nth cs (suc k) ≡ slice_get cs k
nth_get [] k = refl
nth_get (c ∷ cs) zero = refl
nth_get (c ∷ cs) (suc k) = nth_get cs k

nth_index : (cs : List (List ℕ)) (k : ℕ) (d : List ℕ) → k < length cs → nth cs (suc k) ≡ Some (slice_index_or cs k d)
nth_index [] k d lt = absurd (omega arith)
nth_index (c ∷ cs) zero d lt = refl
nth_index (c ∷ cs) (suc k) d lt = nth_index cs k d (omega arith)

-- what passing over k texts gives is the text with the next number
pub nth_given : (cs : List (List ℕ)) (k n : ℕ) → n ≡ suc k → (r : Option (Bor (List ℕ))) → option_map (λ x. x.now) r ≡ slice_get cs k → MatchOption r (nth cs n ≡ None) (λ t. nth cs n ≡ Some t.now)
nth_given cs k n e None h = ap (nth cs) e ∙ nth_get cs k ∙ sym h
nth_given cs k n e (Some x) h = ap (nth cs) e ∙ nth_get cs k ∙ sym h

-- a text that is there is not told as missing
pub nth_there : {E : Type 0} (cs : List (List ℕ)) (n : ℕ) (e : E) (r : Option (Bor (List ℕ))) {t : Bor (List ℕ)} → Ok t ≡ ok_or r e → MatchOption r (nth cs n ≡ None) (λ x. nth cs n ≡ Some x.now) → nth cs n ≡ Some t.now
nth_there cs n e None h f = absurd (let z : ◌≡◌ {A = ℕ} 0 1 = cc in omega arith)
nth_there cs n e (Some x) {t} h f = let same : x ≡ t = cc in f ∙ ap (λ y. Some y.now) same

-- a text at a place is the one with the next number
pub nth_found : (c : List ℕ) (cs : List (List ℕ)) (k : ℕ) → k < length cs → HoldsAt (λ t. t ≡ c) cs k → nth cs (k + 1) ≡ Some c
nth_found c cs k lt f =
    let e : k + 1 ≡ suc k = omega arith in
    ap (nth cs) e ∙ nth_index cs k c lt ∙ ap Some (f c)

-- a text that stands at no place has no number
pub nth_absent : (c : List ℕ) (cs : List (List ℕ)) → AllWithin (λ t. t ≡ c → ⊥) cs 0 (length cs) → Absent c cs
nth_absent c cs f zero h = none_some (no_entry_zero cs) h
nth_absent c cs f (suc k) h =
    let (a, b) = entry_within cs (suc k) c h in
    let lt : k < length cs = omega arith in
    let e : slice_index_or cs k c ≡ c = (let s = nth_index cs k c lt in cc) in
    f k c (omega arith) lt e
