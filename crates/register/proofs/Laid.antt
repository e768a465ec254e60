-- The entries that a memory begins with.
use Rattle.std.proofs.Common.{◌≡◌, ℕ, suc, ◌+◌, ◌≤◌, List, ◌∷◌, ◌++◌, length, take, drop, sym, refl, ap, ◌∙◌, append_assoc, arith}
use Rattle.std.proofs.lemmas.List.{take_at, drop_at, drop-drop, length-append, take-append-drop}
use Rattle.rules.specs.Register.{four_bytes, packed}
use Rattle.promises.specs.Stored.{number, decoded, Holds, AllCopies}
use Rattle.promises.proofs.Stored.{number_four}
use Rattle.promises.proofs.Places.{nth_later}
use mathlib.Core.Logic.{∥∥₁_elim, ∥∥₁_prop}

-- a memory begins with its first n entries
abbrev pub Laid : ℕ → List ℕ → Type 0
Laid n m = packed (decoded n m) ≡ take (length (packed (decoded n m))) m

-- a memory that holds entries begins with them
pub laid_held : {m : List ℕ} {used count : ℕ} → Holds m used count (decoded count m) → Laid count m
laid_held {m} {used} {count} h =
    let cs : List (List ℕ) = decoded count m in
    sym (ap (take (length (packed cs))) h.whole ∙ take_at (packed cs) (drop used m) (length (packed cs)) refl)

module _ (k : ℕ) (m : List ℕ) (laid : Laid (suc k) m) where
  text : List ℕ
  text = take (number m) (drop 4 m)

  others : List ℕ
  others = packed (decoded k (drop (4 + number m) m))

  end : List ℕ
  end = drop (length (packed (decoded (suc k) m))) m

  whole : m ≡ four_bytes (length text) ++ (text ++ (others ++ end))
  unfolding text others end
  whole =
      sym (take-append-drop (length (packed (decoded (suc k) m))) m)
      ∙ ap (λ l. l ++ end) (sym laid)
      ∙ append_assoc (four_bytes (length text) ++ text) others end
      ∙ append_assoc (four_bytes (length text)) text (others ++ end)

  size : number m ≡ length text
  size = ap number whole ∙ number_four (length text)

  -- its first text ends within it
  pub first_within : 4 + number m ≤ length m
  first_within = omega (arith, size, ap length whole, length-append (four_bytes (length text)) (text ++ (others ++ end)), length-append text (others ++ end))

  rest : drop (4 + number m) m ≡ others ++ end
  rest =
      (λ i. drop (4 + size i) (whole i))
      ∙ sym (drop-drop (length text) 4 (four_bytes (length text) ++ (text ++ (others ++ end))))
      ∙ drop_at text (others ++ end) (length text) refl

  -- and what follows begins with the others
  pub laid_next : Laid k (drop (4 + number m) m)
  unfolding others
  laid_next = sym (ap (take (length others)) rest ∙ take_at others end (length others) refl)

-- the texts after the first are fair copies too
pub copies_next : {c : List ℕ} {cs : List (List ℕ)} → ∥ AllCopies (c ∷ cs) ∥₁ → ∥ AllCopies cs ∥₁
copies_next {c} {cs} known = ∥∥₁_elim known ∥∥₁_prop (λ a. ∣ record { each = λ n x h. a.each (suc n) x (nth_later c x cs n h) } ∣₁)
