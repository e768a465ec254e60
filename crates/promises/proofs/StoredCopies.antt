-- The texts that a register stores are lawful fair copies, and what follows where only that is known of them.
use Rattle.std.proofs.Common.{◌≡◌, ℕ, ◌+◌, ◌<◌, ◌≤◌, List, [], ◌∷◌, ◌++◌, length, take, drop, Some, sym, refl, ap, ◌∙◌, subst, ⊎_elim}
use mathlib.Core.Logic.{∥∥₁_elim, ∥∥₁_prop}
use mathlib.Core.HLevel.{hedberg, ⊥_prop}
use native.Mathlib.Bridge.{le_prop}
use Rattle.std.proofs.lemmas.Bool.{cases_Bool, both_ways}
use Rattle.rules.specs.Bytes.{same}
use Rattle.rules.specs.Values.{Values}
use Rattle.rules.specs.Texts.{cadena, fair_copy}
use Rattle.rules.specs.Catalogues.{Facts}
use Rattle.rules.specs.Grounds.{Finds, Lawful, HasValues}
use Rattle.rules.specs.Register.{nth, four_bytes, room}
use Rattle.rules.specs.declared.grounds.Fault.{Fault}
use Rattle.promises.specs.Stored.{decoded, Holds, IsCopy, AllCopies}
use Rattle.theory.proofs.Options.{none_some}
use Rattle.theory.proofs.Bytes.{same_is, same_refl}
use Rattle.theory.proofs.Unique.{same_values}
use Rattle.theory.proofs.FairCopyLaws.{whole_values, copy_has_values, copy_stays_lawful}
use Rattle.promises.proofs.CadenaShorter.{cadena_shorter}
use Rattle.promises.proofs.Places.{nth_push}
use Rattle.promises.proofs.Stored.{decoded_held, holds_more}

-- the fair copy of a lawful document is one
pub copy_made : (facts : Facts) (d : List ℕ) (v : Values) → Lawful facts d → HasValues d v → IsCopy (fair_copy v)
copy_made facts d v l h = record { facts = facts; passes = copy_stays_lawful d v h facts l; values = v; reads_back = copy_has_values v (whole_values facts d v l h); copy_is = refl }

pub copies_none : AllCopies []
copies_none = record { each = λ n c h. absurd (none_some refl h) }

pub copies_more : {cs : List (List ℕ)} (c : List ℕ) → AllCopies cs → IsCopy c → AllCopies (cs ++ c ∷ [])
copies_more {cs} c a i = record { each = λ n x h. ⊎_elim (λ e. a.each n x e) (λ e. subst IsCopy (sym e.1) i) (nth_push cs c x n h) }

-- one text more in a memory
pub known_more : {m : List ℕ} {used count : ℕ} {cs : List (List ℕ)} (c m' : List ℕ) → Holds m used count cs → count < 256 → used + (length c + 4) ≤ room m → m' ≡ take used m ++ ((four_bytes (length c) ++ c) ++ drop (used + (length c + 4)) m) →
    ∥ AllCopies (decoded count m) ∥₁ → IsCopy c → ∥ AllCopies (decoded (count + 1) m') ∥₁
known_more c m' h few fit is known i =
    ∥∥₁_elim known ∥∥₁_prop (λ a. ∣ subst AllCopies (sym (decoded_held (holds_more c m' h few fit is))) (copies_more c (subst AllCopies (decoded_held h) a) i) ∣₁)

-- two texts are equal in one way
pub bytes_set : IsSet (List ℕ)
bytes_set = hedberg (λ s t. ⊎_elim (λ e. yes (same_is s t e)) (λ e. no (λ p. both_ways _ e (ap (same s) (sym p) ∙ same_refl s))) (cases_Bool (same s t)))

module _ {cs : List (List ℕ)} (known : ∥ AllCopies cs ∥₁) (n : ℕ) (c : List ℕ) (at : nth cs n ≡ Some c) where
  -- a stored text is the fair copy of its values
  pub stored_copy : (v : Values) → HasValues c v → c ≡ fair_copy v
  stored_copy v h = ∥∥₁_elim known (bytes_set c (fair_copy v)) (λ a. let i = a.each n c at in i.copy_is ∙ ap fair_copy (same_values c i.values v i.reads_back h))

  -- no fault is found in a stored text under every set
  pub stored_sound : (f : Fault) → ((facts : Facts) → Finds facts c f) → ⊥
  stored_sound f h = ∥∥₁_elim known ⊥_prop (λ a. let i = a.each n c at in i.passes f (h i.facts))

  -- a stored text has values
  pub stored_values : ∥ ((v : Values) × HasValues c v) ∥₁
  stored_values = ∥∥₁_elim known ∥∥₁_prop (λ a. let i = a.each n c at in ∣ (i.values, i.reads_back) ∣₁)

  -- the cadena of a stored text is no longer than the text
  pub stored_cadena : (v : Values) → HasValues c v → length (cadena v) ≤ length c
  stored_cadena v h =
      ∥∥₁_elim known le_prop
      (λ a. let i = a.each n c at in subst (λ k. length (cadena v) ≤ k) (ap length (sym (stored_copy v h))) (cadena_shorter v (whole_values i.facts c v i.passes h)))
