-- What entering a lawful document answers.
use Rattle.std.proofs.Common.{◌≡◌, ℕ, suc, ◌+◌, ◌-◌, ◌^◌, ◌<◌, ◌≤◌, true, List, ◌++◌, length, take, drop, Some, Ok, Err, sym, refl, ap, ◌∙◌, subst, ⊎_elim, arith}
use Rattle.std.proofs.lemmas.Bool.{cases_lt}
use Rattle.rules.specs.Markup.{Document, Marks}
use Rattle.rules.specs.Located.{elements_of}
use Rattle.rules.specs.Values.{Values, values_of}
use Rattle.rules.specs.Texts.{fair_copy}
use Rattle.rules.specs.Catalogues.{Facts}
use Rattle.rules.specs.Grounds.{letters, too_long, tree, names, Lawful, HasValues}
use Rattle.rules.specs.Register.{nth, four_bytes, room, opened, free, enter, entering, Absent, already, full, no_room, granted, lawful, Step}
use Rattle.rules.specs.declared.grounds.Fault.TheVariants.{AlreadyEntered, Full, NoRoom}
use Rattle.theory.proofs.FairCopyLaws.{copy_never_longer}
use Rattle.promises.specs.Stored.{decoded, Holds, holds, state_at, AllCopies}
use Rattle.promises.proofs.Stored.{length_decoded, holds_true, holds_from, holds_more, free_at, more_at}
use Rattle.promises.proofs.StoredCopies.{copy_made, known_more}
use Rattle.walk.specs.Coming.{InOrder}
use Rattle.fair.specs.Copy.{AllNamed}
use Rattle.invoice.specs.Checks.{Passes}
use Rattle.accounts.specs.declared.summaries.Summary.{Summary}
use Rattle.register.specs.Copied.{CopyOf}
use Rattle.register.specs.States.{open_state, texts}
use Rattle.register.specs.declared.Register.{Register}
use borrow.Rule.Slice.PartMut.{put_mid}
use Rattle.register.proofs.Copies.{entry_written}
use Rattle.register.specs.declared.phases.Open.{Open}

-- a lawful document whose fair copy has a length
pub record Measured (facts : Facts) (d : List ℕ) (n : ℕ) : Type 0 where
  pub lawful_under : Lawful facts d
  pub values : Values
  pub has_values : HasValues d values
  pub short : length (fair_copy values) ≤ 65536
  pub copy : CopyOf d (fair_copy values)
  pub long : length (fair_copy values) ≡ n

-- a document that passes its check, and the length that is counted of its fair copy
pub measured : {facts : Facts} {d : List ℕ} {s : Summary} {n : ℕ} → Passes facts d s → ((m : Document) → Marks d m → InOrder d m → AllNamed m → length (fair_copy (values_of (elements_of m))) < 2 ^ 64 → n ≡ length (fair_copy (values_of (elements_of m)))) → Measured facts d n
measured {facts} {d} {s} {n} p counted =
    let l = p.lawful in
    let (m, marks, is) = p.has_values in
    let size : length d ≤ 65536 = ⊎_elim (λ lt. absurd (l _ (letters _ (too_long lt)))) (λ le. le) (cases_lt 65536 (length d)) in
    let short : length (fair_copy p.values) ≤ 65536 = omega (arith, copy_never_longer facts d p.values l p.has_values) in
    let copy : CopyOf d (fair_copy p.values) = record {
      document = m;
      marks = marks;
      in_order = λ f x. l f (tree m f marks x);
      named = λ t a f x. l f (names m t f marks a x);
      copy_is = ap fair_copy (sym is);
      short = omega arith;
    } in
    let same = ap length copy.copy_is in
    record {
      lawful_under = l;
      values = p.values;
      has_values = p.has_values;
      short = short;
      copy = copy;
      long = sym (counted m marks copy.in_order copy.named (omega arith) ∙ same);
    }

module _ {facts : Facts} {d : List ℕ} {n : ℕ} (k : Measured facts d n) (r : Register Open) where
  size : length (decoded r.count r.memory.now) ≡ r.count
  size = length_decoded r.count r.memory.now

  held : Holds r.memory.now r.used r.count (decoded r.count r.memory.now)
  held = holds_true r.memory.now r.used r.count r.held

  -- an entry is the copy
  pub entered_already : (e : ℕ) → ((c : List ℕ) → CopyOf d c → length c ≡ n → nth (texts r) e ≡ Some c) → Step (open_state r) (enter facts d) (entering (Err (AlreadyEntered e))) (open_state r)
  entered_already e found = (
    refl,
    lawful k.values k.lawful_under k.has_values (already e (found (fair_copy k.values) k.copy k.long) refl refl),
  )

  module _ (none : (c : List ℕ) → CopyOf d c → length c ≡ n → Absent c (texts r)) where
    absent : Absent (fair_copy k.values) (decoded r.count r.memory.now)
    absent = none (fair_copy k.values) k.copy k.long

    -- there are 256 entries
    pub entered_full : 256 ≤ r.count → Step (open_state r) (enter facts d) (entering (Err Full)) (open_state r)
    entered_full le = (refl, lawful k.values k.lawful_under k.has_values (full absent (omega (arith, size)) refl refl))

    module _ (few : r.count < 256) where
      room_left : free (open_state r) ≡ room r.memory.now - r.used
      room_left = free_at opened held

      -- the copy does not fit
      pub entered_without_room : room r.memory.now - r.used < n + 4 → Step (open_state r) (enter facts d) (entering (Err NoRoom)) (open_state r)
      entered_without_room lt = (refl, lawful k.values k.lawful_under k.has_values (no_room absent (omega (arith, size)) (omega (arith, room_left, k.long)) refl refl))

      -- the copy is written after the other entries, in a part of the memory that is x then
      module _ (fit : n + 4 ≤ room r.memory.now - r.used) (x : List ℕ)
          (stored : (c : List ℕ) → CopyOf d c → length c + 4 ≡ length (take (r.used + (n + 4) - r.used) (drop r.used r.memory.now)) → x ≡ four_bytes (length c) ++ c) where
        abbrev c : List ℕ
        c = fair_copy k.values

        abbrev m' : List ℕ
        m' = put_mid r.used (r.used + (n + 4) - r.used) r.memory.now x

        fits : r.used + (length c + 4) ≤ room r.memory.now
        fits = omega (arith, held.fits, k.long)

        written : m' ≡ take r.used r.memory.now ++ ((four_bytes (length c) ++ c) ++ drop (r.used + (length c + 4)) r.memory.now)
        written = entry_written r.memory.now c x r.used n k.long fits (stored c k.copy)

        pub entered_new : Step (open_state r) (enter facts d) (entering (Ok (r.count + 1))) (state_at opened m' (r.used + (n + 4)) (r.count + 1))
        entered_new =
            let next : r.count + 1 ≡ suc (length (decoded r.count r.memory.now)) = omega (arith, size) in
            subst (λ i. Step (open_state r) (enter facts d) (entering (Ok (r.count + 1))) (state_at opened m' (r.used + (i + 4)) (r.count + 1))) k.long
            (refl, lawful k.values k.lawful_under k.has_values (granted absent (omega (arith, size)) (omega (arith, room_left, k.long)) (ap (λ i. entering (Ok i)) next) (more_at opened c m' held few fits written)))

        pub new_held : holds m' (r.used + (n + 4)) (r.count + 1) ≡ true
        new_held = subst (λ i. holds m' (r.used + (i + 4)) (r.count + 1) ≡ true) k.long (holds_from (holds_more c m' held few fits written))

        pub new_copies : ∥ AllCopies (decoded (r.count + 1) m') ∥₁
        new_copies = known_more c m' held few fits written r.copies (copy_made facts d k.values k.lawful_under k.has_values)
