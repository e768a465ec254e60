-- One text written after another is one text written.
use Rattle.std.proofs.Common.{◌≡◌, ℕ, ◌+◌, ◌-◌, ◌<◌, Bool, true, false, List, [], ◌∷◌, ◌++◌, length, get_or, take, sym, refl, ap, ◌∙◌, subst, ⊎_elim, append_assoc, arith}
use lib.Seq.{take-append-add}
use Rattle.std.proofs.lemmas.List.{take_all, take-append-le, get_or_append_left, get_or-append-add, length-append}
use Rattle.std.proofs.lemmas.Bool.{cases_lt, eqb-true, eqb-false, ne_eqb}
use Rattle.std.proofs.lemmas.Bool.Decides.{nat_tests}
use Rattle.rules.specs.Sinks.{Longest, allows_at}
use Rattle.sinks.specs.Writers.{Writing, Written}

abbrev Rule : Type 0
Rule = List ℕ → ℕ → Bool

-- rules that say the same of every continuation allow the same beginning
pub longest_by : {rule rule' : Rule} {t t' : List ℕ} {text : List ℕ} {n : ℕ} → ((zs : List ℕ) (byte : ℕ) → rule' (t' ++ zs) byte ≡ rule (t ++ zs) byte) → Longest rule t text n → Longest rule' t' text n
longest_by {text = text} {n} same l = record {
  within = l.within;
  allowed = λ k lt. same (take k text) (get_or text k 0) ∙ l.allowed k lt;
  stops = λ lt. same (take n text) (get_or text n 0) ∙ l.stops lt;
}

module _ (rule : Rule) (t xs ys : List ℕ) where
  at_first : (k : ℕ) → k < length xs → allows_at rule t (xs ++ ys) k ≡ allows_at rule t xs k
  at_first k lt i = rule (t ++ take-append-le k xs ys (omega arith) i) (get_or_append_left xs ys 0 k lt i)

  at_second : (k : ℕ) → allows_at rule t (xs ++ ys) (length xs + k) ≡ allows_at rule (t ++ xs) ys k
  at_second k i = rule ((ap (λ l. t ++ l) (take-append-add xs ys k) ∙ sym (append_assoc t xs (take k ys))) i) (get_or-append-add xs ys k 0 i)

-- the longest beginning of a text that follows one that is allowed whole
pub longest_then : {rule : Rule} {t xs ys : List ℕ} {k : ℕ} → Longest rule t xs (length xs) → Longest rule (t ++ xs) ys k → Longest rule t (xs ++ ys) (length xs + k)
longest_then {rule} {t} {xs} {ys} {k} p q = record {
  within = omega (arith, length-append xs ys, q.within);
  allowed = λ j lt. ⊎_elim
      (λ low. at_first rule t xs ys j low ∙ p.allowed j low)
      (λ high.
      let back : length xs + (j - length xs) ≡ j = omega arith in
      subst (λ i. allows_at rule t (xs ++ ys) i ≡ true) back (at_second rule t xs ys (j - length xs) ∙ q.allowed (j - length xs) (omega arith)))
      (cases_lt j (length xs));
  stops = λ lt. at_second rule t xs ys k ∙ q.stops (omega (arith, length-append xs ys));
}

-- what follows a text that is not allowed whole does not matter
pub longest_cut : {rule : Rule} {t xs : List ℕ} {n : ℕ} → Longest rule t xs n → n < length xs → (ys : List ℕ) → Longest rule t (xs ++ ys) n
longest_cut {rule} {t} {xs} {n} p lt ys = record {
  within = omega (arith, length-append xs ys);
  allowed = λ j h. at_first rule t xs ys j (omega arith) ∙ p.allowed j h;
  stops = λ h. at_first rule t xs ys n lt ∙ p.stops lt;
}

module _ {W : Type 0} {w : Writing W} where
  -- the empty text
  pub nothing_written : {a : W} → Written w a [] true a
  nothing_written {a} = record {
    count = 0;
    longest = record { within = omega arith; allowed = λ k lt. absurd (omega arith); stops = λ lt. absurd (omega arith) };
    taken = w.nothing a;
    answered = refl;
  }

  -- one byte, taken or refused
  pub byte_written : {a b : W} {byte : ℕ} → w.allows a [] byte ≡ true → w.took a (byte ∷ []) b → Written w a (byte ∷ []) true b
  byte_written {a} {b} {byte} yes' took = record {
    count = 1;
    longest = record {
      within = omega arith;
      allowed = λ k lt. let first : 0 ≡ k = omega arith in subst (λ j. allows_at (w.allows a) [] (byte ∷ []) j ≡ true) first yes';
      stops = λ lt. absurd (omega arith);
    };
    taken = took;
    answered = refl;
  }

  pub byte_refused : {a b : W} {byte : ℕ} → w.allows a [] byte ≡ false → w.took a [] b → Written w a (byte ∷ []) false b
  byte_refused {a} {b} {byte} no' took = record {
    count = 0;
    longest = record { within = omega arith; allowed = λ k lt. absurd (omega arith); stops = λ lt. no' };
    taken = took;
    answered = refl;
  }

  module _ {a b : W} {xs : List ℕ} where
    -- all of a text was written
    pub all_allowed : Written w a xs true b → Longest (w.allows a) [] xs (length xs)
    all_allowed p = subst (Longest (w.allows a) [] xs) (eqb-true _ _ (sym p.answered)) p.longest

    pub all_taken : Written w a xs true b → w.took a xs b
    all_taken p = subst (λ l. w.took a l b) (take_all p.count xs (omega (arith, eqb-true _ _ (sym p.answered)))) p.taken

    -- one text after another
    pub then : {ys : List ℕ} {all : Bool} {c : W} → Written w a xs true b → Written w b ys all c → Written w a (xs ++ ys) all c
    then {ys} {all} {c} p q = record {
      count = length xs + q.count;
      longest = longest_then (all_allowed p) (longest_by (λ zs byte. sym (w.allows_after a b xs zs byte (all_taken p))) q.longest);
      taken = subst (λ l. w.took a l c) (sym (take-append-add xs ys q.count)) (w.both a b c xs (take q.count ys) (all_taken p) q.taken);
      answered = q.answered ∙ grind (arith, nat_tests, length-append xs ys);
    }

    -- a text of which a byte was refused, with what was to follow it
    pub cut : Written w a xs false b → (ys : List ℕ) → Written w a (xs ++ ys) false b
    cut p ys =
        let lt : p.count < length xs = omega (arith, p.longest.within, eqb-false _ _ (sym p.answered)) in
        record {
          count = p.count;
          longest = longest_cut p.longest lt ys;
          taken = subst (λ l. w.took a l b) (sym (take-append-le p.count xs ys (omega arith))) p.taken;
          answered = sym (ne_eqb _ _ (λ e. omega (arith, length-append xs ys)));
        }

    -- the answer of a `?` that passes a refusal on
    pub passed_on : {all : Bool} → all ≡ false → Written w a xs false b → Written w a xs all b
    passed_on no' p = subst (λ all. Written w a xs all b) (sym no') p
