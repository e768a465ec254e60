-- The judgement of a document's letters, from where they end.
use Rattle.std.proofs.Common.{◌≡◌, ℕ, ◌<◌, ◌≤◌, true, List, length, Some, None, Ok, Err, Result, MatchResult, sym, subst, arith}
use Rattle.std.proofs.lemmas.List.{take_all}
use Rattle.std.proofs.lemmas.Bool.Decides.{nat_tests}
use Rattle.rules.specs.Faults.{rank, not_after, Judgement, fault_of}
use Rattle.rules.specs.Grounds.{LettersFault, too_long, bad_letter}
use Rattle.rules.specs.Letters.{Spelled}
use Rattle.rules.specs.declared.grounds.Fault.{Fault}
use Rattle.rules.specs.declared.grounds.Fault.TheVariants.{TooLong, BadLetter}
use Rattle.letters.proofs.Spell.{EndsAt}

-- a document that is too long is refused for that before all else
pub too_long_first : (d : List ℕ) → 65536 < length d → Judgement (LettersFault d) (Some TooLong)
too_long_first d h = (too_long h, first)
  where
    length_first : (n : ℕ) → not_after (rank TooLong) (rank (BadLetter n)) ≡ true
    length_first n = grind (arith, nat_tests)

    first : (g : Fault) → LettersFault d g → not_after (rank TooLong) (rank g) ≡ true
    first g (too_long x) = grind (arith, nat_tests)
    first g (bad_letter n x u) = length_first n

-- a document that is spelled and not too long has no fault of its letters
pub none_found : (d : List ℕ) → length d ≤ 65536 → Spelled d → Judgement (LettersFault d) None
none_found d h s f (too_long x) = omega arith
none_found d h s f (bad_letter n x u) =
    let k = u.longest (length d) (omega arith) (subst Spelled (sym (take_all (length d) d (omega arith))) s) in omega arith

-- else its letters end at one place
pub bad_letter_first : (d : List ℕ) (n : ℕ) → length d ≤ 65536 → EndsAt d n → Judgement (LettersFault d) (Some (BadLetter n))
bad_letter_first d n h (lt, u) = (bad_letter n lt u, first)
  where
    first : (g : Fault) → LettersFault d g → not_after (rank (BadLetter n)) (rank g) ≡ true
    first g (too_long x) = absurd (omega arith)
    first g (bad_letter k x w) =
        let a = u.longest k w.within w.spelled in let b = w.longest n u.within u.spelled in let e : n ≡ k = omega arith in grind (arith, nat_tests)

-- the judgement of the end of a document's letters, told as a fault
pub judged : (d : List ℕ) (r : Result (Unit {0}) ℕ) (m : Result (Unit {0}) Fault) → length d ≤ 65536 → MatchResult r (λ _. Spelled d) (EndsAt d)
    → MatchResult r (λ x. m ≡ Ok x) (λ n. m ≡ Err (BadLetter n)) → Judgement (LettersFault d) (fault_of m)
judged d (Ok x) m h s is = rw is (none_found d h s)
judged d (Err n) m h s is = rw is (bad_letter_first d n h s)
