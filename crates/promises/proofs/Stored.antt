-- How entries are read from a register's memory and written to it.
use Rattle.std.proofs.Common.{◌≡◌, ℕ, zero, suc, ◌+◌, ◌-◌, ◌/◌, ◌^◌, ◌<◌, ◌≤◌, true, ◌&&◌, eqb, leb, List, [], ◌∷◌, ◌++◌, length, take, drop, Some, None, sym, refl, ap, ◌∙◌, append_assoc, append-nil, arith, eq-eqb, eqb-true}
use borrow.Rule.Slice.PartMut.{put_mid}
use Rattle.std.proofs.lemmas.Bool.{and_parts, leb-true, le-leb}
use Rattle.std.proofs.lemmas.Slice.{put_mid-paste, take-put_mid, drop-put_mid}
use Rattle.std.proofs.lemmas.List.{take_at, drop_at, drop-drop, length-append, length-drop, length-take-le, take-append-drop, take_all}
use Rattle.rules.specs.Bytes.{same}
use Rattle.rules.specs.Register.{nth, four_bytes, packed, room, Phase, opened, memory, free, new, with_entry, Absent}
use Rattle.promises.specs.Stored.{number, decoded, place_of_entry, Holds, holds, state_at}
use Rattle.theory.proofs.Options.{none_some}
use Rattle.theory.proofs.Bytes.{same_is, same_refl}
use Rattle.promises.proofs.Places.{split_next}

-- four bytes write the number that they are of
pub number_four : (n : ℕ) → number (four_bytes n) ≡ n
number_four n = omega arith

-- of a number below 2^32 each of the four is a byte
pub four_are_bytes : (n : ℕ) → n < 2 ^ 32 → n / 16777216 < 256
four_are_bytes n h = omega arith

-- how entries are packed
pub packed_append : (xs ys : List (List ℕ)) → packed (xs ++ ys) ≡ packed xs ++ packed ys
packed_append [] ys = refl
packed_append (x ∷ xs) ys = ap (λ l. (four_bytes (length x) ++ x) ++ l) (packed_append xs ys) ∙ sym (append_assoc (four_bytes (length x) ++ x) (packed xs) (packed ys))

pub packed_push : (cs : List (List ℕ)) (c : List ℕ) → packed (cs ++ c ∷ []) ≡ packed cs ++ (four_bytes (length c) ++ c)
packed_push cs c = packed_append cs (c ∷ []) ∙ ap (λ l. packed cs ++ l) (append-nil (four_bytes (length c) ++ c))

pub length_packed_push : (cs : List (List ℕ)) (c : List ℕ) → length (packed (cs ++ c ∷ [])) ≡ length (packed cs) + (length c + 4)
length_packed_push cs c = omega (arith, ap length (packed_push cs c), length-append (packed cs) (four_bytes (length c) ++ c), length-append (four_bytes (length c)) c)

-- memory that begins with one entry
module _ (c p : List ℕ) where
  body_one : take (length c) (drop 4 ((four_bytes (length c) ++ c) ++ p)) ≡ c
  body_one = take_at c p (length c) refl

  after_one : drop (4 + length c) ((four_bytes (length c) ++ c) ++ p) ≡ p
  after_one = sym (drop-drop (length c) 4 ((four_bytes (length c) ++ c) ++ p)) ∙ drop_at c p (length c) refl

  decoded_one : (k : ℕ) → decoded (suc k) ((four_bytes (length c) ++ c) ++ p) ≡ c ∷ decoded k p
  decoded_one k =
      let m : List ℕ = (four_bytes (length c) ++ c) ++ p in
      let first : take (number m) (drop 4 m) ≡ c = ap (λ n. take n (drop 4 m)) (number_four (length c)) ∙ body_one in
      let others : drop (4 + number m) m ≡ p = ap (λ n. drop (4 + n) m) (number_four (length c)) ∙ after_one in
      λ i. first i ∷ decoded k (others i)

pub decoded_packed : (cs : List (List ℕ)) (rest : List ℕ) → decoded (length cs) (packed cs ++ rest) ≡ cs
decoded_packed [] rest = refl
decoded_packed (c ∷ cs) rest =
    ap (decoded (suc (length cs))) (append_assoc (four_bytes (length c) ++ c) (packed cs) rest)
    ∙ decoded_one c (packed cs ++ rest) (length cs)
    ∙ ap (λ l. c ∷ l) (decoded_packed cs rest)

pub length_decoded : (n : ℕ) (m : List ℕ) → length (decoded n m) ≡ n
length_decoded zero m = refl
length_decoded (suc n) m = ap suc (length_decoded n _)

-- a memory that holds entries decodes to them
pub decoded_held : {m : List ℕ} {used count : ℕ} {cs : List (List ℕ)} → Holds m used count cs → decoded count m ≡ cs
decoded_held {m} {used} {count} {cs} h = (λ i. decoded (h.count_is i) (h.whole i)) ∙ decoded_packed cs (drop used m)

-- the test is passed exactly by what holds entries
pub holds_true : (m : List ℕ) (used count : ℕ) → holds m used count ≡ true → Holds m used count (decoded count m)
unfolding holds
holds_true m used count h =
    let cs : List (List ℕ) = decoded count m in
    let (a, h₁) = and_parts (leb count 256) _ h in
    let (b, h₂) = and_parts (leb used (room m)) _ h₁ in
    let (c, d) = and_parts (eqb used (length (packed cs))) _ h₂ in
    record {
      whole = sym (take-append-drop used m) ∙ ap (λ l. l ++ drop used m) (same_is _ _ d);
      used_is = eqb-true _ _ c;
      count_is = sym (length_decoded count m);
      few = leb-true _ _ a;
      fits = leb-true _ _ b;
    }

pub holds_from : {m : List ℕ} {used count : ℕ} {cs : List (List ℕ)} → Holds m used count cs → holds m used count ≡ true
unfolding holds
holds_from {m} {used} {count} {cs} h =
    let back = decoded_held h in
    let size : used ≡ length (packed (decoded count m)) = h.used_is ∙ ap (λ l. length (packed l)) (sym back) in
    let front : take used m ≡ packed (decoded count m) = ap (take used) h.whole ∙ take_at (packed cs) (drop used m) used (sym h.used_is) ∙ ap packed (sym back) in
    λ i. le-leb _ _ h.few i && (le-leb _ _ h.fits i && (eq-eqb _ _ size i && (ap (λ l. same l (packed (decoded count m))) front ∙ same_refl (packed (decoded count m))) i))

pub holds_none : (m : List ℕ) → Holds m 0 0 []
holds_none m = record { whole = refl; used_is = refl; count_is = refl; few = omega arith; fits = omega arith }

-- the entries by their numbers
pub entry_there : (cs : List (List ℕ)) (n : ℕ) → 0 < n → n ≤ length cs → (c : List ℕ) × (nth cs n ≡ Some c)
entry_there [] n p h = absurd (omega arith)
entry_there (c ∷ cs) zero p h = absurd (omega arith)
entry_there (c ∷ cs) (suc zero) p h = (c, refl)
entry_there (c ∷ cs) (suc (suc n)) p h = entry_there cs (suc n) (omega arith) (omega arith)

pub entry_within : (cs : List (List ℕ)) (n : ℕ) (c : List ℕ) → nth cs n ≡ Some c → (0 < n) × (n ≤ length cs)
entry_within [] n c h = absurd (none_some refl h)
entry_within (x ∷ cs) zero c h = absurd (none_some refl h)
entry_within (x ∷ cs) (suc zero) c h = (omega arith, omega arith)
entry_within (x ∷ cs) (suc (suc n)) c h = let (a, b) = entry_within cs (suc n) c h in (omega arith, omega arith)

pub no_entry_zero : (cs : List (List ℕ)) → nth cs 0 ≡ None
no_entry_zero [] = refl
no_entry_zero (c ∷ cs) = refl

pub no_entry_past : (cs : List (List ℕ)) (n : ℕ) → length cs < n → nth cs n ≡ None
no_entry_past [] n h = refl
no_entry_past (c ∷ cs) zero h = refl
no_entry_past (c ∷ cs) (suc zero) h = absurd (omega arith)
no_entry_past (c ∷ cs) (suc (suc n)) h = no_entry_past cs (suc n) (omega arith)

-- a text that no entry is, up to the last
pub absent_all : (c : List ℕ) (cs : List (List ℕ)) (n : ℕ) → length cs < n → ((k : ℕ) → k < n → nth cs k ≡ Some c → ⊥) → Absent c cs
absent_all c cs n h f k e = let (a, b) = entry_within cs k c e in f k (omega arith) e

-- what stands at an entry's place, before which the entries with lower numbers stand
split_at : (cs : List (List ℕ)) (n : ℕ) (c : List ℕ) → nth cs n ≡ Some c → (after : List (List ℕ)) × (cs ≡ take (n - 1) cs ++ c ∷ after) × (take n cs ≡ take (n - 1) cs ++ c ∷ [])
split_at cs n c h =
    let (a, b) = entry_within cs n c h in
    let e : n ≡ suc (n - 1) = omega arith in
    let (after, x, y) = split_next cs (n - 1) c (ap (nth cs) (sym e) ∙ h) in
    (after, x, ap (λ k. take k cs) e ∙ y)

-- the n-th entry stands at a place: its four bytes tell its length, and its text follows
pub record StandsAt (m : List ℕ) (used : ℕ) (cs : List (List ℕ)) (n at : ℕ) (c : List ℕ) : Type 0 where
  pub head : at + 4 ≤ length m
  pub size : number (drop at m) ≡ length c
  pub fits : at + 4 + length c ≤ used
  pub within : at + 4 + length c ≤ length m
  pub body : take (length c) (drop (at + 4) m) ≡ c
  pub next : at + 4 + length c ≡ place_of_entry cs (n + 1)

pub stands_at : {m : List ℕ} {used count : ℕ} {cs : List (List ℕ)} → Holds m used count cs → (n at : ℕ) (c : List ℕ) → nth cs n ≡ Some c → at ≡ place_of_entry cs n → StandsAt m used cs n at c
stands_at {m} {used} {count} {cs} h n at c x is =
    let (after, e, f) = split_at cs n c x in
    let before : List (List ℕ) = take (n - 1) cs in
    let one : List ℕ = four_bytes (length c) ++ c in
    let p : List ℕ = packed after ++ drop used m in
    let split : packed cs ≡ packed before ++ (one ++ packed after) = ap packed e ∙ packed_append before (c ∷ after) in
    let whole : m ≡ packed before ++ (one ++ p) = h.whole ∙ ap (λ l. l ++ drop used m) split ∙ append_assoc (packed before) (one ++ packed after) (drop used m) ∙ ap (λ l. packed before ++ l) (append_assoc one (packed after) (drop used m)) in
    let from : drop at m ≡ one ++ p = (λ i. drop (is i) (whole i)) ∙ drop_at (packed before) (one ++ p) _ refl in
    let long : length m ≡ length (packed before) + length (one ++ p) = ap length whole ∙ length-append (packed before) (one ++ p) in
    let long_one : length one ≡ 4 + length c = length-append (four_bytes (length c)) c in
    let long_rest : length (one ++ p) ≡ length one + length p = length-append one p in
    let long_used : length (packed cs) ≡ length (packed before) + (length one + length (packed after)) = ap length split ∙ length-append (packed before) (one ++ packed after) ∙ ap (λ k. length (packed before) + k) (length-append one (packed after)) in
    let same_n : n + 1 - 1 ≡ n = omega arith in
    record {
      head = omega arith;
      size = ap number from ∙ number_four (length c);
      fits = omega (arith, h.used_is);
      within = omega arith;
      body = ap (take (length c)) (sym (drop-drop 4 at m) ∙ ap (drop 4) from) ∙ body_one c p;
      next = omega (arith, ap (λ k. length (packed (take k cs))) same_n, ap (λ l. length (packed l)) f, length_packed_push before c);
    }

-- the text of the n-th entry, which stands at a place
pub record EntryAt (m : List ℕ) (used count n at : ℕ) : Type 0 where
  pub text : List ℕ
  pub there : nth (decoded count m) n ≡ Some text
  pub stands : StandsAt m used (decoded count m) n at text

pub entry_at : (m : List ℕ) (used count n at : ℕ) → holds m used count ≡ true → 0 < n → n ≤ count → at ≡ place_of_entry (decoded count m) n → EntryAt m used count n at
entry_at m used count n at h low high is =
    let held = holds_true m used count h in
    let (c, x) = entry_there (decoded count m) n low (omega (arith, held.count_is)) in
    record { text = c; there = x; stands = stands_at held n at c x is }

-- one entry more, written after the others
pub holds_more : {m : List ℕ} {used count : ℕ} {cs : List (List ℕ)} (c m' : List ℕ) → Holds m used count cs → count < 256 → used + (length c + 4) ≤ room m → m' ≡ take used m ++ ((four_bytes (length c) ++ c) ++ drop (used + (length c + 4)) m) →
    Holds m' (used + (length c + 4)) (count + 1) (cs ++ c ∷ [])
holds_more {m} {used} {count} {cs} c m' h few fit is =
    let one : List ℕ = four_bytes (length c) ++ c in
    let next : ℕ = used + (length c + 4) in
    let front : take used m ≡ packed cs = ap (take used) h.whole ∙ take_at (packed cs) _ used (sym h.used_is) in
    let size : next ≡ length (packed (cs ++ c ∷ [])) = omega (arith, length_packed_push cs c, h.used_is) in
    let written : m' ≡ packed (cs ++ c ∷ []) ++ drop next m = is ∙ ap (λ l. l ++ (one ++ drop next m)) front ∙ sym (append_assoc (packed cs) one (drop next m)) ∙ ap (λ l. l ++ drop next m) (sym (packed_push cs c)) in
    let left : drop next m' ≡ drop next m = ap (drop next) written ∙ drop_at (packed (cs ++ c ∷ [])) (drop next m) next (sym size) in
    let long : length m' ≡ length (packed (cs ++ c ∷ [])) + length (drop next m) = ap length written ∙ length-append (packed (cs ++ c ∷ [])) (drop next m) in
    record {
      whole = written ∙ ap (λ l. packed (cs ++ c ∷ []) ++ l) (sym left);
      used_is = size;
      count_is = omega (arith, length-append cs (c ∷ []), h.count_is);
      few = omega arith;
      fits = omega (arith, length-drop next m);
    }

-- the register that a memory means
pub memory_at : (p : Phase) {m : List ℕ} {used count : ℕ} {cs : List (List ℕ)} → Holds m used count cs → memory (state_at p m used count) ≡ m
memory_at p {m} {used} h = ap (λ l. packed l ++ drop used m) (decoded_held h) ∙ sym h.whole

pub free_at : (p : Phase) {m : List ℕ} {used count : ℕ} {cs : List (List ℕ)} → Holds m used count cs → free (state_at p m used count) ≡ room m - used
free_at p {m} {used} h = λ i. room (memory_at p h i) - (ap (λ l. length (packed l)) (decoded_held h) ∙ sym h.used_is) i

pub count_at : (p : Phase) (m : List ℕ) (used count : ℕ) → length (state_at p m used count).entries ≡ count
count_at p m used count = length_decoded count m

pub new_at : (m : List ℕ) → state_at opened m 0 0 ≡ new m
new_at m = refl

pub more_at : (p : Phase) {m : List ℕ} {used count : ℕ} {cs : List (List ℕ)} (c m' : List ℕ) → Holds m used count cs → count < 256 → used + (length c + 4) ≤ room m → m' ≡ take used m ++ ((four_bytes (length c) ++ c) ++ drop (used + (length c + 4)) m) →
    state_at p m' (used + (length c + 4)) (count + 1) ≡ with_entry (state_at p m used count) c
more_at p {m} {used} {count} {cs} c m' h few fit is =
    let one : List ℕ = four_bytes (length c) ++ c in
    let next : ℕ = used + (length c + 4) in
    let after = holds_more c m' h few fit is in
    let texts : decoded (count + 1) m' ≡ decoded count m ++ c ∷ [] = decoded_held after ∙ ap (λ l. l ++ c ∷ []) (sym (decoded_held h)) in
    let long : length (take used m ++ one) ≡ next = omega (arith, length-append (take used m) one, length-append (four_bytes (length c)) c, length-take-le used m (omega (arith, h.fits))) in
    let left : drop next m' ≡ drop (length c + 4) (drop used m) = ap (drop next) (is ∙ sym (append_assoc (take used m) one (drop next m))) ∙ drop_at (take used m ++ one) (drop next m) next long ∙ sym (drop-drop (length c + 4) used m) in
    λ i. record { phase = p; entries = texts i; rest = left i }

-- what two writes leave, of four bytes and of a text after them
pub two_writes : (m four c : List ℕ) (at : ℕ) → length four ≡ 4 → at + (length c + 4) ≤ length m →
    put_mid (at + 4) (at + 4 + length c - (at + 4)) (put_mid at (at + 4 - at) m four) c ≡ take at m ++ ((four ++ c) ++ drop (at + (length c + 4)) m)
two_writes m four c at long fits =
    let m₁ : List ℕ = put_mid at (at + 4 - at) m four in
    let front : take (at + 4) m₁ ≡ take at m ++ four = take-put_mid at (at + 4 - at) m four (at + 4) (omega arith) (omega arith) in
    let back : drop (at + 4 + length c) m₁ ≡ drop (at + 4 + length c) m = drop-put_mid at (at + 4 - at) m four (at + 4 + length c) (omega arith) (omega arith) (omega arith) in
    let same_end : at + 4 + length c ≡ at + (length c + 4) = omega arith in
    put_mid-paste (at + 4) (at + 4 + length c - (at + 4)) m₁ c c (length c) refl (omega arith) refl
    ∙ (λ i. (front i ++ take_all (length c) c (omega arith) i) ++ (back ∙ ap (λ n. drop n m) same_end) i)
    ∙ ap (λ l. l ++ drop (at + (length c + 4)) m) (append_assoc (take at m) four c)
    ∙ append_assoc (take at m) (four ++ c) (drop (at + (length c + 4)) m)
