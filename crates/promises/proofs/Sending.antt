-- How much of a text a rule lets pass: the longest beginning that it allows byte by byte, and one text after another.
use Rattle.std.proofs.Common.{◌≡◌, ℕ, zero, suc, ◌+◌, ◌<◌, ◌≤◌, Bool, true, false, cond, List, [], ◌∷◌, ◌++◌, length, get_or, take, Ok, Err, Result, sym, refl, ap, ◌∙◌, subst, ⊎_elim, append_assoc, append-nil, arith, eq-eqb, ne_eqb}
use lib.Seq.{take-append-add}
use Rattle.std.proofs.lemmas.List.{length-append, take_all, take-append-le}
use Rattle.std.proofs.lemmas.Bool.{cases_Bool}
use Rattle.rules.specs.Sinks.{passed, taken_after, sent_answer, send_answer, Longest, Sent}
use Rattle.rules.specs.declared.grounds.Fault.{Fault}
use Rattle.rules.specs.declared.grounds.Fault.TheVariants.{Stopped}
use Rattle.promises.specs.RegisterLaws.{PassedExactly}

module _ (rule : List ℕ → ℕ → Bool) where
  passed_one : (taken : List ℕ) (b : ℕ) (bs : List ℕ) → rule taken b ≡ true → passed rule taken (b ∷ bs) ≡ suc (passed rule (taken ++ b ∷ []) bs)
  passed_one taken b bs h = ap (λ x. cond x (suc (passed rule (taken ++ b ∷ []) bs)) 0) h

  passed_not : (taken : List ℕ) (b : ℕ) (bs : List ℕ) → rule taken b ≡ false → passed rule taken (b ∷ bs) ≡ 0
  passed_not taken b bs h = ap (λ x. cond x (suc (passed rule (taken ++ b ∷ []) bs)) 0) h

  past : (taken : List ℕ) (b : ℕ) (bs : List ℕ) (k : ℕ) → rule ((taken ++ b ∷ []) ++ take k bs) (get_or bs k 0) ≡ rule (taken ++ take (suc k) (b ∷ bs)) (get_or (b ∷ bs) (suc k) 0)
  past taken b bs k = ap (λ l. rule l (get_or bs k 0)) (append_assoc taken (b ∷ []) (take k bs))

  passed_within : (taken text : List ℕ) → passed rule taken text ≤ length text
  passed_within taken [] = omega arith
  passed_within taken (b ∷ bs) =
      ⊎_elim
      (λ h. omega (arith, passed_one taken b bs h, passed_within (taken ++ b ∷ []) bs))
      (λ h. omega (arith, passed_not taken b bs h))
      (cases_Bool (rule taken b))

  -- a number of bytes that are all allowed, where the next is refused or there is none, is how many pass
  passed_by : (taken text : List ℕ) (n : ℕ) → n ≤ length text → ((k : ℕ) → k < n → rule (taken ++ take k text) (get_or text k 0) ≡ true) → (n < length text → rule (taken ++ take n text) (get_or text n 0) ≡ false) → n ≡ passed rule taken text
  passed_by taken [] n le f g = omega arith
  passed_by taken (b ∷ bs) zero le f g = sym (passed_not taken b bs (ap (λ l. rule l b) (sym (append-nil taken)) ∙ g (omega arith)))
  passed_by taken (b ∷ bs) (suc n) le f g =
      let first : rule taken b ≡ true = ap (λ l. rule l b) (sym (append-nil taken)) ∙ f 0 (omega arith) in
      let e : n ≡ passed rule (taken ++ b ∷ []) bs = passed_by (taken ++ b ∷ []) bs n (omega arith) (λ k h. past taken b bs k ∙ f (suc k) (omega arith)) (λ h. past taken b bs n ∙ g (omega arith)) in
      ap suc e ∙ sym (passed_one taken b bs first)

  passed_allowed : (taken text : List ℕ) (k : ℕ) → k < passed rule taken text → rule (taken ++ take k text) (get_or text k 0) ≡ true
  passed_allowed taken [] k h = absurd (omega arith)
  passed_allowed taken (b ∷ bs) zero h =
      ⊎_elim
      (λ y. ap (λ l. rule l b) (append-nil taken) ∙ y)
      (λ y. absurd (omega (arith, passed_not taken b bs y)))
      (cases_Bool (rule taken b))
  passed_allowed taken (b ∷ bs) (suc k) h =
      ⊎_elim
      (λ y. sym (past taken b bs k) ∙ passed_allowed (taken ++ b ∷ []) bs k (omega (arith, passed_one taken b bs y)))
      (λ y. absurd (omega (arith, passed_not taken b bs y)))
      (cases_Bool (rule taken b))

  passed_stops : (taken text : List ℕ) → passed rule taken text < length text → rule (taken ++ take (passed rule taken text) text) (get_or text (passed rule taken text) 0) ≡ false
  passed_stops taken [] h = absurd (omega arith)
  passed_stops taken (b ∷ bs) h =
      ⊎_elim
      (λ y.
      let n : ℕ = passed rule (taken ++ b ∷ []) bs in
      let e : passed rule taken (b ∷ bs) ≡ suc n = passed_one taken b bs y in
      subst (λ k. rule (taken ++ take k (b ∷ bs)) (get_or (b ∷ bs) k 0) ≡ false) (sym e)
      (sym (past taken b bs n) ∙ passed_stops (taken ++ b ∷ []) bs (omega arith)))
      (λ y.
      let e : passed rule taken (b ∷ bs) ≡ 0 = passed_not taken b bs y in
      subst (λ k. rule (taken ++ take k (b ∷ bs)) (get_or (b ∷ bs) k 0) ≡ false) (sym e) (ap (λ l. rule l b) (append-nil taken) ∙ y))
      (cases_Bool (rule taken b))

  -- how many pass is the longest beginning that the rule allows byte by byte
  pub passed_longest : (taken text : List ℕ) → Longest rule taken text (passed rule taken text)
  passed_longest taken text = record { within = passed_within taken text; allowed = passed_allowed taken text; stops = passed_stops taken text }

  pub passed_is : {taken text : List ℕ} {n : ℕ} → Longest rule taken text n → n ≡ passed rule taken text
  passed_is {taken} {text} {n} l = passed_by taken text n l.within l.allowed l.stops

  -- a text that was sent has the answer of sending it, and leaves what sending it leaves
  pub sent_is : {taken text taken' : List ℕ} {answer : Result (Unit {0}) Fault} {rule' : List ℕ → ℕ → Bool} → Sent rule taken text answer rule' taken' →
      (answer ≡ send_answer rule taken text) × (taken' ≡ taken_after rule taken text)
  sent_is {taken} {text} s =
      let e = passed_is s.longest in
      (s.answered ∙ ap (λ n. sent_answer n (length text)) e, s.grown ∙ ap (λ n. taken ++ take n text) e)

  pub sent_from : (taken text : List ℕ) → Sent rule taken text (send_answer rule taken text) rule (taken_after rule taken text)
  sent_from taken text = record { count = passed rule taken text; longest = passed_longest taken text; grown = refl; same_rule = refl; answered = refl }

  -- one text after another
  pub passed_then : (taken xs ys : List ℕ) → passed rule taken xs ≡ length xs → passed rule taken (xs ++ ys) ≡ length xs + passed rule (taken ++ xs) ys
  passed_then taken [] ys h = ap (λ l. passed rule l ys) (sym (append-nil taken)) ∙ omega arith
  passed_then taken (b ∷ bs) ys h =
      ⊎_elim
      (λ y.
      let e = passed_then (taken ++ b ∷ []) bs ys (omega (arith, passed_one taken b bs y)) in
      omega (arith, passed_one taken b (bs ++ ys) y, e, ap (λ l. passed rule l ys) (append_assoc taken (b ∷ []) bs)))
      (λ y. absurd (omega (arith, passed_not taken b bs y)))
      (cases_Bool (rule taken b))

  pub passed_stopped : (taken xs ys : List ℕ) → passed rule taken xs < length xs → passed rule taken (xs ++ ys) ≡ passed rule taken xs
  passed_stopped taken [] ys h = absurd (omega arith)
  passed_stopped taken (b ∷ bs) ys h =
      ⊎_elim
      (λ y.
      let e = passed_stopped (taken ++ b ∷ []) bs ys (omega (arith, passed_one taken b bs y)) in
      passed_one taken b (bs ++ ys) y ∙ ap suc e ∙ sym (passed_one taken b bs y))
      (λ y. passed_not taken b (bs ++ ys) y ∙ sym (passed_not taken b bs y))
      (cases_Bool (rule taken b))

  -- what a sending answers, and what the sink has then
  pub sent_all : (taken text : List ℕ) → passed rule taken text ≡ length text → (send_answer rule taken text ≡ Ok tt) × (taken_after rule taken text ≡ taken ++ text)
  sent_all taken text h = (
    ap (λ b. cond b (Ok tt) (Err (Stopped (passed rule taken text)))) (eq-eqb _ _ h),
    ap (λ l. taken ++ l) (take_all (passed rule taken text) text (omega arith)),
  )

  pub sent_some : (taken text : List ℕ) → passed rule taken text < length text → send_answer rule taken text ≡ Err (Stopped (passed rule taken text))
  sent_some taken text h = ap (λ b. cond b (Ok tt) (Err (Stopped (passed rule taken text)))) (ne_eqb _ _ (λ e. omega arith))

  -- after a text that was all taken, the next goes on
  pub after_then : (taken xs ys : List ℕ) → passed rule taken xs ≡ length xs → taken_after rule taken (xs ++ ys) ≡ taken_after rule (taken ++ xs) ys
  after_then taken xs ys h =
      let n : ℕ = passed rule (taken ++ xs) ys in
      ap (λ k. taken ++ take k (xs ++ ys)) (passed_then taken xs ys h)
      ∙ ap (λ l. taken ++ l) (take-append-add xs ys n)
      ∙ sym (append_assoc taken xs (take n ys))

  -- after a text of which a byte was refused, nothing more is taken
  pub after_stopped : (taken xs ys : List ℕ) → passed rule taken xs < length xs → (taken_after rule taken (xs ++ ys) ≡ taken_after rule taken xs) × (send_answer rule taken (xs ++ ys) ≡ send_answer rule taken xs)
  after_stopped taken xs ys h =
      let e = passed_stopped taken xs ys h in
      let long = length-append xs ys in (
        ap (λ k. taken ++ take k (xs ++ ys)) e ∙ ap (λ l. taken ++ l) (take-append-le (passed rule taken xs) xs ys (omega arith)),
        sent_some taken (xs ++ ys) (omega arith) ∙ ap (λ k. Err (Stopped k)) e ∙ sym (sent_some taken xs h),
      )

-- what passes is the longest beginning that the rule allows, and no other number of bytes is
pub passed_exactly : PassedExactly
passed_exactly rule taken text n = (passed_is rule, λ e. subst (Longest rule taken text) (sym e) (passed_longest rule taken text))
