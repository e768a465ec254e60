-- Reading out sends the cadenas of all entries one after another, each with a line feed.
use Rattle.std.proofs.Common.{◌≡◌, ℕ, suc, ◌+◌, ◌<◌, ◌≤◌, Bool, true, false, cond, List, [], ◌∷◌, ◌++◌, length, take, Some, Ok, Err, sym, refl, ap, ◌∙◌, subst, append_assoc, append-nil, arith}
use Rattle.std.proofs.lemmas.List.{length-append, take_all}
use Rattle.rules.specs.Values.{Values}
use Rattle.rules.specs.Texts.{cadena}
use Rattle.rules.specs.Sinks.{passed, taken_after, send_answer}
use Rattle.rules.specs.Register.{nth, lines}
use Rattle.rules.specs.declared.grounds.Fault.TheVariants.{Stopped}
use Rattle.promises.proofs.Places.{split_next}
use Rattle.promises.proofs.Sending.{passed_then, passed_stopped, sent_all, sent_some, after_then, after_stopped}

pub lines_append : (vs ws : List Values) → lines (vs ++ ws) ≡ lines vs ++ lines ws
lines_append [] ws = refl
lines_append (v ∷ vs) ws = ap (λ l. cadena v ++ 10 ∷ l) (lines_append vs ws) ∙ sym (append_assoc (cadena v) (10 ∷ lines vs) (lines ws))

-- the cadenas of the first n entries were sent, and all was taken
pub record SentSofar (rule : List ℕ → ℕ → Bool) (taken : List ℕ) (vs : List Values) (n count : ℕ) (has : List ℕ) : Type 0 where
  pub all : passed rule taken (lines (take n vs)) ≡ length (lines (take n vs))
  pub count_is : count ≡ length (lines (take n vs))
  pub has_is : has ≡ taken ++ lines (take n vs)

pub sofar_none : (rule : List ℕ → ℕ → Bool) (taken : List ℕ) (vs : List Values) → SentSofar rule taken vs 0 0 taken
sofar_none rule taken vs = record { all = refl; count_is = refl; has_is = sym (append-nil taken) }

module _ {rule : List ℕ → ℕ → Bool} {taken : List ℕ} {vs : List Values} {n count : ℕ} {has : List ℕ} (h : SentSofar rule taken vs n count has) where
  -- all was sent
  pub sofar_all : length vs ≤ n → (send_answer rule taken (lines vs) ≡ Ok tt) × (taken_after rule taken (lines vs) ≡ has)
  sofar_all le =
      let e : take n vs ≡ vs = take_all n vs le in
      let s = sent_all rule taken (lines vs) (subst (λ l. passed rule taken (lines l) ≡ length (lines l)) e h.all) in
      (s.0, s.1 ∙ ap (λ l. taken ++ lines l) (sym e) ∙ sym h.has_is)

  module _ (v : Values) (at : nth vs (suc n) ≡ Some v) where
    abbrev others : List Values
    others = (split_next vs n v at).0

    next : lines (take (suc n) vs) ≡ lines (take n vs) ++ (cadena v ++ 10 ∷ [])
    next = ap lines (split_next vs n v at).2 ∙ lines_append (take n vs) (v ∷ [])

    whole : lines vs ≡ lines (take n vs) ++ (cadena v ++ 10 ∷ lines others)
    whole = ap lines (split_next vs n v at).1 ∙ lines_append (take n vs) (v ∷ others)

    -- what follows after the sink has taken what was sent so far
    rest_passed : (t : List ℕ) → passed rule taken (lines (take n vs) ++ t) ≡ count + passed rule has t
    rest_passed t = passed_then rule taken (lines (take n vs)) t h.all ∙ (λ i. sym h.count_is i + passed rule (sym h.has_is i) t)

    rest_taken : (t : List ℕ) → taken_after rule taken (lines (take n vs) ++ t) ≡ taken_after rule has t
    rest_taken t = after_then rule taken (lines (take n vs)) t h.all ∙ ap (λ l. taken_after rule l t) (sym h.has_is)

    -- the sink stops inside what follows
    stops : (t : List ℕ) → lines vs ≡ lines (take n vs) ++ t → passed rule has t < length t →
        (send_answer rule taken (lines vs) ≡ Err (Stopped (count + passed rule has t))) × (taken_after rule taken (lines vs) ≡ taken_after rule has t)
    stops t e lt =
        let p : passed rule taken (lines vs) ≡ count + passed rule has t = ap (passed rule taken) e ∙ rest_passed t in
        let long : length (lines vs) ≡ count + length t = ap length e ∙ length-append (lines (take n vs)) t ∙ ap (λ k. k + length t) (sym h.count_is) in
        (sent_some rule taken (lines vs) (omega arith) ∙ ap (λ k. Err (Stopped k)) p, ap (taken_after rule taken) e ∙ rest_taken t)

    -- a byte of the cadena is refused
    pub cadena_stopped : passed rule has (cadena v) < length (cadena v) →
        (send_answer rule taken (lines vs) ≡ Err (Stopped (count + passed rule has (cadena v)))) × (taken_after rule taken (lines vs) ≡ taken_after rule has (cadena v))
    cadena_stopped lt =
        let t : List ℕ = cadena v ++ 10 ∷ lines others in
        let p = passed_stopped rule has (cadena v) (10 ∷ lines others) lt in
        let s = stops t whole (omega (arith, length-append (cadena v) (10 ∷ lines others))) in
        (s.0 ∙ ap (λ k. Err (Stopped (count + k))) p, s.1 ∙ (after_stopped rule has (cadena v) (10 ∷ lines others) lt).0)

    module _ (full : passed rule has (cadena v) ≡ length (cadena v)) where
      -- the line feed is refused
      pub feed_stopped : rule (has ++ cadena v) 10 ≡ false →
          (send_answer rule taken (lines vs) ≡ Err (Stopped (count + length (cadena v)))) × (taken_after rule taken (lines vs) ≡ has ++ cadena v)
      feed_stopped refused =
          let t : List ℕ = cadena v ++ 10 ∷ lines others in
          let z : passed rule (has ++ cadena v) (10 ∷ lines others) ≡ 0 = ap (λ b. cond b (suc (passed rule ((has ++ cadena v) ++ 10 ∷ []) (lines others))) 0) refused in
          let p : passed rule has t ≡ length (cadena v) = passed_then rule has (cadena v) (10 ∷ lines others) full ∙ ap (λ k. length (cadena v) + k) z ∙ omega arith in
          let s = stops t whole (omega (arith, length-append (cadena v) (10 ∷ lines others))) in
          (s.0 ∙ ap (λ k. Err (Stopped (count + k))) p, s.1 ∙ after_then rule has (cadena v) (10 ∷ lines others) full ∙ ap (λ k. (has ++ cadena v) ++ take k (10 ∷ lines others)) z ∙ append-nil (has ++ cadena v))

      -- the cadena and its line feed are taken
      pub sofar_more : rule (has ++ cadena v) 10 ≡ true → SentSofar rule taken vs (n + 1) (count + length (cadena v) + 1) ((has ++ cadena v) ++ 10 ∷ [])
      sofar_more allowed =
          let t : List ℕ = cadena v ++ 10 ∷ [] in
          let same_n : suc n ≡ n + 1 = omega arith in
          let one : passed rule (has ++ cadena v) (10 ∷ []) ≡ 1 = ap (λ b. cond b 1 0) allowed in
          let p : passed rule has t ≡ length (cadena v) + 1 = passed_then rule has (cadena v) (10 ∷ []) full ∙ ap (λ k. length (cadena v) + k) one in
          let long : length (lines (take (suc n) vs)) ≡ count + (length (cadena v) + 1) = ap length next ∙ length-append (lines (take n vs)) t ∙ (λ i. sym h.count_is i + length-append (cadena v) (10 ∷ []) i) in
          subst (λ k. SentSofar rule taken vs k (count + length (cadena v) + 1) ((has ++ cadena v) ++ 10 ∷ [])) same_n (record {
            all = ap (passed rule taken) next ∙ rest_passed t ∙ ap (λ k. count + k) p ∙ sym long;
            count_is = omega arith;
            has_is = ap (λ l. (l ++ cadena v) ++ 10 ∷ []) h.has_is ∙ append_assoc (taken ++ lines (take n vs)) (cadena v) (10 ∷ []) ∙ append_assoc taken (lines (take n vs)) t ∙ ap (λ l. taken ++ l) (sym next);
          })
