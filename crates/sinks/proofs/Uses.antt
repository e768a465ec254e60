-- What a counter, a matcher and a buffer have after a text.
use Rattle.std.proofs.Common.{◌≡◌, ℕ, ◌+◌, ◌-◌, ◌^◌, ◌<◌, ◌≤◌, min, Bool, true, false, cond, ◌&&◌, eqb, List, [], ◌++◌, length, get_or, take, drop, is_ok, Ok, Err, Decides, Result, sym, refl, ap, ◌∙◌, subst, ⊎_elim, arith}
use Rattle.std.proofs.lemmas.List.{length-take-le, take_all, take-append-drop, length-append}
use Rattle.std.proofs.lemmas.Bool.{cases_lt, lt-ltb, ltb-true, ltb-false, eq-eqb, eqb-true, and_from, and_parts, both_ways}
use Rattle.rules.specs.declared.grounds.Fault.{Fault}
use Rattle.rules.specs.declared.grounds.Fault.TheVariants.{Stopped}
use Rattle.rules.specs.Sinks.{Longest, Sent, sent_answer, buffer_rule, matcher_rule}
use Rattle.sinks.specs.Staying.{RoomStays}
use Rattle.sinks.specs.Writers.{Written}
use Rattle.sinks.specs.Counts.{counting}
use Rattle.sinks.specs.declared.counter.Counter.{Counter}

-- a new counter has counted the whole text
pub all_counted : {a b : Counter} {text : List ℕ} {all : Bool} → Written counting a text all b → a.count ≡ 0 → length text < 2 ^ 64 → b.count ≡ length text
all_counted {text = text} p none bound =
    let all : p.count ≡ length text = ⊎_elim
    (λ lt. absurd (both_ways true (p.longest.stops lt) refl))
    (λ le. omega (arith, p.longest.within))
    (cases_lt p.count (length text)) in
    omega (arith, p.taken, length-take-le p.count text p.longest.within)

-- a buffer takes what there is room for
pub buffer_takes : {size n : ℕ} {taken text : List ℕ} → Longest (buffer_rule size) taken text n → length taken ≤ size → n ≡ min (length text) (size - length taken)
buffer_takes {size} {n} {taken} {text} p fits =
    let long : (k : ℕ) → k ≤ length text → length (taken ++ take k text) ≡ length taken + k = λ k le. length-append taken (take k text) ∙ ap (λ i. length taken + i) (length-take-le k text le) in
    let most : length taken + n ≤ size = ⊎_elim
    (λ some. omega (arith, p.within, long (n - 1) (omega (arith, p.within)), ltb-true _ _ (p.allowed (n - 1) (omega arith))))
    (λ none. omega arith)
    (cases_lt 0 n) in
    ⊎_elim
    (λ lt. omega (arith, long n p.within, ltb-false _ _ (p.stops lt)))
    (λ le. omega (arith, p.within))
    (cases_lt n (length text))

-- the room of a new buffer has the beginning of the text and then what it had
pub room_has : {i k : ℕ} {t text room room' : List ℕ} {answer : Result (Unit {0}) Fault} {rule' : List ℕ → ℕ → Bool} → Sent (buffer_rule (length room)) t text answer rule' (take k room') → t ≡ [] → RoomStays i room k room' → k ≤ length room' → (k ≡ min (length text) (length room)) × (room' ≡ take k text ++ drop k room)
room_has {i} {k} {t} {text} {room} {room'} sent new stays le =
    let n : ℕ = sent.count in
    let takes : n ≡ min (length text) (length room - length t) = buffer_takes sent.longest (omega (arith, ap length new)) in
    let has : take k room' ≡ take n text = sent.grown ∙ ap (λ l. l ++ take n text) new in
    let count : k ≡ n = omega (arith, ap length has, length-take-le k room' le, length-take-le n text sent.longest.within) in (
      omega (arith, ap length new),
      sym (take-append-drop k room') ∙ (λ j. (has ∙ ap (λ m. take m text) (sym count)) j ++ stays.rest j),
    )

-- a matcher takes the whole of what it expects
match_whole : {e : List ℕ} {n : ℕ} → Longest (matcher_rule e) [] e n → n ≡ length e
match_whole {e} {n} p = ⊎_elim
    (λ lt.
    let long : length (take n e) ≡ n = length-take-le n e p.within in
    absurd (both_ways _ (p.stops lt) (and_from _ _ (lt-ltb _ _ (omega arith)) (eq-eqb _ _ (ap (λ k. get_or e k 0) long)))))
    (λ le. omega (arith, p.within))
    (cases_lt n (length e))

-- the answer is Ok where all bytes were taken
ok_by : (n m : ℕ) → is_ok (sent_answer n m) ≡ eqb n m
ok_by n m = elim (eqb n m) as (λ b. is_ok {T = Unit {0}} {E = Fault} (cond b (Ok tt) (Err (Stopped n))) ≡ b) [ true ↦ refl | false ↦ refl ]

-- a new matcher takes a text whole and is then matched exactly where the text is the expected one
pub matched_exactly : {e t text t' : List ℕ} {answer : Result (Unit {0}) Fault} {rule' : List ℕ → ℕ → Bool} {m : Bool} → Sent (matcher_rule e) t text answer rule' t' → t ≡ [] → Decides m (t' ≡ e) → Decides (is_ok answer && m) (e ≡ text)
matched_exactly {e} {t} {text} {t'} {answer} {rule'} {m} sent new decides =
    let ok : is_ok answer ≡ eqb sent.count (length text) = ap is_ok sent.answered ∙ ok_by sent.count (length text) in
    let has : t' ≡ take sent.count text = sent.grown ∙ ap (λ l. l ++ take sent.count text) new in
    let whole : sent.count ≡ length text → t' ≡ text = λ all. has ∙ take_all sent.count text (omega arith) in (
      λ both. let b = and_parts _ _ both in sym (decides.0 b.1) ∙ whole (eqb-true _ _ (sym ok ∙ b.0)),
      λ same.
          let all : sent.count ≡ length text = match_whole (subst (λ l. Longest (matcher_rule text) l text sent.count) new (subst (λ x. Longest (matcher_rule x) t text sent.count) same sent.longest)) in
          and_from _ _ (ok ∙ eq-eqb _ _ all) (decides.1 (whole all ∙ sym same)),
    )
