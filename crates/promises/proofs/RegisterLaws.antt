-- What a register promises holds after every list of calls on a new one.
use Rattle.std.proofs.Common.{◌≡◌, ℕ, zero, suc, ◌+◌, ◌<◌, ◌≤◌, ◌⊎◌, ◌↔◌, List, [], ◌∷◌, ◌++◌, length, drop, Some, None, Ok, Err, sym, refl, ap, ◌∙◌, subst, inl, inr, ⊎_elim, append_assoc, append-nil, arith, length-append, length-drop}
use Rattle.std.proofs.lemmas.List.{drop-drop}
use Rattle.std.proofs.lemmas.Bool.{cases_lt}
use Rattle.rules.specs.Values.{Values}
use Rattle.rules.specs.Texts.{fair_copy, cadena}
use Rattle.rules.specs.Catalogues.{Facts}
use Rattle.rules.specs.Grounds.{First, Lawful, HasValues, Verdict}
use Rattle.rules.specs.Sinks.{Sink}
use Rattle.rules.specs.Register.{nth, four_bytes, packed, room, Phase, closed, used_up, State, memory, free, new, with_entry, in_phase, Call, enter, close, read_out, ask_cadena, ask_fair_copy, ask_count, Answer, entering, closing, sending, counting, Absent, Judges, already, full, no_room, granted, Enters, unlawful, lawful, sends, Gives, no_entry, gives, Pairwise, none_left, one_more, copies, lines, Does, Answers, Event, phase_after, phase_of, Run, Entry, made, entered}
use Rattle.rules.specs.declared.grounds.Fault.{Fault}
use Rattle.rules.specs.declared.grounds.Fault.TheVariants.{AlreadyEntered, Full, NoRoom, NoEntry}
use Rattle.theory.proofs.Options.{none_some}
use Rattle.theory.proofs.ReadBack.{Whole}
use Rattle.theory.proofs.FirstLaws.{one_first}
use Rattle.theory.proofs.Unique.{same_values}
use Rattle.theory.proofs.FairCopyLaws.{whole_values, copy_has_values, equal_copies, copy_stays_lawful}
use Rattle.markup.proofs.Decided.{every_verdict}
use Rattle.promises.specs.RegisterLaws.{SameValues, EntryHas, OneAnswer, GivesTextsOf, History, ReadingOutFits}
use Rattle.promises.proofs.CadenaShorter.{cadena_shorter}
use Rattle.promises.proofs.Places.{option_cases, nth_push, nth_later, nth_before, nth_last, find, pair_push, pair_length, pair_right, pair_left, pair_none, pair_one}
use Rattle.promises.proofs.Stored.{length_packed_push}

-- the fair copies of values
copies_push : (vs : List Values) (v : Values) → copies (vs ++ v ∷ []) ≡ copies vs ++ fair_copy v ∷ []
copies_push [] v = refl
copies_push (w ∷ vs) v = ap (λ l. fair_copy w ∷ l) (copies_push vs v)

copies_length : (vs : List Values) → length (copies vs) ≡ length vs
copies_length [] = refl
copies_length (v ∷ vs) = ap suc (copies_length vs)

copy_at : (vs : List Values) (n : ℕ) (v : Values) → nth vs n ≡ Some v → nth (copies vs) n ≡ Some (fair_copy v)
copy_at [] n v h = absurd (none_some refl h)
copy_at (w ∷ vs) zero v h = absurd (none_some refl h)
copy_at (w ∷ vs) (suc zero) v h = cc
copy_at (w ∷ vs) (suc (suc n)) v h = copy_at vs (suc n) v h

copy_of : (vs : List Values) (n : ℕ) (c : List ℕ) → nth (copies vs) n ≡ Some c → (v : Values) × (nth vs n ≡ Some v) × (c ≡ fair_copy v)
copy_of [] n c h = absurd (none_some refl h)
copy_of (w ∷ vs) zero c h = absurd (none_some refl h)
copy_of (w ∷ vs) (suc zero) c h = (w, refl, cc)
copy_of (w ∷ vs) (suc (suc n)) c h = copy_of vs (suc n) c h

no_copy : (vs : List Values) (n : ℕ) → nth vs n ≡ None → nth (copies vs) n ≡ None
no_copy [] n h = refl
no_copy (w ∷ vs) zero h = refl
no_copy (w ∷ vs) (suc zero) h = absurd (none_some h refl)
no_copy (w ∷ vs) (suc (suc n)) h = no_copy vs (suc n) h

abbrev AllWhole : List Values → Type 0
AllWhole vs = (n : ℕ) (v : Values) → nth vs n ≡ Some v → Whole v

copies_have : (vs : List Values) → AllWhole vs → Pairwise HasValues (copies vs) vs
copies_have [] w = none_left
copies_have (v ∷ vs) w = one_more (copy_has_values v (w 1 v refl)) (copies_have vs (λ n x h. w (suc n) x (nth_later v x vs n h)))

-- what a run keeps: vs are the values of its entries
record Inv (m : List ℕ) (es : List Entry) (s : State) : Type 0 where
  pub vs : List Values
  pub of : Pairwise EntryHas es vs
  pub stored : s.entries ≡ copies vs
  pub whole : AllWhole vs
  pub apart : (n k : ℕ) (c : List ℕ) → nth s.entries n ≡ Some c → nth s.entries k ≡ Some c → n ≡ k
  pub lawful_each : (n : ℕ) (e : Entry) → nth es n ≡ Some e → Lawful e.facts e.document
  pub kept : s.rest ≡ drop (length (packed s.entries)) m
  pub fits : length (packed s.entries) ≤ room m
  pub few : length s.entries ≤ 256

room_kept : {m : List ℕ} {es : List Entry} {s : State} → Inv m es s → room (memory s) ≡ room m
room_kept {m} {es} {s} i =
    let e = ap length i.kept ∙ length-drop (length (packed s.entries)) m in
    let f = length-append (packed s.entries) s.rest in
    let g = i.fits in
    omega arith

grows : {m : List ℕ} {es : List Entry} {s : State} (facts : Facts) (d : List ℕ) (v : Values) → Inv m es s → Lawful facts d → HasValues d v → Absent (fair_copy v) s.entries → length s.entries < 256 → length (fair_copy v) + 4 ≤ free s →
    Inv m (es ++ record { facts = facts; document = d } ∷ []) (with_entry s (fair_copy v))
grows {m} {es} {s} facts d v i l h n o p =
    let g : Entry = record { facts = facts; document = d } in
    let c : List ℕ = fair_copy v in
    let e = length_packed_push s.entries c in
    let r = room_kept i in
    let f = i.fits in
    record {
      vs = i.vs ++ v ∷ [];
      of = pair_push g v i.of h;
      stored = ap (λ l. l ++ c ∷ []) i.stored ∙ sym (copies_push i.vs v);
      whole = λ k w a. ⊎_elim (λ x. i.whole k w x) (λ x. subst Whole (sym x.1) (whole_values facts d v l h)) (nth_push i.vs v w k a);
      apart = λ x y w a b. ⊎_elim
          (λ a'. ⊎_elim (λ b'. i.apart x y w a' b') (λ b'. absurd (n x (a' ∙ ap Some b'.1))) (nth_push s.entries c w y b))
          (λ a'. ⊎_elim (λ b'. absurd (n y (b' ∙ ap Some a'.1))) (λ b'. a'.0 ∙ sym b'.0) (nth_push s.entries c w y b))
          (nth_push s.entries c w x a);
      lawful_each = λ x k a. ⊎_elim (λ a'. i.lawful_each x k a') (λ a'. subst (λ (y : Entry). Lawful y.facts y.document) (sym a'.1) l) (nth_push es g k x a);
      kept = ap (drop (length c + 4)) i.kept ∙ drop-drop (length c + 4) (length (packed s.entries)) m ∙ ap (λ y. drop y m) (sym e);
      fits = omega arith;
      few = simp length-append (omega arith);
    }

same_state : {m : List ℕ} {es : List Entry} {s t : State} → t ≡ s → Inv m es s → Inv m (es ++ []) t
same_state {m} {es} {s} {t} e i = subst (Inv m (es ++ [])) (sym e) (subst (λ l. Inv m l s) (sym (append-nil es)) i)

in_inv : {m : List ℕ} {es : List Entry} {s : State} (p : Phase) → Inv m es s → Inv m es (in_phase p s)
in_inv p i = record { vs = i.vs; of = i.of; stored = i.stored; whole = i.whole; apart = i.apart; lawful_each = i.lawful_each; kept = i.kept; fits = i.fits; few = i.few }

no_grant : {m : List ℕ} {es : List Entry} {s t : State} (facts : Facts) (d : List ℕ) (f : Fault) (a : Answer) → a ≡ entering (Err f) → t ≡ s → Inv m es s → Inv m (es ++ made (enter facts d) a) t
no_grant {m} {es} {t = t} facts d f a e q i = subst (λ b. Inv m (es ++ made (enter facts d) b) t) (sym e) (same_state q i)

judge_inv : {m : List ℕ} {es : List Entry} {s t : State} {a : Answer} {v : Values} (facts : Facts) (d : List ℕ) → Inv m es s → Lawful facts d → HasValues d v → Judges s (fair_copy v) a t → Inv m (es ++ made (enter facts d) a) t
judge_inv {a = a} facts d i l h (already n x e q) = no_grant facts d _ a e q i
judge_inv {a = a} facts d i l h (full x y e q) = no_grant facts d _ a e q i
judge_inv {a = a} facts d i l h (no_room x y z e q) = no_grant facts d _ a e q i
judge_inv {m} {es} {s} {t} {a} {v} facts d i l h (granted x y z e q) =
    subst (λ b. Inv m (es ++ made (enter facts d) b) t) (sym e)
    (subst (Inv m (es ++ record { facts = facts; document = d } ∷ [])) (sym q) (grows facts d v i l h x y z))

enter_inv : {m : List ℕ} {es : List Entry} {s t : State} {a : Answer} (facts : Facts) (d : List ℕ) → Inv m es s → Enters s facts d a t → Inv m (es ++ made (enter facts d) a) t
enter_inv {a = a} facts d i (unlawful f h e q) = no_grant facts d f a e q i
enter_inv facts d i (lawful v l h j) = judge_inv facts d i l h j

step_inv : {m : List ℕ} {es : List Entry} {s t : State} (c : Call) (a : Answer) → Inv m es s → Does s c a t → Inv m (es ++ made c a) t
step_inv (enter facts d) a i x = enter_inv facts d i x
step_inv close a i x = same_state x.1 (in_inv closed i)
step_inv (read_out k) a i x = same_state x.1 (in_inv used_up i)
step_inv (ask_cadena n k) a i x = same_state x.1 i
step_inv (ask_fair_copy n k) a i x = same_state x.1 i
step_inv ask_count a i x = same_state x.1 i

run_on : {m : List ℕ} {u : State} (h : List Event) (es : List Entry) (s : State) → Inv m es s → Run s h u → Inv m (es ++ entered h) u
run_on [] es s i r = same_state r i
run_on {m} {u} (e ∷ h) es s i r =
    subst (λ l. Inv m l u) (append_assoc es (made e.call e.answer) (entered h))
    (run_on h _ r.0 (step_inv e.call e.answer i r.1.1) r.2)

new_inv : (m : List ℕ) → Inv m [] (new m)
new_inv m = record { vs = []; of = none_left; stored = refl; whole = λ n v a. absurd (none_some refl a); apart = λ n k c a b. absurd (none_some refl a); lawful_each = λ n e a. absurd (none_some refl a); kept = refl; fits = omega arith; few = omega arith }

run_inv : {m : List ℕ} {s : State} (h : List Event) → Run (new m) h s → Inv m (entered h) s
run_inv {m} h r = run_on h [] (new m) (new_inv m) r

-- each judgement is the only one
only_already : {m : List ℕ} {es : List Entry} {s u : State} {b : Answer} (c : List ℕ) (n : ℕ) → Inv m es s → nth s.entries n ≡ Some c → Judges s c b u → (b ≡ entering (Err (AlreadyEntered n))) × (u ≡ s)
only_already c n i h (already k x e q) = (e ∙ ap (λ j. entering (Err (AlreadyEntered j))) (i.apart k n c x h), q)
only_already c n i h (full x y e q) = absurd (x n h)
only_already c n i h (no_room x y z e q) = absurd (x n h)
only_already c n i h (granted x y z e q) = absurd (x n h)

only_full : {s u : State} {b : Answer} (c : List ℕ) → Absent c s.entries → 256 ≤ length s.entries → Judges s c b u → (b ≡ entering (Err Full)) × (u ≡ s)
only_full c n h (already k x e q) = absurd (n k x)
only_full c n h (full x y e q) = (e, q)
only_full c n h (no_room x y z e q) = absurd (omega arith)
only_full c n h (granted x y z e q) = absurd (omega arith)

only_no_room : {s u : State} {b : Answer} (c : List ℕ) → Absent c s.entries → length s.entries < 256 → free s < length c + 4 → Judges s c b u → (b ≡ entering (Err NoRoom)) × (u ≡ s)
only_no_room c n h r (already k x e q) = absurd (n k x)
only_no_room c n h r (full x y e q) = absurd (omega arith)
only_no_room c n h r (no_room x y z e q) = (e, q)
only_no_room c n h r (granted x y z e q) = absurd (omega arith)

only_granted : {s u : State} {b : Answer} (c : List ℕ) → Absent c s.entries → length s.entries < 256 → length c + 4 ≤ free s → Judges s c b u → (b ≡ entering (Ok (suc (length s.entries)))) × (u ≡ with_entry s c)
only_granted c n h r (already k x e q) = absurd (n k x)
only_granted c n h r (full x y e q) = absurd (omega arith)
only_granted c n h r (no_room x y z e q) = absurd (omega arith)
only_granted c n h r (granted x y z e q) = (e, q)

-- entering
enter_answers : {s : State} (facts : Facts) (d : List ℕ) (v : Values) (a : Answer) (t : State) → Lawful facts d → HasValues d v → Judges s (fair_copy v) a t → ((b : Answer) (u : State) → Judges s (fair_copy v) b u → (b ≡ a) × (u ≡ t)) → Answers s (enter facts d) a t
enter_answers {s} facts d v a t l h j f = (λ p. (p, lawful v l h j), λ b u st. go b u st.1)
  where
    go : (b : Answer) (u : State) → Enters s facts d b u → (b ≡ a) × (u ≡ t)
    go b u (unlawful g x e q) = absurd (l g x.0)
    go b u (lawful w _ k x) = f b u (subst (λ y. Judges s (fair_copy y) b u) (same_values d w v k h) x)

refusal : {s : State} (facts : Facts) (d : List ℕ) (f : Fault) → First facts d f → Answers s (enter facts d) (entering (Err f)) s
refusal {s} facts d f k = (λ p. (p, unlawful f k refl refl), λ b u st. go b u st.1)
  where
    go : (b : Answer) (u : State) → Enters s facts d b u → (b ≡ entering (Err f)) × (u ≡ s)
    go b u (unlawful g x e q) = (e ∙ ap (λ y. entering (Err y)) (one_first facts d g f x k), q)
    go b u (lawful w l h x) = absurd (l f k.0)

lawful_answer : {m : List ℕ} {es : List Entry} {s : State} (facts : Facts) (d : List ℕ) (v : Values) → Inv m es s → Lawful facts d → HasValues d v → (a : Answer) × (t : State) × Answers s (enter facts d) a t
lawful_answer {s = s} facts d v i l h =
    let c : List ℕ = fair_copy v in
    ⊎_elim
    (λ x. (entering (Err (AlreadyEntered x.0)), s, enter_answers facts d v _ _ l h (already x.0 x.1 refl refl) (λ b u. only_already c x.0 i x.1)))
    (λ x. ⊎_elim
    (λ y. ⊎_elim
    (λ z. (entering (Err NoRoom), s, enter_answers facts d v _ _ l h (no_room x y z refl refl) (λ b u. only_no_room c x y z)))
    (λ z. (entering (Ok (suc (length s.entries))), with_entry s c, enter_answers facts d v _ _ l h (granted x y z refl refl) (λ b u. only_granted c x y z)))
    (cases_lt (free s) (length c + 4)))
    (λ y. (entering (Err Full), s, enter_answers facts d v _ _ l h (full x y refl refl) (λ b u. only_full c x y)))
    (cases_lt (length s.entries) 256))
    (find c s.entries)

-- every document is lawful with values, or has a first fault
its_verdict : (facts : Facts) (d : List ℕ) → Verdict facts d
its_verdict facts d = (every_verdict facts d).verdict

-- asking
only_given : {text : Values → List ℕ} {s : State} {k : Sink} {b : Answer} (n : ℕ) (c : List ℕ) (v : Values) → nth s.entries n ≡ Some c → HasValues c v → Gives text s n k b → b ≡ sends k (text v)
only_given n c v h p (no_entry x e) = absurd (none_some x h)
only_given n c v h p (gives x y q) = let o : x ≡ c = cc in q v (subst (λ z. HasValues z v) (sym o) p)

only_absent : {text : Values → List ℕ} {s : State} {k : Sink} {b : Answer} (n : ℕ) → nth s.entries n ≡ None → Gives text s n k b → b ≡ sending (Err NoEntry) k.taken
only_absent n h (no_entry x e) = e
only_absent n h (gives c y q) = absurd (none_some h y)

texts_of : (s : State) (n : ℕ) (c : List ℕ) (v : Values) → nth s.entries n ≡ Some c → HasValues c v → GivesTextsOf s n v
texts_of s n c v h p k = (
  (λ a. (a, (gives c h (λ w q. ap (λ z. sends k (cadena z)) (same_values c v w p q)), refl)), λ b u st. (only_given n c v h p st.1.0, st.1.1)),
  (λ a. (a, (gives c h (λ w q. ap (λ z. sends k (fair_copy z)) (same_values c v w p q)), refl)), λ b u st. (only_given n c v h p st.1.0, st.1.1)),
)

no_texts : (s : State) (n : ℕ) → nth s.entries n ≡ None → (k : Sink) → Answers s (ask_cadena n k) (sending (Err NoEntry) k.taken) s × Answers s (ask_fair_copy n k) (sending (Err NoEntry) k.taken) s
no_texts s n h k = (
  (λ a. (a, (no_entry h refl, refl)), λ b u st. (only_absent n h st.1.0, st.1.1)),
  (λ a. (a, (no_entry h refl, refl)), λ b u st. (only_absent n h st.1.0, st.1.1)),
)

counted_as : (s : State) (n : ℕ) → length s.entries ≡ n → Answers s ask_count (counting n) s
counted_as s n e = (λ p. (p, (ap counting (sym e), refl)), λ b u st. (st.1.0 ∙ ap counting e, st.1.1))

read_as : (s : State) (vs : List Values) → Pairwise HasValues s.entries vs → (k : Sink) → Answers s (read_out k) (sends k (lines vs)) (in_phase used_up s)
read_as s vs h k = (
  λ p. (p, (λ ws q. ap (λ l. sends k (lines l)) (pair_one same_values h q), refl)),
  λ b u st. (st.1.0 vs h, st.1.1),
)

-- what a run gives of the promises
module _ {m : List ℕ} {es : List Entry} {s : State} (i : Inv m es s) where
  copies_stored : packed (copies i.vs) ≡ packed s.entries
  copies_stored = ap packed (sym i.stored)

  as_many : length es ≡ length s.entries
  as_many = pair_length i.of ∙ sym (copies_length i.vs) ∙ ap length (sym i.stored)

  stored_values : (n : ℕ) (e : Entry) → nth es n ≡ Some e → (v : Values) × EntryHas e v × (nth s.entries n ≡ Some (fair_copy v)) × Whole v
  stored_values n e x = let (v, p, q) = pair_right i.of n e x in (v, p, ap (λ l. nth l n) i.stored ∙ copy_at i.vs n v q, i.whole n v q)

  stored_entry : (n : ℕ) (v : Values) → Whole v → nth s.entries n ≡ Some (fair_copy v) → (e : Entry) × EntryHas e v × (nth es n ≡ Some e)
  stored_entry n v w x =
      let (u, p, q) = copy_of i.vs n (fair_copy v) (ap (λ l. nth l n) (sym i.stored) ∙ x) in
      pair_left i.of n v (p ∙ ap Some (sym (equal_copies v u w (i.whole n u p) q)))

  entries_have : Pairwise HasValues s.entries i.vs
  entries_have = subst (λ l. Pairwise HasValues l i.vs) (sym i.stored) (copies_have i.vs i.whole)

  no_stored : (n : ℕ) → nth es n ≡ None → nth s.entries n ≡ None
  no_stored n h = ap (λ l. nth l n) i.stored ∙ no_copy i.vs n (pair_none i.of n h)

  abbrev Like : ℕ → List ℕ → Type 0
  Like n d = (e : Entry) × (nth es n ≡ Some e) × SameValues d e.document

  like_stored : (d : List ℕ) (v : Values) → HasValues d v → (n : ℕ) → Like n d → nth s.entries n ≡ Some (fair_copy v)
  like_stored d v h n (e, x, (w, y, z)) =
      let (u, p, q, o) = stored_values n e x in
      q ∙ ap (λ k. Some (fair_copy k)) (same_values e.document u w p z ∙ same_values d w v y h)

  judged_repeats : {t : State} {a : Answer} (d : List ℕ) (v : Values) → HasValues d v → Whole v → Judges s (fair_copy v) a t → (n : ℕ) → (a ≡ entering (Err (AlreadyEntered n))) ↔ Like n d
  judged_repeats d v h w (already k x e q) n = (
    λ f. let o : k ≡ n = cc in let (g, z, y) = stored_entry k v w x in (g, subst (λ j. nth es j ≡ Some g) o y, (v, h, z)),
    λ y. e ∙ ap (λ j. entering (Err (AlreadyEntered j))) (i.apart k n (fair_copy v) x (like_stored d v h n y)),
  )
  judged_repeats d v h w (full x y e q) n = (λ f. let z : ◌≡◌ {A = ℕ} 0 1 = cc in absurd (omega arith), λ l. absurd (x n (like_stored d v h n l)))
  judged_repeats d v h w (no_room x y z e q) n = (λ f. let o : ◌≡◌ {A = ℕ} 0 1 = cc in absurd (omega arith), λ l. absurd (x n (like_stored d v h n l)))
  judged_repeats d v h w (granted x y z e q) n = (λ f. let o : ◌≡◌ {A = ℕ} 0 1 = cc in absurd (omega arith), λ l. absurd (x n (like_stored d v h n l)))

  repeats : {t : State} {a : Answer} (facts : Facts) (d : List ℕ) → Lawful facts d → Enters s facts d a t → (n : ℕ) → (a ≡ entering (Err (AlreadyEntered n))) ↔ Like n d
  repeats facts d l (unlawful f x e q) n = absurd (l f x.0)
  repeats facts d l (lawful v _ h j) n = judged_repeats d v h (whole_values facts d v l h) j n

  abbrev Other : Answer → Values → ℕ → Type 0
  Other a v used = ((a ≡ entering (Ok (suc (length es)))) × (length es < 256) × (used + (length (fair_copy v) + 4) ≤ room m))
      ⊎ ((a ≡ entering (Err Full)) × (length es ≡ 256))
      ⊎ ((a ≡ entering (Err NoRoom)) × (length es < 256) × (room m < used + (length (fair_copy v) + 4)))

  judged_others : {t : State} {a : Answer} (d : List ℕ) (v : Values) → HasValues d v → Whole v → ((n : ℕ) → Like n d → ⊥) → Judges s (fair_copy v) a t → Other a v (length (packed s.entries))
  judged_others d v h w f (already k x e q) = let (g, z, y) = stored_entry k v w x in absurd (f k (g, y, (v, h, z)))
  judged_others d v h w f (full x y e q) = let c = i.few in let o = as_many in inr (inl (e, omega arith))
  judged_others d v h w f (no_room x y z e q) = let c = room_kept i in let b = i.fits in let o = as_many in inr (inr (e, omega arith, omega arith))
  judged_others d v h w f (granted x y z e q) = let c = room_kept i in let b = i.fits in let o = as_many in inl (e ∙ ap (λ j. entering (Ok (suc j))) (sym o), omega arith, omega arith)

  others : {t : State} {a : Answer} (facts : Facts) (d : List ℕ) → Lawful facts d → ((n : ℕ) → Like n d → ⊥) → Enters s facts d a t →
      (v : Values) × HasValues d v × (used : ℕ) × ((vs : List Values) × Pairwise EntryHas es vs × (used ≡ length (packed (copies vs)))) × Other a v used
  others facts d l f (unlawful g x e q) = absurd (l g x.0)
  others facts d l f (lawful v _ h j) = (v, h, length (packed s.entries), (i.vs, i.of, ap length (sym copies_stored)), judged_others d v h (whole_values facts d v l h) f j)

  judged_number : {t : State} {c : List ℕ} (a : Answer) (n : ℕ) → a ≡ entering (Ok n) → Judges s c a t → n ≡ suc (length es)
  judged_number a n h (already k x e q) = let z : ◌≡◌ {A = ℕ} 0 1 = cc in absurd (omega arith)
  judged_number a n h (full x y e q) = let z : ◌≡◌ {A = ℕ} 0 1 = cc in absurd (omega arith)
  judged_number a n h (no_room x y z e q) = let o : ◌≡◌ {A = ℕ} 0 1 = cc in absurd (omega arith)
  judged_number a n h (granted x y z e q) = let o = as_many in let p : n ≡ suc (length s.entries) = cc in omega arith

  number_answered : {t : State} (facts : Facts) (d : List ℕ) (a : Answer) (n : ℕ) → a ≡ entering (Ok n) → Enters s facts d a t → n ≡ suc (length es)
  number_answered facts d a n h (unlawful f x e q) = let z : ◌≡◌ {A = ℕ} 0 1 = cc in absurd (omega arith)
  number_answered facts d a n h (lawful v _ _ j) = judged_number a n h j

  each_answer : OneAnswer s
  each_answer (enter facts d) = ⊎_elim (λ x. lawful_answer facts d x.1.0 i x.0 x.1.1) (λ x. (entering (Err x.0), s, refusal facts d x.0 x.1)) (its_verdict facts d)
  each_answer close = (closing, in_phase closed s, (λ p. (p, (refl, refl)), λ b u st. st.1))
  each_answer (read_out k) = (_, _, read_as s i.vs entries_have k)
  each_answer (ask_cadena n k) = ⊎_elim (λ x. (_, s, (no_texts s n (no_stored n x) k).0)) (λ x. let (v, p, q, w) = stored_values n x.0 x.1 in (_, s, (texts_of s n (fair_copy v) v q (copy_has_values v w) k).0)) (option_cases (nth es n))
  each_answer (ask_fair_copy n k) = ⊎_elim (λ x. (_, s, (no_texts s n (no_stored n x) k).1)) (λ x. let (v, p, q, w) = stored_values n x.0 x.1 in (_, s, (texts_of s n (fair_copy v) v q (copy_has_values v w) k).1)) (option_cases (nth es n))
  each_answer ask_count = (_, s, counted_as s _ refl)

judged_unchanged : {s t : State} {c : List ℕ} (f : Fault) (a : Answer) → a ≡ entering (Err f) → Judges s c a t → t ≡ s
judged_unchanged f a h (already n x e q) = q
judged_unchanged f a h (full x y e q) = q
judged_unchanged f a h (no_room x y z e q) = q
judged_unchanged f a h (granted x y z e q) = let o : ◌≡◌ {A = ℕ} 0 1 = cc in absurd (omega arith)

unchanged : {s t : State} (facts : Facts) (d : List ℕ) (f : Fault) (a : Answer) → a ≡ entering (Err f) → Enters s facts d a t → t ≡ s
unchanged facts d f a h (unlawful g x e q) = q
unchanged facts d f a h (lawful v l k j) = judged_unchanged f a h j

-- a lawful fair copy is taken by a new register of enough memory
returns : (m : List ℕ) (facts : Facts) (v : Values) → Lawful facts (fair_copy v) → Whole v → length (fair_copy v) + 4 ≤ room m →
    (t : State) × Answers (new m) (enter facts (fair_copy v)) (entering (Ok 1)) t × GivesTextsOf t 1 v
returns m facts v l w r =
    let s : State = new m in
    let c : List ℕ = fair_copy v in
    let h = copy_has_values v w in
    let x : Absent c s.entries = λ n e. none_some refl e in
    let y : length s.entries < 256 = omega arith in
    let z : length c + 4 ≤ free s = omega arith in
    let t : State = with_entry s c in
    (t, enter_answers facts c v (entering (Ok 1)) t l h (granted x y z refl refl) (λ b u. only_granted c x y z), texts_of t 1 c v refl h)

-- histories one after the other
entered_both : (h k : List Event) → entered (h ++ k) ≡ entered h ++ entered k
entered_both [] k = refl
entered_both (e ∷ h) k = ap (λ l. made e.call e.answer ++ l) (entered_both h k) ∙ sym (append_assoc (made e.call e.answer) (entered h) (entered k))

run_both : (h k : List Event) (r s t : State) → Run r h s → Run s k t → Run r (h ++ k) t
run_both [] k r s t x y = subst (λ z. Run z k t) x y
run_both (e ∷ h) k r s t x y = (x.0, x.1, run_both h k x.0 s t x.2 y)

-- the phase by the history
judge_phase : {s t : State} {c : List ℕ} {a : Answer} → Judges s c a t → t.phase ≡ s.phase
judge_phase (already n x e q) = ap (λ (u : State). u.phase) q
judge_phase (full x y e q) = ap (λ (u : State). u.phase) q
judge_phase (no_room x y z e q) = ap (λ (u : State). u.phase) q
judge_phase (granted x y z e q) = ap (λ (u : State). u.phase) q

enter_phase : {s t : State} (facts : Facts) (d : List ℕ) {a : Answer} → Enters s facts d a t → t.phase ≡ s.phase
enter_phase facts d (unlawful f x e q) = ap (λ (u : State). u.phase) q
enter_phase facts d (lawful v l h j) = judge_phase j

step_phase : (c : Call) (a : Answer) (s t : State) → Does s c a t → t.phase ≡ phase_after s.phase c
step_phase (enter facts d) a s t x = enter_phase facts d x
step_phase close a s t x = ap (λ (u : State). u.phase) x.1
step_phase (read_out k) a s t x = ap (λ (u : State). u.phase) x.1
step_phase (ask_cadena n k) a s t x = ap (λ (u : State). u.phase) x.1
step_phase (ask_fair_copy n k) a s t x = ap (λ (u : State). u.phase) x.1
step_phase ask_count a s t x = ap (λ (u : State). u.phase) x.1

run_phase : (h : List Event) (s u : State) → Run s h u → u.phase ≡ phase_of s.phase h
run_phase [] s u r = ap (λ (t : State). t.phase) r
run_phase (e ∷ h) s u r = run_phase h r.0 u r.2 ∙ ap (λ p. phase_of p h) (step_phase e.call e.answer s r.0 r.1.1)

-- cadenas with their line feeds are no longer than the fair copies as they are stored
lines_shorter : (vs : List Values) → ((k : ℕ) (w : Values) → nth vs k ≡ Some w → Whole w) → length (lines vs) ≤ length (packed (copies vs))
lines_shorter [] f = omega arith
lines_shorter (v ∷ vs) f =
    let c : List ℕ = fair_copy v in
    omega (arith, cadena_shorter v (f 1 v refl), lines_shorter vs (λ k w e. f (suc k) w (nth_later v w vs k e)), length-append (cadena v) (10 ∷ lines vs), length-append (four_bytes (length c) ++ c) (packed (copies vs)), length-append (four_bytes (length c)) c)

-- the promises
pub promises : History
promises m h s r =
    let i = run_inv h r in
    record {
      phase_follows = run_phase h (new m) s r;
      one_answer = each_answer i;
      tells_repeats = λ facts d a t st l n. repeats i facts d l st.1 n;
      enters_others = λ facts d a t st l f. others i facts d l f st.1;
      tells_first_fault = λ facts d f k. refusal facts d f k;
      entries_lawful = i.lawful_each;
      refusals_change_nothing = λ facts d f t st. unchanged facts d f _ refl st.1;
      gives_texts = λ n e x. let (v, p, q, w) = stored_values i n e x in (v, p, texts_of s n (fair_copy v) v q (copy_has_values v w));
      tells_no_entry = λ n x. no_texts s n (no_stored i n x);
      counts_entries = counted_as s _ (sym (as_many i));
      reads_all_out = (i.vs, i.of, read_as s i.vs (entries_have i));
      one_copy_each = λ m₂ h₂ s₂ r₂ n₁ n₂ e₁ e₂ x₁ x₂.
          let (v₁, p₁, q₁, w₁) = stored_values i n₁ e₁ x₁ in
          let (v₂, p₂, q₂, w₂) = stored_values (run_inv h₂ r₂) n₂ e₂ x₂ in
          (v₁, p₁, v₂, p₂, (equal_copies v₁ v₂ w₁ w₂, ap fair_copy), ap cadena);
      copy_returns = λ n e x.
          let (v, p, q, w) = stored_values i n e x in
          (v, p, λ m₂ big. returns m₂ e.facts v (copy_stays_lawful e.document v p e.facts (i.lawful_each n e x)) w big);
      stores = (i.vs, i.of, ap (λ x. packed s.entries ++ x) i.kept ∙ ap (λ c. c ++ drop (length c) m) (sym (copies_stored i)), subst (λ c. length c ≤ room m) (sym (copies_stored i)) i.fits, subst (λ n. n ≤ 256) (sym (as_many i) ∙ pair_length i.of) i.few);
      opens_empty = (counted_as (new m) 0 refl, refl);
      entries_stay = λ more t x. (run_both h more (new m) s t r x, λ n e y. ap (λ l. nth l n) (entered_both h more) ∙ nth_before (entered h) (entered more) n e y);
      numbers_entry = λ facts d n t st.
          let o = number_answered i facts d _ n refl st.1 in
          let e : Entry = record { facts = facts; document = d } in
          (o, ap (λ l. nth l n) (entered_both h (record { call = enter facts d; answer = entering (Ok n) } ∷ [])) ∙ ap (nth (entered h ++ e ∷ [])) o ∙ nth_last (entered h) e);
    }

-- what is read out fits the room
pub reading_out_fits : ReadingOutFits
reading_out_fits m h s r =
    let i = run_inv h r in
    (i.vs, i.of, omega (arith, lines_shorter i.vs i.whole, ap length (copies_stored i), i.fits))

-- another text than the only entry's is absent
absent_after : (c d : List ℕ) → (c ≡ d → ⊥) → Absent d (c ∷ [])
absent_after c d n zero e = none_some refl e
absent_after c d n (suc zero) e = n (cc)
absent_after c d n (suc (suc k)) e = none_some refl e

-- two lawful fair copies with different values are both entered, where there is room
pub two_entered : (m : List ℕ) (facts : Facts) (v w : Values) → Lawful facts (fair_copy v) → HasValues (fair_copy v) v → Lawful facts (fair_copy w) → HasValues (fair_copy w) w → (v ≡ w → ⊥) → length (fair_copy v) + length (fair_copy w) + 8 ≤ room m →
    (s : State) × Run (new m) (record { call = enter facts (fair_copy v); answer = entering (Ok 1) } ∷ record { call = enter facts (fair_copy w); answer = entering (Ok 2) } ∷ []) s
two_entered m facts v w lv hv lw hw n r =
    let s : State = new m in
    let c : List ℕ = fair_copy v in
    let d : List ℕ = fair_copy w in
    let t : State = with_entry s c in
    let x : Absent c s.entries = λ k e. none_some refl e in
    let y : length s.entries < 256 = omega arith in
    let z : length c + 4 ≤ free s = omega arith in
    let i = grows facts c v (new_inv m) lv hv x y z in
    let e = length_packed_push [] c in
    let o = room_kept i in
    let z' : length d + 4 ≤ free t = omega arith in
    let y' : length t.entries < 256 = omega arith in
    let apart : c ≡ d → ⊥ = λ q. n (same_values d v w (subst (λ x. HasValues x v) q hv) hw) in
    (with_entry t d, (t, (refl, lawful v lv hv (granted x y z refl refl)), (with_entry t d, (refl, lawful w lw hw (granted (absent_after c d apart) y' z' refl refl)), refl)))
