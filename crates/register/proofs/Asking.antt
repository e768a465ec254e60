-- What the questions of a register and its reading out answer.
use Rattle.std.proofs.Common.{◌≡◌, ℕ, suc, ◌^◌, ◌<◌, ◌≤◌, List, [], ◌∷◌, ◌++◌, length, Some, Result, sym, refl, subst, ⊎_elim, arith, length-append}
use mathlib.Core.Logic.{∥∥₁_elim}
use mathlib.Core.HLevel.{⊥_prop}
use Rattle.rules.specs.declared.grounds.Fault.{Fault}
use Rattle.rules.specs.Markup.{Document, Marks, WellMarked}
use Rattle.rules.specs.Located.{elements_of}
use Rattle.rules.specs.Values.{Values, values_of}
use Rattle.rules.specs.Texts.{cadena}
use Rattle.rules.specs.Grounds.{HasValues}
use Rattle.rules.specs.Register.{nth, four_bytes, packed, Phase, used_up, in_phase, ask_cadena, ask_fair_copy, read_out, sending, gives, sends, Pairwise, none_left, one_more, lines, opened, closed, State, Call, Answer, Step, ask_count}
use Rattle.markup.proofs.Decided.{markup_decided}
use Rattle.promises.specs.Stored.{place_of_entry, state_at}
use Rattle.promises.proofs.Places.{nth_later}
use Rattle.promises.proofs.Stored.{holds_true, stands_at}
use Rattle.promises.proofs.StoredCopies.{stored_copy, stored_values, stored_cadena}
use Rattle.promises.proofs.Sending.{sent_is}
use Rattle.walk.specs.Coming.{InOrder}
use Rattle.original.specs.Wrote.{WellNamed}
use Rattle.sinks.specs.Sending.{SentTo}
use Rattle.sinks.specs.declared.sink.Sink.{Ghosts}
use Rattle.register.specs.Cadenas.{CadenasOf}
use Rattle.register.specs.States.{state_of, closed_state, texts}
use Rattle.register.specs.Sending.{Sends}
use Rattle.register.specs.declared.Register.{Register}
use Rattle.register.specs.declared.phases.Closed.{Closed}
use Rattle.register.proofs.Cadenas.{stored_in_order, stored_named}
use Rattle.rules.specs.Sinks.{Sink}

module _ {P : Type 0} (s : Register P) (n : ℕ) (c : List ℕ) (at : nth (texts s) n ≡ Some c) where
  -- a stored text is well-marked
  pub stored_marked : WellMarked c
  stored_marked = ⊎_elim (λ w. w) (λ x. absurd (∥∥₁_elim (stored_values s.copies n c at) ⊥_prop (λ h. x.0 (h.1.0, h.1.1)))) (markup_decided c)

  -- a stored text has values
  stored_value : (v : Values) × HasValues c v
  stored_value = let (m, k) = stored_marked in (values_of (elements_of m), (m, k, refl))

  -- a stored text is no longer than the room
  stored_short : length c ≤ 1048576
  stored_short =
      let held = holds_true s.memory.now s.used s.count s.held in
      omega (arith, (stands_at held n (place_of_entry (texts s) n) c at refl).fits, held.fits)

  -- so its cadena is not either
  stored_fits : (v : Values) → HasValues c v → length (cadena v) < 2 ^ 64
  stored_fits v h = omega (arith, stored_short, stored_cadena s.copies n c at v h)

-- values for all stored texts
all_values : (cs : List (List ℕ)) → ((n : ℕ) (c : List ℕ) → nth cs n ≡ Some c → (v : Values) × HasValues c v) → (vs : List Values) × Pairwise HasValues cs vs
all_values [] f = ([], none_left)
all_values (c ∷ cs) f =
    let (v, h) = f 1 c refl in
    let (vs, p) = all_values cs (λ n x e. f (suc n) x (nth_later c x cs n e)) in
    (v ∷ vs, one_more h p)

-- the cadenas with their line feeds take no more than the stored texts
lines_short : {cs : List (List ℕ)} {vs : List Values} → Pairwise HasValues cs vs → ((n : ℕ) (c : List ℕ) → nth cs n ≡ Some c → (v : Values) → HasValues c v → length (cadena v) ≤ length c) → length (lines vs) ≤ length (packed cs)
lines_short none_left f = omega arith
lines_short (one_more {x = c} {xs = cs} {y = v} {ys = vs} h p) f =
    omega (arith, f 1 c refl v h, lines_short p (λ n x e. f (suc n) x (nth_later c x cs n e)), length-append (cadena v) (10 ∷ lines vs), length-append (four_bytes (length c) ++ c) (packed cs), length-append (four_bytes (length c)) c)

module _ {S : Type 0} {sink : Ghosts S} where
  -- a text that was sent is what the rules say is sent
  sends_text : {k k' : S} {text : List ℕ} {r : Result (Unit {0}) Fault} → SentTo sink k text r k' → sending r (sink.taken k') ≡ sends (record { allows = sink.allows k; taken = sink.taken k }) text
  sends_text {k} x = let (a, b) = sent_is (sink.allows k) x.sent in λ i. sending (a i) (b i)

  module _ {P : Type 0} (s : Register P) (p : Phase) (live : p ≡ used_up → ⊥) {n : ℕ} {c : List ℕ} (at : nth (texts s) n ≡ Some c) {k k' : S} {r : Result (Unit {0}) Fault} where
    -- the cadena of an entry was sent
    pub cadena_asked : ((m : Document) → Marks c m → InOrder c m → WellNamed m → length (cadena (values_of (elements_of m))) < 2 ^ 64 → SentTo sink k (cadena (values_of (elements_of m))) r k') →
        Sends sink (state_of p s) (ask_cadena n) k r k' (state_of p s)
    cadena_asked f =
        let sent : (v : Values) → HasValues c v → SentTo sink k (cadena v) r k' = λ v h.
        let (m, marks, is) = h in
        subst (λ x. SentTo sink k (cadena x) r k') (sym is) (f m marks (stored_in_order s.copies n c at m marks) (stored_named s.copies n c at m marks) (stored_fits s n c at (values_of (elements_of m)) (m, marks, refl))) in
        let (v, h) = stored_value s n c at in
        record { step = (live, (gives c at (λ w g. sends_text (sent w g)), refl)); same_rule = (sent v h).sent.same_rule; stayed = (sent v h).stayed }

    -- the fair copy of an entry, which is its text, was sent
    pub copy_asked : SentTo sink k c r k' →
        Sends sink (state_of p s) (ask_fair_copy n) k r k' (state_of p s)
    copy_asked x = record {
      step = (live, (gives c at (λ v h. sends_text (subst (λ t. SentTo sink k t r k') (stored_copy s.copies n c at v h) x)), refl));
      same_rule = x.sent.same_rule;
      stayed = x.stayed;
    }

  -- the cadenas of all entries were sent
  pub all_read_out : (s : Register Closed) {documents : List (List ℕ)} {k k' : S} {r : Result (Unit {0}) Fault} → documents ≡ texts s → ((text : List ℕ) → CadenasOf documents text → length text < 2 ^ 64 → SentTo sink k text r k') →
      Sends sink (closed_state s) read_out k r k' (in_phase used_up (closed_state s))
  all_read_out s {k = k} {k'} {r} same f =
      let held = holds_true s.memory.now s.used s.count s.held in
      let sent : (vs : List Values) → Pairwise HasValues (texts s) vs → SentTo sink k (lines vs) r k' = λ vs p.
      f (lines vs) (record { values = vs; have_values = subst (λ l. Pairwise HasValues l vs) (sym same) p; is = refl }) (omega (arith, lines_short p (λ n c at v h. stored_cadena s.copies n c at v h), held.used_is, held.fits)) in
      let (vs, p) = all_values (texts s) (stored_value s) in
      record { step = (refl, (λ ws q. sends_text (sent ws q), refl)); same_rule = (sent vs p).sent.same_rule; stayed = (sent vs p).stayed }

-- an open register, and a closed one, is not used up
pub opened_live : opened ≡ used_up → ⊥
opened_live e = let z : ◌≡◌ {A = ℕ} 0 1 = cc in omega arith

pub closed_live : closed ≡ used_up → ⊥
closed_live e = let z : ◌≡◌ {A = ℕ} 0 1 = cc in omega arith

-- equal memories mean one register
pub state_same : (p : Phase) {m n : List ℕ} {used used' count count' : ℕ} → m ≡ n → used ≡ used' → count ≡ count' → state_at p m used count ≡ state_at p n used' count'
state_same p a b c = λ i. state_at p (a i) (b i) (c i)

pub counted_of : {s t : State} {a : Answer} → s ≡ t → Step s ask_count a s → Step t ask_count a t
counted_of {a = a} e x = subst (λ u. Step u ask_count a u) e x

module _ {S : Type 0} {sink : Ghosts S} {s t : State} {call : Sink → Call} {k k' : S} {r : Result (Unit {0}) Fault} where
  pub asked_of : s ≡ t → Sends sink s call k r k' s → Sends sink t call k r k' t
  asked_of e x = subst (λ u. Sends sink u call k r k' u) e x

  pub read_out_of : s ≡ t → Sends sink s call k r k' (in_phase used_up s) → Sends sink t call k r k' (in_phase used_up t)
  read_out_of e x = subst (λ u. Sends sink u call k r k' (in_phase used_up u)) e x
