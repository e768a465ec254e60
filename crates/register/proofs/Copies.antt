-- What an entry's part of the memory is once it was written, and what a matcher and a buffer have once a fair copy was sent to them.
use Rattle.std.proofs.Common.{◌≡◌, ℕ, ◌+◌, ◌-◌, ◌≤◌, List, ◌++◌, length, take, drop, sym, ap, ◌∙◌, append_assoc, arith, ◌^◌, ◌<◌, Bool, ◌&&◌, [], is_ok, Decides, Result, append-nil}
use borrow.Rule.Slice.PartMut.{put_mid}
use Rattle.std.proofs.lemmas.List.{take_all, length-append, length-drop, length-take-le, drop_all}
use Rattle.std.proofs.lemmas.Slice.{put_mid-paste, drop-put_mid}
use Rattle.rules.specs.Register.{four_bytes, room}
use mathlib.Core.Path.{transport}
use Rattle.rules.specs.declared.grounds.Fault.{Fault}
use Rattle.rules.specs.Located.{elements_of}
use Rattle.rules.specs.Values.{values_of}
use Rattle.rules.specs.Texts.{fair_copy}
use Rattle.rules.specs.Sinks.{Sent, buffer_rule, matcher_rule}
use Rattle.sinks.specs.Staying.{RoomStays}
use Rattle.sinks.proofs.Uses.{matched_exactly, room_has}
use Rattle.register.specs.Copied.{CopyOf}

-- the memory with an entry written at a place, where the part that it was written to is x
pub entry_written : (m c x : List ℕ) (at n : ℕ) → length c ≡ n → at + (length c + 4) ≤ room m → (length c + 4 ≡ length (take (at + (n + 4) - at) (drop at m)) → x ≡ four_bytes (length c) ++ c) →
    put_mid at (at + (n + 4) - at) m x ≡ take at m ++ ((four_bytes (length c) ++ c) ++ drop (at + (length c + 4)) m)
entry_written m c x at n long fits stored =
    let entry : List ℕ = four_bytes (length c) ++ c in
    let k : ℕ = length c + 4 in
    let size : at + (n + 4) - at ≡ k = omega (arith, long) in
    let within : k ≤ length (drop at m) = omega (arith, fits, length-drop at m) in
    let part : length (take (at + (n + 4) - at) (drop at m)) ≡ k = ap (λ j. length (take j (drop at m))) size ∙ length-take-le k (drop at m) within in
    let long_entry : k ≡ length entry = omega (arith, length-append (four_bytes (length c)) c) in
    put_mid-paste at (at + (n + 4) - at) m x entry k (stored (sym part)) (sym size) long_entry
    ∙ ap (λ l. (take at m ++ l) ++ drop (at + k) m) (take_all k entry (omega (arith, long_entry)))
    ∙ append_assoc (take at m) entry (drop (at + k) m)

-- a new matcher of x takes a text whole and is then matched exactly where x is that text
pub copy_matched : {e e' x t text t' c : List ℕ} {answer : Result (Unit {0}) Fault} {rule' : List ℕ → ℕ → Bool} {m b : Bool} → Sent (matcher_rule e) t text answer rule' t' → t ≡ [] → e' ≡ e → e ≡ x → text ≡ c → Decides m (t' ≡ e') → is_ok answer ≡ b → Decides (b && m) (x ≡ c)
copy_matched {t' = t'} {m = m} sent new same-e is_x is_c decides ok =
    transport (λ i. Decides (ok i && m) (is_x i ≡ is_c i)) (matched_exactly sent new (transport (λ i. Decides m (t' ≡ same-e i)) decides))

-- a new buffer of just the length of a text has that text
pub room_filled : {i k : ℕ} {t text room room' c : List ℕ} {answer : Result (Unit {0}) Fault} {rule' : List ℕ → ℕ → Bool} → Sent (buffer_rule (length room)) t text answer rule' (take k room') → t ≡ [] → RoomStays i room k room' → k ≤ length room' → text ≡ c → length c ≡ length room → room' ≡ c
room_filled {k = k} {text = text} {room} sent new stays le is_c long =
    let (count, has) = room_has sent new stays le in
    let size = ap length is_c in
    has ∙ (λ j. take_all k text (omega arith) j ++ drop_all k room (omega arith) j) ∙ append-nil text ∙ is_c

-- the length of a fair copy fits a machine number
pub copy_fits : {d c : List ℕ} (copy : CopyOf d c) → length (fair_copy (values_of (elements_of copy.document))) < 2 ^ 64
copy_fits copy = omega (arith, ap length copy.copy_is, copy.short)

-- the part after four bytes that were written, as long as it is to be
pub part_long : (at n : ℕ) (m four x : List ℕ) → length x ≡ n → at + (n + 4) ≤ length m → length four ≡ 4 → length x ≡ length (take (at + 4 + n - (at + 4)) (drop (at + 4) (put_mid at (at + 4 - at) m four)))
part_long at n m four x long fits head =
    let size : at + 4 + n - (at + 4) ≡ n = omega arith in
    let rest : drop (at + 4) (put_mid at (at + 4 - at) m four) ≡ drop (at + 4) m = drop-put_mid at (at + 4 - at) m four (at + 4) (omega arith) (omega arith) (omega arith) in
    let whole = length-drop (at + 4) m in
    long ∙ sym (length-take-le n (drop (at + 4) m) (omega arith)) ∙ (λ i. length (take (sym size i) (sym rest i)))
