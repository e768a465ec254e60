-- A text sent to a new buffer is put at the front of its room.
use Rattle.std.proofs.Common.{◌≡◌, ℕ, List, [], length, take, Result, sym, ap, ◌∙◌, arith}
use mathlib.Core.Path.{transport}
use Rattle.std.proofs.lemmas.List.{length-take-le}
use Rattle.rules.specs.Values.{Values}
use Rattle.rules.specs.Catalogues.{Facts}
use Rattle.rules.specs.Sinks.{buffer_rule}
use Rattle.rules.specs.declared.grounds.Fault.{Fault}
use Rattle.sinks.specs.Staying.{both_stay, room_stays, same_stays}
use Rattle.sinks.specs.declared.buffer.Buffer.{Buffer}
use Rattle.sinks.proofs.Uses.{room_has}
use Rattle.texts.specs.Answered.{Answered, refused, sent}
use Rattle.c_api.specs.Told.{Filled, Put, nothing, filled}

-- a text of a document was sent to a buffer, which was s and is s'
abbrev pub Sending : Facts → List ℕ → (Values → List ℕ) → Buffer → Result (Unit {0}) Fault → Buffer → Type 0
Sending =
    Answered (record {
      taken = λ s. take s.count s.room.now;
      allows = λ s. buffer_rule (length s.room.now);
      stays = both_stay (room_stays (λ s. s.count) (λ s. s.room.now)) (same_stays (λ s. s.room.ghost_name));
    })

-- the buffer keeps the memory that it was lent
pub same_room : {facts : Facts} {d : List ℕ} {text : Values → List ℕ} {s s' : Buffer} {r : Result (Unit {0}) Fault} → Sending facts d text s r s' → s'.room.ghost_name ≡ s.room.ghost_name
same_room (refused f first answer same) = ap (λ b. b.room.ghost_name) same
same_room (sent v lawful has to) = to.stayed.1

-- a buffer that has taken nothing counts nothing
counts_none : (s : Buffer) → take s.count s.room.now ≡ [] → s.count ≡ 0
counts_none s new = omega (arith, ap length new, length-take-le s.count s.room.now s.ok)

-- what a new buffer has taken is at the front of its room, as far as it fits
pub put_in : {facts : Facts} {d : List ℕ} {text : Values → List ℕ} {s s' : Buffer} {r : Result (Unit {0}) Fault} {room room' : List ℕ} {n : ℕ} → Sending facts d text s r s' → take s.count s.room.now ≡ [] → s.room.now ≡ room → n ≡ s'.count → room' ≡ s'.room.now → Put facts d text room n room'
put_in {s = s} (refused f first answer same) new from count to =
    nothing f first (count ∙ ap (λ b. b.count) same ∙ counts_none s new) (to ∙ ap (λ b. b.room.now) same ∙ from)
put_in {text = text} {s = s} {s' = s'} (sent v lawful has sending) new from count to =
    let h = room_has sending.sent new sending.stayed.0 s'.ok in
    filled v lawful has (transport (λ i. Filled (text v) (from i) (sym count i) (sym to i)) record { count = h.0; bytes = h.1 })
