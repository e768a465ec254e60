-- A text written through to a sink is sent to it.
use Rattle.std.proofs.Common.{◌≡◌, ℕ, ◌^◌, ◌<◌, Bool, cond, List, length, take, Ok, Err, Result, sym, refl, ap, ◌∙◌, arith}
use mathlib.Core.Path.{transport}
use Rattle.std.proofs.lemmas.List.{length-take-le}
use Rattle.rules.specs.declared.grounds.Fault.{Fault}
use Rattle.rules.specs.declared.grounds.Fault.TheVariants.{Stopped}
use Rattle.rules.specs.Sinks.{Sent}
use Rattle.sinks.specs.Sending.{SentTo}
use Rattle.sinks.specs.Writers.{Written}
use Rattle.sinks.specs.Counts.{through}
use Rattle.sinks.specs.declared.sink.Sink.{Ghosts}
use Rattle.sinks.specs.declared.through.Through.{Through}
use Rattle.sinks.proofs.Sending.{longest_by}

module _ {S : Type 0} {sink : Ghosts S} where
  sent_at : {a b : Through S} {text : List ℕ} {all : Bool} → Written (through sink) a text all b → a.count ≡ 0 → length text < 2 ^ 64 → Sent (sink.allows a.sink.now) (sink.taken a.sink.now) text (cond all (Ok tt) (Err (Stopped b.count))) (sink.allows b.sink.now) (sink.taken b.sink.now)
  sent_at {a} {b} {text} {all} p none bound =
      let long : length (take p.count text) ≡ p.count = length-take-le p.count text p.longest.within in
      let same : b.count ≡ p.count = omega (arith, p.taken.count_is, p.longest.within) in
      record {
        count = p.count;
        longest = longest_by (λ zs byte. refl) p.longest;
        grown = p.taken.grown;
        same_rule = p.taken.same_rule;
        answered = ap (λ n. cond all (Ok tt) (Err (Stopped n))) same ∙ ap (λ x. cond x (Ok tt) (Err (Stopped p.count))) p.answered;
      }

  -- what a call that wrote through to a sink answers, and how it leaves the sink
  pub sent_through : {a b : Through S} {text : List ℕ} {all : Bool} {s s' : S} {r : Result (Unit {0}) Fault} → Written (through sink) a text all b → a.count ≡ 0 → length text < 2 ^ 64 → a.sink.now ≡ s → s' ≡ b.sink.now → r ≡ cond all (Ok tt) (Err (Stopped b.count)) → SentTo sink s text r s'
  sent_through {a} {b} {text} {all} p none bound from to answer = transport (λ i. SentTo sink (from i) text (sym answer i) (sym to i)) record { sent = sent_at p none bound; stayed = p.taken.stayed }
