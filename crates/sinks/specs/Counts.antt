-- What a counter and what writes through to a sink mean as writers.
use Rattle.std.specs.Prelude.{◌≡◌, ℕ, ◌+◌, ◌-◌, ◌^◌, min, max, true, List, [], ◌++◌, length, refl}
use Rattle.std.proofs.Common.{sym, ap, ◌∙◌, append-nil, append_assoc, arith, length-append}
use Rattle.sinks.specs.Writers.{Writing}
use Rattle.sinks.specs.declared.counter.Counter.{Counter}
use Rattle.sinks.specs.declared.sink.Sink.{Ghosts}
use Rattle.sinks.specs.declared.through.Through.{Through}

-- a count that has grown by k, up to the largest machine number
abbrev pub counted : ℕ → ℕ → ℕ
counted n k = max n (min (n + k) (2 ^ 64 - 1))

pub counted_none : (n : ℕ) → n ≡ counted n 0
counted_none n = omega arith

pub counted_both : (n i j : ℕ) (xs ys : List ℕ) → i ≡ counted n (length xs) → j ≡ counted i (length ys) → j ≡ counted n (length (xs ++ ys))
counted_both n i j xs ys p q = omega (arith, length-append xs ys)

-- a counter allows every byte and counts it
abbrev pub counting : Writing Counter
counting = record {
  allows = λ a xs byte. true;
  took = λ a xs b. b.count ≡ counted a.count (length xs);
  nothing = λ a. counted_none a.count;
  both = λ a b c xs ys p q. counted_both a.count b.count c.count xs ys p q;
  allows_after = λ a b xs ys byte p. refl;
}

module _ {S : Type 0} (sink : Ghosts S) where
  -- the sink behind a has taken a text and stands behind b, and the text is counted
  pub record TookThrough (a : Through S) (text : List ℕ) (b : Through S) : Type 0 where
    pub grown : sink.taken b.sink.now ≡ sink.taken a.sink.now ++ text
    pub same_rule : sink.allows b.sink.now ≡ sink.allows a.sink.now
    pub stayed : sink.stays.since a.sink.now b.sink.now
    pub same_sink : b.sink.ghost_name ≡ a.sink.ghost_name
    pub count_is : b.count ≡ counted a.count (length text)

  pub through_none : (a : Through S) → TookThrough a [] a
  through_none a = record {
    grown = sym (append-nil (sink.taken a.sink.now));
    same_rule = refl;
    stayed = sink.stays.still a.sink.now;
    same_sink = refl;
    count_is = counted_none a.count;
  }

  pub through_both : (a b c : Through S) (xs ys : List ℕ) → TookThrough a xs b → TookThrough b ys c → TookThrough a (xs ++ ys) c
  through_both a b c xs ys p q = record {
    grown = q.grown ∙ ap (λ l. l ++ ys) p.grown ∙ append_assoc (sink.taken a.sink.now) xs ys;
    same_rule = q.same_rule ∙ p.same_rule;
    stayed = sink.stays.later a.sink.now b.sink.now c.sink.now p.stayed q.stayed;
    same_sink = q.same_sink ∙ p.same_sink;
    count_is = counted_both a.count b.count c.count xs ys p.count_is q.count_is;
  }

  pub through_rule : (a b : Through S) (xs ys : List ℕ) (byte : ℕ) → TookThrough a xs b → sink.allows b.sink.now (sink.taken b.sink.now ++ ys) byte ≡ sink.allows a.sink.now (sink.taken a.sink.now ++ (xs ++ ys)) byte
  through_rule a b xs ys byte p =
      (λ i. p.same_rule i (p.grown i ++ ys) byte) ∙ ap (λ l. sink.allows a.sink.now l byte) (append_assoc (sink.taken a.sink.now) xs ys)

  -- what writes through to a sink allows what the sink allows after the bytes that it has taken
  abbrev pub through : Writing (Through S)
  through = record {
    allows = λ a xs byte. sink.allows a.sink.now (sink.taken a.sink.now ++ xs) byte;
    took = TookThrough;
    nothing = through_none;
    both = through_both;
    allows_after = through_rule;
  }
