use Rattle.std.proofs.Common.{◌≡◌, ◌<◌, length, get_or, sym, refl, ap, ◌∙◌, subst, arith, rules}
use Rattle.rules.specs.Bytes.{name_byte}
use Rattle.markup.specs.Tags.{next}
use Rattle.markup.specs.Machine.{Stack, start, tag}
use Rattle.markup.specs.Scans.{cut}
use Rattle.markup.specs.Reads.{Like, Begun}
use Rattle.markup.proofs.Scanning.{Skips, skips}
use Rattle.markup.proofs.Steps.{halts, refused}
use Rattle.markup.proofs.Parts.{nameless, past_name, moves, stays, unmoved}
use Rattle.markup.proofs.reader.Reader.start_tag.Goals as goal
use Rattle.markup.proofs.reader.Reader.start_tag.Goals.{After-skip, After-step, in-Opens, in-Closes}

-- the name that is skipped
scan : (c : After-skip) → Skips name_byte c.skip.new.self.doc.now c.args.self.now.at c.skip.new.self.at
scan c = rw c.skip.ensures.same (skips c.args.self.now.inside c.skip.ensures.is)

-- an element may begin where it stands
begun : (c : After-skip) (s : Stack) → Begun c.args.self.now s → Like c.skip.new.self.doc.now c.args.self.now.at (start s)
begun c s b = rw c.skip.ensures.same b

-- the byte that is read
byte : (c : After-step) → (c.loop-b.self.at < length c.loop-b.self.doc.now) × (get_or c.loop-b.self.doc.now c.loop-b.self.at 0 ≡ c.in-Some.b.now)
byte c = search rules

pub returns-then-self-start-clause-reads : goal.returns-then-self-start-clause-reads
returns-then-self-start-clause-reads c =
    let w = (goal.at.returns-then-self-start-clause-reads c).After-skip in
    λ s b. refused refl (nameless s (scan w) (begun w s b) c.if-self-start.true)

pub loop-b-init : goal.loop-b-init
loop-b-init c =
    let w = (goal.at.loop-b-init c).After-skip in
    let doc = c.skip.new.self.doc.now in
    let i = c.args.self.now.at in
    let j = c.skip.new.self.at in
    let lt : i < j = omega (arith, (scan w).from) in
    record {
      same = c.skip.ensures.same;
      further = lt;
      reads = λ s b. subst (λ t. Like doc j (tag t (cut doc i j) s)) (sym c.named-tag.ensures) (past_name s (scan w) (begun w s b) lt);
    }

pub loop-b-preserved : goal.loop-b-preserved
loop-b-preserved c =
    let (lt, is) = byte (goal.at.loop-b-preserved c).After-step in
    let told = c.skip-in-Goes.ensures in
    record {
      same = told.same ∙ c.loop-b.invariant.same;
      further = omega (arith, told.stays.from);
      reads = λ s b. rw told.same (stays told.stays (moves (c.loop-b.invariant.reads s b) lt _ _ refl (ap (next c.loop-b.tag.state) is ∙ c.in-Goes.ensures) refl));
    }

pub returns-in_default-clause-reads : goal.returns-in_default-clause-reads
returns-in_default-clause-reads c = λ s b. refused refl (halts (c.loop-b.invariant.reads s b) refl (λ lt. absurd (search rules)))

pub returns-in-Refuses-clause-reads : goal.returns-in-Refuses-clause-reads
returns-in-Refuses-clause-reads c =
    let (lt, is) = byte (goal.at.returns-in-Refuses-clause-reads c).After-step in
    λ s b. refused refl (unmoved (c.loop-b.invariant.reads s b) lt (ap (next c.loop-b.tag.state) is ∙ c.in-Refuses.ensures))

pub returns-clause-reads : goal.returns-clause-reads
returns-clause-reads c =
    let (lt, is) = byte (goal.at.returns-clause-reads c).After-step in
    λ s b.
    elim c.match-step.branch [
      | in-Opens w ↦ rw w.lone-is (moves (c.loop-b.invariant.reads s b) lt _ _ refl (ap (next c.loop-b.tag.state) is ∙ w.in-Opens.ensures) refl)
      | in-Closes w ↦ rw w.lone-is (moves (c.loop-b.invariant.reads s b) lt _ _ refl (ap (next c.loop-b.tag.state) is ∙ w.in-Closes.ensures) refl)
    ]
