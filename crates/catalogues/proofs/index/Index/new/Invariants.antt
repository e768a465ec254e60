use Rattle.std.proofs.Common.{length, ◌-◌, ◌≡◌}
use Rattle.catalogues.proofs.index.Index.new.Given as goal

abbrev pub invariant-loop-index : goal.invariant-loop-index
invariant-loop-index l = l.index.text.now ≡ l.text

abbrev pub decreases-loop-index : goal.decreases-loop-index
decreases-loop-index l = length l.text - l.index.at
