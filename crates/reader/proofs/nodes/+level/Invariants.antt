use Rattle.std.proofs.Common.{◌≡◌, ℕ, ◌+◌, ◌-◌, ◌≤◌, true, List, length, drop}
use Rattle.rules.specs.Markup.{Content, text, content_ok}
use Rattle.rules.specs.Located.{located}
use Rattle.theory.specs.On.{content_on, ends}
use Rattle.reader.specs.Tree.{tree_first}
use Rattle.reader.proofs.nodes.+level.Given as goal

abbrev pub decreases-level : goal.decreases-level
decreases-level l = l.depth

abbrev pub invariant-child : goal.invariant-child
invariant-child l =
    (l.at ≤ l.i)
    × (l.i ≤ length l.document)
    × ((c : Content) (rest : List ℕ) → content_ok l.depth c ≡ true → ends rest ≡ true → drop l.at l.document ≡ content_on c rest →
    (left : Content) × (content_ok l.depth left ≡ true) × (drop l.i l.document ≡ content_on left rest) × (l.i + length (text left) ≡ l.at + length (text c))
    × (tree_first l.under 0 0 (l.at + length (text c)) (located l.at c) ≡ tree_first l.under l.so_far.row l.so_far.count (l.at + length (text c)) (located l.i left)))

abbrev pub decreases-child : goal.decreases-child
decreases-child l = length l.document - l.i
