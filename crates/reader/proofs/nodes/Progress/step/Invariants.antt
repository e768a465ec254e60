use Rattle.std.proofs.Common.{◌≡◌, ◌+◌, map, drop}
use Rattle.schema.specs.Meant.{child_meant}
use Rattle.reader.specs.Tree.{step}
use Rattle.reader.proofs.nodes.Progress.step.Given as goal

abbrev pub invariant-loop-i : goal.invariant-loop-i
invariant-loop-i l = step (map child_meant l.rows) l.self.row l.self.count l.name ≡ step (drop l.i (map child_meant l.rows)) (l.self.row + l.i) l.count l.name
