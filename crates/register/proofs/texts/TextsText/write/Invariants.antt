use Rattle.promises.specs.Stored.{decoded}
use Rattle.register.proofs.Cadenas.{LinesLeft}
use Rattle.register.proofs.texts.TextsText.write.Given as goal

abbrev pub invariant-loop-text : goal.invariant-loop-text
invariant-loop-text g l =
    (goal.iterator-loop-text g).can_next l.text-iterator
    × (goal.iterator-loop-text g).is_finite l.text-iterator
    × LinesLeft g.W.Writer.writing (decoded l.self.left l.self.rest.now) l.initial.to (decoded l.text-iterator.left l.text-iterator.rest.now) l.to
