use Rattle.std.specs.Str.Iter.{char_indices_offset, char_indices_rest}
use Rattle.letters.proofs.Spell.{Sofar}
use Rattle.letters.proofs.characters.Given as goal

abbrev pub invariant-loop-at : goal.invariant-loop-at
invariant-loop-at l = Sofar l.text (char_indices_offset l.at-iterator) (char_indices_rest l.at-iterator)
