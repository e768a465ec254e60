use Rattle.register.proofs.copying.is_copy.Goals as goal

pub returns-then-text-copy_length : goal.returns-then-text-copy_length
returns-then-text-copy_length c = λ x copy long. c.matches.ensures x copy
