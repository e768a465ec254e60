use Rattle.theory.proofs.KindLaws.{kind_law}
use Rattle.theory.proofs.kinds.every_kind_is_lawful.Goals as goal

pub returns : goal.returns
returns c = kind_law
