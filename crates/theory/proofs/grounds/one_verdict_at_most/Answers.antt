use Rattle.theory.proofs.FirstLaws.{one_verdict}
use Rattle.theory.proofs.grounds.one_verdict_at_most.Goals as goal

pub returns : goal.returns
returns c = one_verdict
