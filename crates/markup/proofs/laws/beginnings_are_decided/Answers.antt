use Rattle.markup.proofs.Decided.{beginnings}
use Rattle.markup.proofs.laws.beginnings_are_decided.Goals as goal

pub returns : goal.returns
returns c = beginnings
