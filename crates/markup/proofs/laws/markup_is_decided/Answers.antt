use Rattle.markup.proofs.Decided.{markup_decided}
use Rattle.markup.proofs.laws.markup_is_decided.Goals as goal

pub returns : goal.returns
returns c = markup_decided
