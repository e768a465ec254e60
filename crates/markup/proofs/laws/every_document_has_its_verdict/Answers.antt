use Rattle.markup.proofs.Decided.{every_verdict}
use Rattle.markup.proofs.laws.every_document_has_its_verdict.Goals as goal

pub returns : goal.returns
returns c = every_verdict
