use Rattle.catalogues.proofs.FirstFault.{no_faults}
use Rattle.catalogues.proofs.checking.check.Goals as goal

pub returns : goal.returns
returns c = no_faults c.args.text.now c.in_ok-new.field-0.text.now c.in_ok-new.field-0.at c.in_ok-new.field-0.order c.in_ok-new.ensures.ok.0 c.in_ok-new.ensures.ok.1
