use Rattle.invoice.proofs.Joined.{judged, passes}
use Rattle.invoice.proofs.checking.check.Goals as goal

pub returns : goal.returns
returns g c = record {
  judged = judged _ _ _ c.in_ok-decimals.ensures.judged c.accounts.result c.accounts.ensures.judges c.accounts.ensures.tells;
  passes = passes _ _ _ c.in_ok-decimals.ensures.judged c.accounts.result c.accounts.ensures.judges c.accounts.ensures.tells;
}
