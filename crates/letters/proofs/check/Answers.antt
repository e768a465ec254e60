use Rattle.std.proofs.Common.{rules, arith}
use Rattle.letters.proofs.Judged.{too_long_first, judged}
use Rattle.letters.proofs.check.Goals as goal

pub returns-then-document-gt-LIMIT : goal.returns-then-document-gt-LIMIT
returns-then-document-gt-LIMIT c = too_long_first _ (omega arith)

pub returns : goal.returns
returns c = judged _ _ _ (omega arith) c.spelled.ensures (search rules)
