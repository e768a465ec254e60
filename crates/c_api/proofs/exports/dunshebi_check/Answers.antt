use Rattle.c_api.specs.Told.{refused}
use Rattle.c_api.proofs.exports.dunshebi_check.Goals as goal

pub returns-in-Err : goal.returns-in-Err
returns-in-Err c = refused c.in-Err.fault c.in-Err.ensures.judged c.number.ensures
