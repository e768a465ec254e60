use Rattle.std.proofs.Common.{rules}
use Rattle.c_api.proofs.Putting.{same_room, put_in}
use Rattle.c_api.proofs.exports.dunshebi_fair_copy.Goals as goal

pub returns : goal.returns
returns c =
    let same = same_room c.fair_copy.ensures.answered in
    put_in c.fair_copy.ensures.answered c.new-buffer.ensures.taken c.new-buffer.ensures.room c.count.ensures.count (search rules)
