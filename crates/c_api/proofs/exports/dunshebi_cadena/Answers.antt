use Rattle.std.proofs.Common.{rules}
use Rattle.c_api.proofs.Putting.{same_room, put_in}
use Rattle.c_api.proofs.exports.dunshebi_cadena.Goals as goal

pub returns : goal.returns
returns c =
    let same = same_room c.cadena.ensures in
    put_in c.cadena.ensures c.new-buffer.ensures.taken c.new-buffer.ensures.room c.count.ensures.count (search rules)
