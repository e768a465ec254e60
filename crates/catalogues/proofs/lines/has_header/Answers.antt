use Rattle.std.proofs.Common.{◌∷◌, [], ◌++◌}
use Rattle.std.proofs.lemmas.Bool.Decides.{Decides-eqb}
use Rattle.std.proofs.lemmas.Slice.Eq.{starts_is}
use Rattle.rules.specs.Catalogues.{header}
use Rattle.catalogues.proofs.FirstFault.{header_started}
use Rattle.catalogues.proofs.lines.has_header.Goals as goal

pub returns : goal.returns
returns c = header_started c.args.text.now c.starts_with.result (starts_is Decides-eqb c.args.text.now (header ++ 10 ∷ []) c.starts_with.result c.starts_with.ensures.value)
