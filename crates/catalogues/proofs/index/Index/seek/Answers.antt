use Rattle.std.proofs.Common.{rules, tests, arith}
use Rattle.std.specs.Cmp.Lexicographic.{slice_cmp}
use Rattle.std.specs.Ordering.{nat_cmp}
use Rattle.std.proofs.lemmas.Fn.{always_returns_same}
use Rattle.catalogues.specs.Lines.{key_at}
use Rattle.catalogues.proofs.Orders.{searched}
use Rattle.catalogues.proofs.index.Index.seek.Goals as goal

pub returns : goal.returns
returns c =
    let t = c.args.self.now.text.now in
    let key = c.args.key.now in
    let s = c.binary_search_by.ensures in
    searched t c.args.self.now.places key c.args.self.now.count (omega arith) c.args.self.now.indexed.ascends c.binary_search_by.result s.bound
    (s.position (λ p. slice_cmp nat_cmp (key_at t p) key) (always_returns_same _ _ _ (λ a r q k. search (rules, tests))))
