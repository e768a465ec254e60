-- Two sample invoices with one cadena become two entries.
use Rattle.std.proofs.Common.{◌≡◌, ℕ, ◌+◌, ◌≤◌, true, ◌&&◌, leb, List, length, refl, arith}
use lib.Utf8.{encode}
use Rattle.std.proofs.lemmas.Bool.{and_parts, leb-true}
use Rattle.rules.specs.Values.{Values}
use Rattle.rules.specs.Texts.{cadena, fair_copy}
use Rattle.rules.specs.Catalogues.{ruled}
use Rattle.rules.specs.Register.{room}
use Rattle.rules.specs.Examples.{with_serie, with_folio}
use Rattle.promises.specs.RegisterLaws.{TwoEntries}
use Rattle.theory.proofs.Example.{serie_passes, folio_passes}
use Rattle.promises.proofs.RegisterLaws.{two_entered}

entries_differ : with_serie ≡ with_folio → ⊥
entries_differ e = let z : ◌≡◌ {A = ℕ} 0 1 = cc in omega arith

sizes : (leb (length (fair_copy with_serie)) 2000 && leb (length (fair_copy with_folio)) 2000) ≡ true
unfolding encode
sizes = refl

room_for : (m : List ℕ) (v w : Values) → 4096 ≤ length m → (leb (length (fair_copy v)) 2000 && leb (length (fair_copy w)) 2000) ≡ true → length (fair_copy v) + length (fair_copy w) + 8 ≤ room m
room_for m v w h e = let (a, b) = and_parts (leb (length (fair_copy v)) 2000) _ e in let x = leb-true _ _ a in let y = leb-true _ _ b in omega arith

one_cadena : cadena with_serie ≡ cadena with_folio
unfolding encode
one_cadena = refl

pub two_entries : TwoEntries
two_entries = (
  one_cadena,
  λ m h.
      two_entered m ruled with_serie with_folio serie_passes.passes serie_passes.reads_back folio_passes.passes folio_passes.reads_back entries_differ
      (room_for m with_serie with_folio h sizes),
)
