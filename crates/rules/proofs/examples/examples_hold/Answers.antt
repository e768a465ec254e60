use Rattle.std.proofs.Common.{◌≡◌, ℕ, false, refl, arith}
use lib.Utf8.{encode}
use Rattle.std.specs.Str.{chars}
use Rattle.rules.specs.Examples.{plain, with_serie, with_folio, with_point}
use Rattle.rules.specs.Texts.{fair}
use Rattle.rules.proofs.examples.examples_hold.Goals as goal

serie_and_folio : with_serie ≡ with_folio → ⊥
serie_and_folio e = let z : ◌≡◌ {A = ℕ} 0 1 = cc in omega arith

two_totals : plain ≡ with_point → ⊥
two_totals e = let z : ◌≡◌ {A = ℕ} 0 1 = cc in omega arith

pub returns : goal.returns
unfolding encode chars
returns c = record {
  serie_and_folio = serie_and_folio;
  one_cadena = refl;
  two_totals = two_totals;
  serie_25 = refl;
  serie_26 = refl;
  leap_day = refl;
  no_leap_day = refl;
  largest = refl;
  too_large = refl;
  no_fraction = refl;
  no_whole = refl;
  pesos = refl;
  half_up = refl;
  below_half = refl;
  whole_cadena = refl;
  checked = record { fecha_is = refl; tipo_is = refl; moneda_is = refl; subtotal_is = refl; descuento_is = refl; total_is = refl };
  reads_back = (record { declared = false; content = fair plain }, (refl, refl), refl);
  serie_reads_back = (record { declared = false; content = fair with_serie }, (refl, refl), refl);
  folio_reads_back = (record { declared = false; content = fair with_folio }, (refl, refl), refl);
  point_reads_back = (record { declared = false; content = fair with_point }, (refl, refl), refl);
  one_space = refl;
  rfc_with_tilde = refl;
  catalogue_line = refl;
  repeated_pair = refl;
}
