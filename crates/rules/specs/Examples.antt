-- The worked examples of the definitions.
use Rattle.std.specs.Prelude.{◌≡◌, ℕ, true, false, List, [], ◌∷◌, replicate, Some, None, codes, Option}
use Rattle.std.proofs.Math.Utf8.{encodes}
use Rattle.rules.specs.Accounts.{rounded, Checked}
use Rattle.rules.specs.Kinds.{admitted, millionths}
use Rattle.rules.specs.Kept.{kept}
use Rattle.rules.specs.Values.{Values, no_nodes, node}
use Rattle.rules.specs.Texts.{cadena, fair_copy}
use Rattle.rules.specs.Grounds.{HasValues}
use Rattle.rules.specs.Catalogues.{ruled, facts_of}
use Rattle.rules.specs.declared.schema.Catalogue.TheVariants.{Moneda}
use Rattle.rules.specs.declared.schema.Kind.TheVariants.{Text, Amount, DateTime, Rfc}
use Rattle.rules.specs.declared.schema.Node.TheVariants.{Comprobante, Emisor, Receptor, Conceptos, Concepto}

-- a kept form that is present
abbrev given : List ℕ → Option (List ℕ)
given s = Some s

-- the values of the sample invoice, with a Serie, a Folio and a Total
abbrev pub invoice : Option (List ℕ) → Option (List ℕ) → List ℕ → Values
invoice serie folio total =
    node Comprobante
    (given (codes "4.0") ∷ serie ∷ folio ∷ given (codes "2024-03-05T10:00:00") ∷ None ∷ given (codes "00000000000000000001")
    ∷ None ∷ given (codes "0") ∷ None ∷ given (codes "XXX") ∷ None ∷ given total ∷ given (codes "T") ∷ given (codes "01")
    ∷ None ∷ given (codes "44100") ∷ None ∷ given [] ∷ given [] ∷ [])
    (node Emisor
    (given (encodes (codes "ÑAB010203XY1")) ∷ given (codes "Barro y Torno") ∷ given (codes "612") ∷ None ∷ [])
    no_nodes
    (node Receptor
    (given (codes "XAXX010101000") ∷ given (codes "PUBLICO EN GENERAL") ∷ given (codes "44100") ∷ None ∷ None
    ∷ given (codes "616") ∷ given (codes "S01") ∷ [])
    no_nodes
    (node Conceptos []
    (node Concepto
    (given (codes "01010101") ∷ None ∷ given (codes "1") ∷ given (codes "H87") ∷ None ∷ given (codes "Taza & plato")
    ∷ given (codes "0") ∷ given (codes "0") ∷ None ∷ given (codes "01") ∷ [])
    no_nodes no_nodes)
    no_nodes)))
    no_nodes

-- the sample with neither Serie nor Folio
abbrev pub plain : Values
plain = invoice None None (codes "0")

-- with Serie "A" alone
abbrev pub with_serie : Values
with_serie = invoice (given (codes "A")) None (codes "0")

-- with Folio "A" alone
abbrev pub with_folio : Values
with_folio = invoice None (given (codes "A")) (codes "0")

-- with Total "0.0"
abbrev pub with_point : Values
with_point = invoice None None (codes "0.0")

-- the worked examples, together
pub record Examples : Type 0 where
  -- Serie "A" without Folio and Folio "A" without Serie are different values with one cadena
  pub serie_and_folio : with_serie ≡ with_folio → ⊥
  pub one_cadena : cadena with_serie ≡ cadena with_folio
  -- Total "0" and "0.0" are different values
  pub two_totals : plain ≡ with_point → ⊥
  -- Serie of 25 Ñ is admitted, and of 26 is not
  pub serie_25 : admitted (Text 25) (encodes (replicate 25 209)) ≡ true
  pub serie_26 : admitted (Text 25) (encodes (replicate 26 209)) ≡ false
  -- a real day is admitted, and another is not
  pub leap_day : admitted DateTime (codes "2024-02-29T23:59:59") ≡ true
  pub no_leap_day : admitted DateTime (codes "2023-02-29T00:00:00") ≡ false
  -- the largest amount is admitted; one more digit, and a point without digits on a side, are not
  pub largest : admitted Amount (codes "9999999999.999999") ≡ true
  pub too_large : admitted Amount (codes "10000000000") ≡ false
  pub no_fraction : admitted Amount (codes "1.") ≡ false
  pub no_whole : admitted Amount (codes ".5") ≡ false
  -- with the two decimals of MXN, 0.015 rounds to 0.02 and 0.014999 to 0.01
  pub pesos : ruled Moneda (codes "MXN") ≡ Some 2
  pub half_up : rounded 2 (millionths (codes "0.015")) ≡ millionths (codes "0.02")
  pub below_half : rounded 2 (millionths (codes "0.014999")) ≡ millionths (codes "0.01")
  -- the whole cadena of the sample, what a check gives of it, and that its fair copy reads back to it
  pub whole_cadena : cadena plain ≡ encodes (codes "||4.0|2024-03-05T10:00:00|00000000000000000001|0|XXX|0|T|01|44100|ÑAB010203XY1|Barro y Torno|612|XAXX010101000|PUBLICO EN GENERAL|44100|616|S01|01010101|1|H87|Taza & plato|0|0|01||")
  pub checked : Checked plain (codes "2024-03-05T10:00:00") (codes "T") (codes "XXX") 0 None 0
  pub reads_back : HasValues (fair_copy plain) plain
  pub serie_reads_back : HasValues (fair_copy with_serie) with_serie
  pub folio_reads_back : HasValues (fair_copy with_folio) with_folio
  pub point_reads_back : HasValues (fair_copy with_point) with_point
  -- a kept form, and an RFC with Ñ
  pub one_space : kept (codes "  a  b ") ≡ codes "a b"
  pub rfc_with_tilde : admitted Rfc (encodes (codes "ÑAB010203XY1")) ≡ true
  -- a catalogue text, and one that repeats a pair and so has no facts
  pub catalogue_line : facts_of (codes "catalogo|clave|decimales\nMoneda|JPY|0\nMoneda|MXN|2\n") Moneda (codes "MXN") ≡ Some 2
  pub repeated_pair : facts_of (codes "catalogo|clave|decimales\nMoneda|MXN|0\nMoneda|MXN|2\n") Moneda (codes "MXN") ≡ None
