-- Catalogue sets: what a set means, and the two that come with the product, the ruled set and the set of a catalogue text.
use Rattle.std.specs.Prelude.{◌≡◌, ℕ, ◌+◌, ◌-◌, ◌<◌, ◌≤◌, Bool, true, false, cond, not, ◌&&◌, ◌||◌, List, [], ◌∷◌, ◌++◌, length, is_some, Some, None, codes, Option, ◌==◌, ◌≢◌, nat_le, slice_index}
use Rattle.std.specs.Char.{is_ascii_digit}
use Rattle.rules.specs.Bytes.{all, same, Among}
use Rattle.rules.specs.Kinds.{code_ok}
use Rattle.rules.specs.Faults.{FirstOf}
use Rattle.rules.specs.declared.grounds.Fault.{Fault}
use Rattle.rules.specs.declared.grounds.Fault.TheVariants.{BadCatalogue, BadCatalogueLine}
use Rattle.rules.specs.declared.schema.Catalogue.{Catalogue}
use Rattle.rules.specs.declared.schema.Catalogue.TheVariants.{FormaPago, Moneda, TipoDeComprobante, Exportacion, MetodoPago, CodigoPostal, RegimenFiscal, ResidenciaFiscal, UsoCFDI, ClaveProdServ, ClaveUnidad, ObjetoImp, Impuesto, TipoFactor}

-- what a catalogue set means: for a catalogue and a code its decimals, or nothing
abbrev pub Facts : Type 0
Facts = Catalogue → List ℕ → Option ℕ

-- a set knows decimals 0 to 6 alone
abbrev pub Bounded : Facts → Type 0
Bounded facts = (c : Catalogue) (s : List ℕ) (n : ℕ) → facts c s ≡ Some n → n ≤ 6

-- n decimals where a test holds
abbrev pub when : Bool → ℕ → Option ℕ
when true n = Some n
when false n = None

-- a text is one of some texts
abbrev pub one_of : List ℕ → List (List ℕ) → Bool
one_of s [] = false
one_of s (t ∷ ts) = same s t || one_of s ts

-- what the ruled set knows of a code
abbrev pub by_form : Facts
by_form CodigoPostal s = when (length s == 5 && all is_ascii_digit s) 0
by_form ClaveProdServ s = when (length s == 8 && all is_ascii_digit s) 0
by_form TipoDeComprobante s = when (one_of s (codes "I" ∷ codes "E" ∷ codes "T" ∷ codes "N" ∷ codes "P" ∷ [])) 0
by_form TipoFactor s = when (one_of s (codes "Tasa" ∷ codes "Cuota" ∷ codes "Exento" ∷ [])) 0
by_form Moneda s = cond (one_of s (codes "MXN" ∷ codes "USD" ∷ [])) (Some 2) (when (same s (codes "XXX")) 0)
by_form FormaPago s = Some 0
by_form Exportacion s = Some 0
by_form MetodoPago s = Some 0
by_form RegimenFiscal s = Some 0
by_form ResidenciaFiscal s = Some 0
by_form UsoCFDI s = Some 0
by_form ClaveUnidad s = Some 0
by_form ObjetoImp s = Some 0
by_form Impuesto s = Some 0

-- the ruled set: five-digit postal codes, eight-digit product codes, the types, factors and currencies below, and elsewhere every code
abbrev pub ruled : Facts
ruled c s = cond (code_ok s) (by_form c s) None

-- the name of a catalogue, under which its lines stand
abbrev pub catalogue_name : Catalogue → List ℕ
catalogue_name FormaPago = codes "FormaPago"
catalogue_name Moneda = codes "Moneda"
catalogue_name TipoDeComprobante = codes "TipoDeComprobante"
catalogue_name Exportacion = codes "Exportacion"
catalogue_name MetodoPago = codes "MetodoPago"
catalogue_name CodigoPostal = codes "CodigoPostal"
catalogue_name RegimenFiscal = codes "RegimenFiscal"
catalogue_name ResidenciaFiscal = codes "ResidenciaFiscal"
catalogue_name UsoCFDI = codes "UsoCFDI"
catalogue_name ClaveProdServ = codes "ClaveProdServ"
catalogue_name ClaveUnidad = codes "ClaveUnidad"
catalogue_name ObjetoImp = codes "ObjetoImp"
catalogue_name Impuesto = codes "Impuesto"
catalogue_name TipoFactor = codes "TipoFactor"

-- a line of a catalogue text: a catalogue, a code and its decimals
pub record Fact : Type 0 where
  pub catalogue : Catalogue
  pub key : List ℕ
  pub decimals : ℕ

-- the code is one, and the decimals are 0 to 6
abbrev pub fact_ok : Fact → Bool
fact_ok f = code_ok f.key && nat_le f.decimals 6

-- how a fact is written: catalogue, code and decimals with '|' between them
abbrev pub fact_text : Fact → List ℕ
fact_text f = catalogue_name f.catalogue ++ 124 ∷ (f.key ++ 124 ∷ (48 + f.decimals) ∷ [])

-- the first line of a catalogue text
abbrev pub header : List ℕ
header = codes "catalogo|clave|decimales"

-- the lines of a text that a line feed ends, where line stands before it
abbrev pub ended_from : List ℕ → List ℕ → List (List ℕ)
ended_from line [] = []
ended_from line (b ∷ bs) = cond (b == 10) (line ∷ ended_from [] bs) (ended_from (line ++ b ∷ []) bs)

-- what stands after the last line feed, where line stands before the text
abbrev pub rest_from : List ℕ → List ℕ → List ℕ
rest_from line [] = line
rest_from line (b ∷ bs) = cond (b == 10) (rest_from [] bs) (rest_from (line ++ b ∷ []) bs)

-- the lines that a line feed ends
abbrev pub ended_lines : List ℕ → List (List ℕ)
ended_lines t = ended_from [] t

-- what stands after the last line feed
abbrev pub unended : List ℕ → List ℕ
unended t = rest_from [] t

-- the place of a line's first byte, after the lines before it
abbrev pub start_after : List (List ℕ) → ℕ
start_after [] = 0
start_after (l ∷ ls) = length l + 1 + start_after ls

-- two lines tell facts of one catalogue and one code
abbrev pub SamePair : List ℕ → List ℕ → Type 0
SamePair a b =
    (f : Fact) × (g : Fact) × (fact_ok f ≡ true) × (fact_ok g ≡ true) × (a ≡ fact_text f) × (b ≡ fact_text g)
    × (f.catalogue ≡ g.catalogue) × (f.key ≡ g.key)

-- what the grounds 16 and 17 find in a catalogue text: a limit passed, or a wrong or unended first line; a line that is unended, is no fact, or repeats a pair
pub data CatalogueFinds (t : List ℕ) : Fault → Type 0 where
  too_long : 65536 < length t → CatalogueFinds t BadCatalogue
  too_many : 4096 < length (ended_lines t) → CatalogueFinds t BadCatalogue
  no_header : ended_lines t ≡ [] → CatalogueFinds t BadCatalogue
  bad_header : (l : List ℕ) (ls : List (List ℕ)) → ended_lines t ≡ l ∷ ls → (l ≢ header) → CatalogueFinds t BadCatalogue
  no_fact : (l : List ℕ) (before after : List (List ℕ)) → ended_lines t ≡ before ++ l ∷ after → 0 < length before →
      ((f : Fact) → fact_ok f ≡ true → l ≢ fact_text f) → CatalogueFinds t (BadCatalogueLine (start_after before))
  repeats : (l k : List ℕ) (before after : List (List ℕ)) → ended_lines t ≡ before ++ l ∷ after → Among k before → SamePair k l → CatalogueFinds t (BadCatalogueLine (start_after before))
  not_ended : 0 < length (unended t) → CatalogueFinds t (BadCatalogueLine (start_after (ended_lines t)))

-- the first fault of a catalogue text
abbrev pub CatalogueFirst : List ℕ → Fault → Type 0
CatalogueFirst t = FirstOf (CatalogueFinds t)

-- a line up to its first '|'
abbrev pub before_bar : List ℕ → List ℕ
before_bar [] = []
before_bar (b ∷ bs) = cond (b == 124) [] (b ∷ before_bar bs)

-- what follows the first '|' of a line
abbrev pub after_bar : List ℕ → List ℕ
after_bar [] = []
after_bar (b ∷ bs) = cond (b == 124) bs (after_bar bs)

-- the known catalogues
abbrev pub catalogues : List Catalogue
catalogues = FormaPago ∷ Moneda ∷ TipoDeComprobante ∷ Exportacion ∷ MetodoPago ∷ CodigoPostal ∷ RegimenFiscal ∷ ResidenciaFiscal ∷ UsoCFDI ∷ ClaveProdServ ∷ ClaveUnidad ∷ ObjetoImp ∷ Impuesto ∷ TipoFactor ∷ []

-- which of some catalogues has a name
abbrev pub named_among : List Catalogue → List ℕ → Option Catalogue
named_among [] n = None
named_among (c ∷ cs) n = cond (same (catalogue_name c) n) (Some c) (named_among cs n)

-- the fact of a catalogue that a line tells
abbrev pub fact_as : Option Catalogue → List ℕ → Option Fact
fact_as None l = None
fact_as (Some c) l =
    let f : Fact = record { catalogue = c; key = before_bar (after_bar l); decimals = slice_index (after_bar (after_bar l)) 0 - 48 } in
    cond (fact_ok f && same l (fact_text f)) (Some f) None

-- the fact that a line tells, if it tells one
abbrev pub fact_of : List ℕ → Option Fact
fact_of l = fact_as (named_among catalogues (before_bar l)) l

-- the decimals of a fact, where it is of this catalogue and code
abbrev pub decimals_if : Catalogue → List ℕ → Option Fact → Option ℕ
decimals_if c s None = None
decimals_if c s (Some f) = cond (same (catalogue_name f.catalogue) (catalogue_name c) && same f.key s) (Some f.decimals) None

-- the first of two answers
abbrev pub or_else : Option ℕ → Option ℕ → Option ℕ
or_else None o = o
or_else (Some n) o = Some n

-- the decimals that lines tell for a catalogue and a code
abbrev pub told_by : Catalogue → List ℕ → List (List ℕ) → Option ℕ
told_by c s [] = None
told_by c s (l ∷ ls) = or_else (decimals_if c s (fact_of l)) (told_by c s ls)

-- whether lines tell a pair
abbrev pub repeated : Option Fact → List (List ℕ) → Bool
repeated None ls = true
repeated (Some f) ls = is_some (told_by f.catalogue f.key ls)

-- each line tells a fact, and no two tell one pair
abbrev pub lines_ok : List (List ℕ) → Bool
lines_ok [] = true
lines_ok (l ∷ ls) = not (repeated (fact_of l) ls) && lines_ok ls

-- the first line is the header, and the others are lines of facts
abbrev pub headed : List (List ℕ) → Bool
headed [] = false
headed (l ∷ ls) = same l header && lines_ok ls

-- whether a catalogue text has no fault
abbrev pub catalogue_ok : List ℕ → Bool
catalogue_ok t =
    nat_le (length t) 65536
    && (nat_le (length (ended_lines t)) 4096
    && (headed (ended_lines t) && length (unended t) == 0))

-- what the set of a catalogue text means: its facts, and none where the text has a fault
abbrev pub facts_of : List ℕ → Facts
facts_of t c s = cond (catalogue_ok t) (told_by c s (ended_lines t)) None

-- the fact that a text holds for a catalogue and a code, where it has no fault
abbrev pub Holds : List ℕ → Catalogue → List ℕ → ℕ → Type 0
Holds t c s n =
    ((f : Fault) → CatalogueFinds t f → ⊥)
    × (g : Fact) × (Among (fact_text g) (ended_lines t)) × (fact_ok g ≡ true) × (g.catalogue ≡ c) × (g.key ≡ s) × (g.decimals ≡ n)
