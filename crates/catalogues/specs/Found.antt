-- What a catalogue set finds of a code.
use Rattle.std.specs.Prelude.{ℕ, ◌≤◌, Some, None, Ok, Err, Option, Result}
use Rattle.catalogues.specs.declared.found.Finding.{Finding}
use Rattle.catalogues.specs.declared.found.Finding.TheVariants.{Unknown}

-- the answer where a set has these decimals or nothing
abbrev pub found_by : Option ℕ → Result ℕ Finding
found_by None = Err Unknown
found_by (Some d) = Ok d

-- decimals that are found are at most 6
abbrev pub Small : Result ℕ Finding → Type 0
Small (Ok d) = d ≤ 6
Small (Err e) = Unit {0}
