-- The laws of catalogue sets.
use Rattle.std.specs.Prelude.{◌≡◌, ℕ, true, ◌⊎◌, ◌↔◌, List, Some}
use Rattle.rules.specs.Catalogues.{Bounded, ruled, catalogue_ok, facts_of, Holds, CatalogueFinds, CatalogueFirst}
use Rattle.rules.specs.declared.grounds.Fault.{Fault}
use Rattle.rules.specs.declared.schema.Catalogue.{Catalogue}

-- the set of a catalogue text knows what the text holds
abbrev pub KnowsWhatItHolds : Type 0
KnowsWhatItHolds = (t : List ℕ) (c : Catalogue) (s : List ℕ) (n : ℕ) → Holds t c s n ↔ (facts_of t c s ≡ Some n)

-- both sets that come with the product know decimals 0 to 6 alone
pub record SetsBounded : Type 0 where
  pub ruled_set : Bounded ruled
  pub text_set : (t : List ℕ) → Bounded (facts_of t)

-- nothing is found in a catalogue text
abbrev pub Faultless : List ℕ → Type 0
Faultless t = (f : Fault) → CatalogueFinds t f → ⊥

-- the test of a catalogue text passes exactly when nothing is found in it
abbrev pub CatalogueTestExact : Type 0
CatalogueTestExact = (t : List ℕ) → (catalogue_ok t ≡ true) ↔ Faultless t

-- every catalogue text passes its test and has no fault, or has a first one
abbrev pub EveryCatalogueJudged : Type 0
EveryCatalogueJudged = (t : List ℕ) → ((catalogue_ok t ≡ true) × Faultless t) ⊎ ((f : Fault) × CatalogueFirst t f)
