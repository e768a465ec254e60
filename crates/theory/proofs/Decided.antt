-- The layers are decided, each with no regard to the others.
use Rattle.std.proofs.Common.{◌≡◌, ℕ, Bool, true, false, not, ◌&&◌, ◌||◌, ltb, List, [], ◌∷◌, length, is_some, Some, None, Option, sym, refl, ap, ◌∙◌, subst, inl, inr, ⊎_elim, arith}
use Rattle.std.proofs.lemmas.Bool.{and_parts, and_from, not-true, not_from_false, or_cases, or_left, or_right, false≢true, ltb-true, lt-ltb}
use Rattle.rules.specs.Bytes.{Among}
use Rattle.rules.specs.Letters.{SpelledUpTo}
use Rattle.rules.specs.Located.{Given, Elements}
use Rattle.rules.specs.Kinds.{keep, admitted, catalogue_of}
use Rattle.rules.specs.Schema.{Row, attributes}
use Rattle.rules.specs.Values.{slots, values_of}
use Rattle.rules.specs.Accounts.{rule_e}
use Rattle.rules.specs.Catalogues.{Facts}
use Rattle.rules.specs.Grounds.{LettersFault, too_long, bad_letter, rows, row_of, occurs, Standing, standing, NamesFault, refused, missing, ValuesFault, not_admitted, not_in_catalogue, root_rule, root_at, AccountFault, at_root, at_transfer}
use Rattle.rules.specs.declared.grounds.Rule.{Rule}
use Rattle.rules.specs.declared.grounds.Rule.TheVariants as rule
use Rattle.rules.specs.declared.grounds.Fault.{Fault}
use Rattle.rules.specs.declared.grounds.Fault.TheVariants.{TooLong, BadLetter, AttributeRefused, AttributeMissing, NotAdmitted, NotInCatalogue, AccountBroken}
use Rattle.rules.specs.declared.schema.Catalogue.{Catalogue}
use Rattle.theory.specs.Grounds.{Decided, LayersDecided, Some_of}
use Rattle.theory.proofs.Options.{is_none}
use Rattle.theory.proofs.CopyTree.{transfer}
use Rattle.theory.proofs.Lists.{among_nil, among_cons}
use Rattle.theory.proofs.Compose.{Where, where_judged, where_decided, Either, either_judged, either_decided, decided_as, each_judged, Some_after, after_judged}
use Rattle.theory.proofs.Spells.{spelled_up_to}
use Rattle.theory.proofs.Trees.{tree_decided}
use Rattle.theory.proofs.Rules.{every_rule, rule_listed}

-- letters: the text is too long, or its allowed characters end at n before it does
letters_decided : (d : List ℕ) → Decided (LettersFault d)
letters_decided d = let (n, u) = spelled_up_to d in go n u
  where
    go : (n : ℕ) → SpelledUpTo d n → Decided (LettersFault d)
    go n u = decided_as (Either Long Bad) (LettersFault d) to from (either_decided Long Bad (where_decided (ltb 65536 (length d)) TooLong) (where_decided (ltb n (length d)) (BadLetter n)))
      where
        Long : Fault → Type 0
        Long = Where (ltb 65536 (length d)) TooLong

        Bad : Fault → Type 0
        Bad = Where (ltb n (length d)) (BadLetter n)

        to : (f : Fault) → Either Long Bad f → LettersFault d f
        to f (inl (h, e)) = subst (LettersFault d) (sym e) (too_long (ltb-true _ _ h))
        to f (inr (h, e)) = subst (LettersFault d) (sym e) (bad_letter n (ltb-true _ _ h) u)

        from : (f : Fault) → LettersFault d f → Either Long Bad f
        from f (too_long h) = inl (lt-ltb _ _ h, refl)
        from f (bad_letter k h v) =
            let a = u.longest k v.within v.spelled in
            let b = v.longest n u.within u.spelled in
            let e : k ≡ n = omega arith in
            inr (lt-ltb _ _ (omega arith), ap BadLetter e)

-- names: an attribute is refused after those before it, or some required one is absent
abbrev unnamed : Option Row → Bool
unnamed o = not (is_some o)

-- an attribute is unknown, or was given before
abbrev refuses : List Row → List Given → Given → Bool
refuses rs before g = unnamed (row_of rs g.name) || occurs g.name before

-- a required row is not given
abbrev lacks : List Row → List Given → Bool
lacks [] gs = false
lacks (r ∷ rs) gs = (r.required && not (occurs r.name gs)) || lacks rs gs

-- what lacks some row lacks one of them
lacks_some : (rs : List Row) (gs : List Given) → lacks rs gs ≡ true → (r : Row) × Among r rs × (r.required ≡ true) × (occurs r.name gs ≡ false)
lacks_some [] gs h = absurd (false≢true h)
lacks_some (r ∷ rs) gs h =
    elim (or_cases (r.required && not (occurs r.name gs)) _ h) [
      | inl e ↦ let (u, v) = and_parts r.required _ e in (r, ([], rs, refl), u, not-true _ v)
      | inr e ↦ let (q, (b, a, w), u, v) = lacks_some rs gs e in (q, (r ∷ b, a, ap (λ x. r ∷ x) w), u, v)
    ]

-- what lacks one of the rows lacks some
some_lacks : (rs : List Row) (gs : List Given) (r : Row) → Among r rs → r.required ≡ true → occurs r.name gs ≡ false → lacks rs gs ≡ true
some_lacks [] gs r a u v = absurd (among_nil r a)
some_lacks (q ∷ rs) gs r a u v =
    elim (among_cons q rs r a) [
      | inl e ↦ or_left _ _ (and_from _ _ (ap (λ (x : Row). x.required) e ∙ u) (not_from_false _ (ap (λ (x : Row). occurs x.name gs) e ∙ v)))
      | inr b ↦ or_right _ _ (some_lacks rs gs r b u v)
    ]

module _ (s : Standing) where
  -- the fault of an attribute that is refused
  abbrev Refused : List Given → Given → Fault → Type 0
  Refused before g = Where (refuses (rows s.kind) before g) (AttributeRefused g.name_at)

  -- the fault of a node that lacks an attribute
  abbrev Lacking : Fault → Type 0
  Lacking = Where (lacks (rows s.kind) s.givens) (AttributeMissing s.at)

  names_to : (f : Fault) → Either (Some_after Refused [] s.givens) Lacking f → NamesFault s f
  names_to f (inl (b, g, after, e, (h, q))) =
      subst (NamesFault s) (sym q) (refused g b after e (⊎_elim (λ u. inl (is_none (row_of (rows s.kind) g.name) u)) (λ u. inr u) (or_cases (unnamed (row_of (rows s.kind) g.name)) _ h)))
  names_to f (inr (h, q)) = let (r, a, u, v) = lacks_some (rows s.kind) s.givens h in subst (NamesFault s) (sym q) (missing r a u v)

  names_from : (f : Fault) → NamesFault s f → Either (Some_after Refused [] s.givens) Lacking f
  names_from f (refused g b after e w) =
      inl (b, g, after, e, (⊎_elim (λ u. or_left (unnamed (row_of (rows s.kind) g.name)) _ (ap unnamed u)) (λ u. or_right (unnamed (row_of (rows s.kind) g.name)) _ u) w, refl))
  names_from f (missing r a u v) = inr (some_lacks (rows s.kind) s.givens r a u v, refl)

  names_decided : Decided (NamesFault s)
  names_decided =
      decided_as (Either (Some_after Refused [] s.givens) Lacking) (NamesFault s) names_to names_from
      (either_decided (Some_after Refused [] s.givens) Lacking
      (_, after_judged Refused _ (λ b g. where_judged (refuses (rows s.kind) b g) (AttributeRefused g.name_at)) [] s.givens)
      (where_decided (lacks (rows s.kind) s.givens) (AttributeMissing s.at)))

-- values: one is not admitted by its row, or is admitted and not in its catalogue
abbrev unadmitted : Option Row → Given → Bool
unadmitted None g = false
unadmitted (Some r) g = not (admitted r.kind g.value)

-- a code that its catalogue does not have
abbrev unknown_to : Facts → Option Catalogue → List ℕ → Bool
unknown_to facts None x = false
unknown_to facts (Some c) x = not (is_some (facts c x))

-- an admitted value that its catalogue does not have
abbrev unlisted : Facts → Option Row → Given → Bool
unlisted facts None g = false
unlisted facts (Some r) g = admitted r.kind g.value && unknown_to facts (catalogue_of r.kind) (keep r.kind g.value)

module _ (facts : Facts) (s : Standing) where
  -- the row of an attribute
  abbrev row : Given → Option Row
  row g = row_of (rows s.kind) g.name

  -- the fault of a value that is not admitted
  abbrev Unadmitted : Given → Fault → Type 0
  Unadmitted g = Where (unadmitted (row g) g) (NotAdmitted g.value_at)

  -- the fault of a value that is not in its catalogue
  abbrev Unlisted : Given → Fault → Type 0
  Unlisted g = Where (unlisted facts (row g) g) (NotInCatalogue g.value_at)

  -- either fault of a value
  abbrev BadValue : Given → Fault → Type 0
  BadValue g = Either (Unadmitted g) (Unlisted g)

  unadmitted_to : (g : Given) → Among g s.givens → (o : Option Row) → row g ≡ o → unadmitted o g ≡ true → ValuesFault facts s (NotAdmitted g.value_at)
  unadmitted_to g a None e h = absurd (false≢true h)
  unadmitted_to g a (Some r) e h = not_admitted g r a e (not-true _ h)

  unlisted_to : (g : Given) → Among g s.givens → (o : Option Row) → row g ≡ o → unlisted facts o g ≡ true → ValuesFault facts s (NotInCatalogue g.value_at)
  unlisted_to g a None e h = absurd (false≢true h)
  unlisted_to g a (Some r) e h = let (u, v) = and_parts (admitted r.kind g.value) _ h in go (catalogue_of r.kind) refl u v
    where
      go : (c : Option Catalogue) → catalogue_of r.kind ≡ c → admitted r.kind g.value ≡ true → unknown_to facts c (keep r.kind g.value) ≡ true → ValuesFault facts s (NotInCatalogue g.value_at)
      go None q u v = absurd (false≢true v)
      go (Some c) q u v = not_in_catalogue g r c a e u q (is_none (facts c (keep r.kind g.value)) v)

  values_to : (f : Fault) → Some_of BadValue s.givens f → ValuesFault facts s f
  values_to f (g, a, inl (h, q)) = subst (ValuesFault facts s) (sym q) (unadmitted_to g a (row g) refl h)
  values_to f (g, a, inr (h, q)) = subst (ValuesFault facts s) (sym q) (unlisted_to g a (row g) refl h)

  values_from : (f : Fault) → ValuesFault facts s f → Some_of BadValue s.givens f
  values_from f (not_admitted g r a e n) = (g, a, inl (ap (λ o. unadmitted o g) e ∙ not_from_false _ n, refl))
  values_from f (not_in_catalogue g r c a e u q n) =
      let w : unknown_to facts (catalogue_of r.kind) (keep r.kind g.value) ≡ true = ap (λ o. unknown_to facts o (keep r.kind g.value)) q ∙ ap (λ o. not (is_some o)) n in
      (g, a, inr (ap (λ o. unlisted facts o g) e ∙ and_from _ _ u w, refl))

  values_decided : Decided (ValuesFault facts s)
  values_decided =
      decided_as (Some_of BadValue s.givens) (ValuesFault facts s) values_to values_from
      (_, each_judged BadValue _ s.givens (λ g. either_judged (Unadmitted g) (Unlisted g) _ _ (where_judged (unadmitted (row g) g) (NotAdmitted g.value_at)) (where_judged (unlisted facts (row g) g) (NotInCatalogue g.value_at))))

-- accounts: a rule is broken at the root, or rule E at a node that it speaks of
module _ (d : ℕ) (es : Elements) where
  -- the fault of a rule that is broken at the root
  abbrev pub RootBroken : Rule → Fault → Type 0
  RootBroken r = Where (not (root_rule r d (values_of es))) (AccountBroken r (root_at es))

  -- a node keeps rule E
  abbrev pub keeps_e : Standing → Bool
  keeps_e s = rule_e s.kind (slots (attributes s.kind) s.givens)

  -- the fault of a node that breaks rule E
  abbrev pub TransferBroken : Standing → Fault → Type 0
  TransferBroken s = Where (transfer s.kind && not (keeps_e s)) (AccountBroken rule.E s.at)

  -- either fault of accounts
  abbrev Broken : Fault → Type 0
  Broken = Either (Some_of RootBroken every_rule) (Some_of TransferBroken (standing es))

  accounts_to : (f : Fault) → Broken f → AccountFault d es f
  accounts_to f (inl (r, a, (h, q))) = subst (AccountFault d es) (sym q) (at_root r (not-true _ h))
  accounts_to f (inr (s, a, (h, q))) = let (u, v) = and_parts (transfer s.kind) _ h in subst (AccountFault d es) (sym q) (at_transfer s a u (not-true _ v))

  accounts_from : (f : Fault) → AccountFault d es f → Broken f
  accounts_from f (at_root r n) = inl (r, rule_listed r, (not_from_false _ n, refl))
  accounts_from f (at_transfer s a t n) = inr (s, a, (and_from _ _ t (not_from_false _ n), refl))

  accounts_decided : Decided (AccountFault d es)
  accounts_decided =
      decided_as Broken (AccountFault d es) accounts_to accounts_from
      (either_decided (Some_of RootBroken every_rule) (Some_of TransferBroken (standing es))
      (_, each_judged RootBroken _ every_rule (λ r. where_judged (not (root_rule r d (values_of es))) (AccountBroken r (root_at es))))
      (_, each_judged TransferBroken _ (standing es) (λ s. where_judged (transfer s.kind && not (keeps_e s)) (AccountBroken rule.E s.at))))

-- each layer is decided
pub layers_decided : LayersDecided
layers_decided = record { letters_decided = letters_decided; tree_decided = λ p sofar ends es. tree_decided es p sofar ends; names_decided = names_decided; values_decided = values_decided; accounts_decided = accounts_decided }
