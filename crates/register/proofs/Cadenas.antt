-- The cadenas of the texts that a register holds, one after another.
use Rattle.std.proofs.Common.{◌≡◌, ℕ, Bool, true, false, List, [], ◌∷◌, ◌++◌, Some, sym, refl, ap, ◌∙◌, subst}
use Rattle.rules.specs.Markup.{Document, Marks}
use Rattle.rules.specs.Located.{elements_of}
use Rattle.rules.specs.Values.{Values, values_of}
use Rattle.rules.specs.Texts.{cadena}
use Rattle.rules.specs.Grounds.{tree, names, HasValues}
use Rattle.rules.specs.Register.{nth, Pairwise, none_left as no_pair, one_more, lines}
use Rattle.promises.specs.Stored.{AllCopies}
use Rattle.promises.proofs.StoredCopies.{stored_sound}
use Rattle.walk.specs.Coming.{InOrder}
use Rattle.original.specs.Wrote.{WellNamed}
use Rattle.sinks.specs.Writers.{Writing, Written}
use Rattle.register.specs.Cadenas.{CadenasOf}
use Rattle.fair.proofs.Progress.{Left, all_left, left_as, more_written, refused, none_left}

-- the nodes of a stored text are in order, and its attributes have no fault in their names
module _ {cs : List (List ℕ)} (known : ∥ AllCopies cs ∥₁) (n : ℕ) (c : List ℕ) (at : nth cs n ≡ Some c) (m : Document) (k : Marks c m) where
  pub stored_in_order : InOrder c m
  stored_in_order f x = stored_sound known n c at f (λ facts. tree m f k x)

  pub stored_named : WellNamed m
  stored_named t f a x = stored_sound known n c at f (λ facts. names m t f k a x)

-- how a cadena was written
abbrev pub CadenaWritten : {W : Type 0} → Writing W → List ℕ → W → (all : Bool) → W → Type 0
CadenaWritten w c a all b = (m : Document) → Marks c m → InOrder c m → WellNamed m → Written w a (cadena (values_of (elements_of m))) all b

-- the cadenas of some texts are to be written from a on, and those of the last ones still from b on
abbrev pub LinesLeft : {W : Type 0} → Writing W → List (List ℕ) → W → List (List ℕ) → W → Type 0
LinesLeft w whole a rest b = (text : List ℕ) → CadenasOf whole text → (left : List ℕ) × CadenasOf rest left × Left w a text left b

-- the cadenas of some texts were written, whole or up to a refused byte
abbrev pub LinesWritten : {W : Type 0} → Writing W → List (List ℕ) → W → Bool → W → Type 0
LinesWritten w whole a all b = (text : List ℕ) → CadenasOf whole text → Written w a text all b

-- the values of the first text, and the cadenas of the others
record First (c : List ℕ) (cs : List (List ℕ)) (text : List ℕ) : Type 0 where
  value : Values
  has_value : HasValues c value
  others : List ℕ
  others_are : CadenasOf cs others
  all_are : text ≡ cadena value ++ 10 ∷ others

first : {c : List ℕ} {cs : List (List ℕ)} {vs : List Values} → Pairwise HasValues (c ∷ cs) vs → First c cs (lines vs)
first (one_more {y = v} {ys = vs} h p) = record { value = v; has_value = h; others = lines vs; others_are = record { values = vs; have_values = p; is = refl }; all_are = refl }

first_of : {c : List ℕ} {cs ds : List (List ℕ)} {text : List ℕ} → ds ≡ c ∷ cs → CadenasOf ds text → First c cs text
first_of {c} {cs} next p = subst (First c cs) (sym p.is) (first (subst (λ l. Pairwise HasValues l p.values) next p.have_values))

none : {vs : List Values} → Pairwise HasValues [] vs → lines vs ≡ []
none no_pair = refl

none_of : {ds : List (List ℕ)} {text : List ℕ} → ds ≡ [] → CadenasOf ds text → text ≡ []
none_of end p = p.is ∙ none (subst (λ l. Pairwise HasValues l p.values) end p.have_values)

module _ {W : Type 0} {w : Writing W} where
  -- none is written yet
  pub all_lines : {whole : List (List ℕ)} {a : W} → LinesLeft w whole a whole a
  all_lines text p = (text, p, all_left)

  module _ {c : List ℕ} {cs ds : List (List ℕ)} (next : ds ≡ c ∷ cs) (known : ∥ AllCopies ds ∥₁) where
    cadena_of : {b b' : W} {all : Bool} (v : Values) → HasValues c v → CadenaWritten w c b all b' → Written w b (cadena v) all b'
    cadena_of {b} {b'} {all} v h f =
        let (m, marks, is) = h in
        let at : nth ds 1 ≡ Some c = ap (λ l. nth l 1) next in
        subst (λ x. Written w b (cadena x) all b') (sym is) (f m marks (stored_in_order known 1 c at m marks) (stored_named known 1 c at m marks))

    -- a byte of the next cadena is refused
    pub cadena_refused : {whole : List (List ℕ)} {a b b' : W} {all : Bool} → all ≡ false → CadenaWritten w c b false b' → LinesLeft w whole a ds b → LinesWritten w whole a all b'
    cadena_refused no' f l text p =
        let (rest, q, left) = l text p in
        let x = first_of next q in
        refused no' (10 ∷ x.others) (cadena_of x.value x.has_value f) (left_as x.all_are left)

    -- its line feed is refused
    pub feed_refused : {whole : List (List ℕ)} {a b b' b'' : W} {all : Bool} → all ≡ false → CadenaWritten w c b true b' → Written w b' (10 ∷ []) false b'' → LinesLeft w whole a ds b → LinesWritten w whole a all b''
    feed_refused no' f g l text p =
        let (rest, q, left) = l text p in
        let x = first_of next q in
        refused no' x.others g (more_written (cadena_of x.value x.has_value f) (left_as x.all_are left))

    -- both are written
    pub line_written : {whole : List (List ℕ)} {a b b' b'' : W} → CadenaWritten w c b true b' → Written w b' (10 ∷ []) true b'' → LinesLeft w whole a ds b → LinesLeft w whole a cs b''
    line_written f g l text p =
        let (rest, q, left) = l text p in
        let x = first_of next q in
        (x.others, x.others_are, more_written g (more_written (cadena_of x.value x.has_value f) (left_as x.all_are left)))

  -- all are written
  pub all_written : {whole ds : List (List ℕ)} {a b : W} → ds ≡ [] → LinesLeft w whole a ds b → LinesWritten w whole a true b
  all_written end l text p =
      let (rest, q, left) = l text p in
      none_left (left_as (none_of end q) left)
