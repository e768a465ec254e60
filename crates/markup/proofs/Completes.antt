-- From every place of the reader some text leads to the end.
use Rattle.std.proofs.Common.{ℕ, List, [], ◌∷◌, ◌++◌, codes, refl}
use Rattle.std.proofs.lemmas.Bool.{eq-eqb, cond-true}
use Rattle.markup.specs.declared.tag.Quote.{Quote}
use Rattle.markup.specs.declared.tag.Quote.TheVariants.{Single, Double}
use Rattle.markup.specs.declared.tag.Spelling.{Spelling}
use Rattle.markup.specs.declared.tag.Spelling.TheVariants.{Begun, A, Am, Ap, Apo, Angle, Q, Qu, Quo, Whole}
use Rattle.markup.specs.declared.tag.State.{State}
use Rattle.markup.specs.declared.tag.State.TheVariants as st
use Rattle.markup.specs.Machine.{Stack, Place, fresh, angled, declaring, before, start, name, tag, inside, angle, ending, after, closed, declared}
use Rattle.markup.proofs.Leads.{Leads, leads, here, on, ends_name}

-- some text leads from p to the end
abbrev pub Ends : Place → Type 0
Ends p = (w : List ℕ) × Leads p w after

ends : {p : Place} (q : Place) (u : List ℕ) → Leads p u q → Ends q → Ends p
ends q u h e = (u ++ e.0, leads h e.1)

-- an end tag of which m of the name is left
ends_tag : (m : List ℕ) (s : Stack) → Ends (closed s) → Ends (ending m s)
ends_tag m s e = ends (ending [] s) m (ends_name m s) (ends (closed s) (codes ">") (record { runs = refl }) e)

-- the end tags of all that is open
closing : (s : Stack) → Ends (closed s)
closing [] = ([], here)
closing (n ∷ s) = ends (ending n s) (codes "</") (record { runs = refl }) (ends_tag n s (closing s))

spelling : (e : Spelling) (q : Quote) (x : List ℕ) (s : Stack) → (u : List ℕ) × Leads (tag (st.Escape q e) x s) u (tag (st.Value q) x s)
spelling Begun q x s = (codes "lt;", record { runs = refl })
spelling A q x s = (codes "mp;", record { runs = refl })
spelling Am q x s = (codes "p;", record { runs = refl })
spelling Ap q x s = (codes "os;", record { runs = refl })
spelling Apo q x s = (codes "s;", record { runs = refl })
spelling Angle q x s = (codes "t;", record { runs = refl })
spelling Q q x s = (codes "uot;", record { runs = refl })
spelling Qu q x s = (codes "ot;", record { runs = refl })
spelling Quo q x s = (codes "t;", record { runs = refl })
spelling Whole q x s = (codes ";", record { runs = refl })

quotes : (q : Quote) (x : List ℕ) (s : Stack) → (u : List ℕ) × Leads (tag (st.Value q) x s) u (closed s)
quotes Single x s = (codes "'/>", record { runs = refl })
quotes Double x s = (codes "\"/>", record { runs = refl })

-- a start tag to its '/>'
tagging : (t : State) (x : List ℕ) (s : Stack) → (u : List ℕ) × Leads (tag t x s) u (closed s)
tagging st.Part x s = (codes "/>", record { runs = refl })
tagging st.Gap x s = (codes "/>", record { runs = refl })
tagging st.Attribute x s = (codes "=''/>", record { runs = refl })
tagging st.Named x s = (codes "=''/>", record { runs = refl })
tagging st.Equals x s = (codes "''/>", record { runs = refl })
tagging (st.Value q) x s = quotes q x s
tagging (st.Escape q e) x s = let (u, k) = spelling e q x s in let (v, l) = quotes q x s in (u ++ v, leads k l)
tagging st.Slash x s = (codes ">", record { runs = refl })

declares : (m : List ℕ) → Ends (declared m)
declares [] = (codes "<a/>", record { runs = refl })
declares (c ∷ m) = let k = declares m in (c ∷ k.0, on (declared m) (cond-true _ _ _ (eq-eqb c c refl)) k.1)

pub completes : (p : Place) → Ends p
completes fresh = (codes "<a/>", record { runs = refl })
completes angled = (codes "a/>", record { runs = refl })
completes (declaring c m) = declares (c ∷ m)
completes before = (codes "<a/>", record { runs = refl })
completes (start s) = ends (closed s) (codes "a/>") (record { runs = refl }) (closing s)
completes (name x s) = ends (closed s) (codes "/>") (record { runs = refl }) (closing s)
completes (tag t x s) = let (u, k) = tagging t x s in ends (closed s) u k (closing s)
completes (inside n s) = closing (n ∷ s)
completes (angle n s) = ends (ending n s) (codes "/") (record { runs = refl }) (ends_tag n s (closing s))
completes (ending m s) = ends_tag m s (closing s)
completes after = ([], here)
