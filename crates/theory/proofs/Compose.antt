-- How the first faults of parts compose into the first fault of the whole.
use Rattle.std.proofs.Common.{◌≡◌, ℕ, ◌+◌, ◌<◌, ◌≤◌, Bool, true, false, cond, ◌⊎◌, List, [], ◌∷◌, ◌++◌, Some, None, Option, sym, refl, ap, ◌∙◌, subst, inl, inr, append_assoc, append-nil, arith}
use Rattle.std.proofs.lemmas.Bool.{cond_both, false≢true}
use Rattle.std.proofs.lemmas.Bool.Decides.{nat_tests}
use Rattle.rules.specs.Bytes.{Among}
use Rattle.rules.specs.Faults.{Rank, rank, not_after, Judgement}
use Rattle.rules.specs.declared.grounds.Fault.{Fault}
use Rattle.theory.specs.Grounds.{Decided, Some_of}
use Rattle.theory.proofs.Lists.{cons_head, cons_tail, among_nil, among_cons}

-- a fault counts before another, or has its rank
abbrev pub Before : Fault → Fault → Type 0
Before f g = not_after (rank f) (rank g) ≡ true

-- the order of ranks
rank_itself : (a : Rank) → not_after a a ≡ true
rank_itself a = grind (arith, nat_tests)

rank_turned : (a b : Rank) → not_after a b ≡ false → not_after b a ≡ true
rank_turned a b h = grind (arith, nat_tests)

rank_onward : (a b c : Rank) → not_after a b ≡ true → not_after b c ≡ true → not_after a c ≡ true
rank_onward a b c h k = grind (arith, nat_tests)

-- a fault has its own rank
pub before_itself : (f : Fault) → Before f f
before_itself f = rank_itself (rank f)

-- the order of faults may be followed
pub before_onward : (f g h : Fault) → Before f g → Before g h → Before f h
before_onward f g h = rank_onward (rank f) (rank g) (rank h)

-- a fault of an earlier layer counts before one of a later layer
pub lower_layer : (a b : Rank) → a.layer < b.layer → not_after a b ≡ true
lower_layer a b h = grind (arith, nat_tests)

-- in one layer, a fault at an earlier place counts before one at a later place
pub lower_place : (a b : Rank) → a.layer ≡ b.layer → a.major < b.major → not_after a b ≡ true
lower_place a b e h = grind (arith, nat_tests)

-- a judgement of one finding is a judgement of another that finds the same
pub judged_as : (P Q : Fault → Type 0) → ((f : Fault) → P f → Q f) → ((f : Fault) → Q f → P f) → (o : Option Fault) → Judgement P o → Judgement Q o
judged_as P Q to from None h = λ f q. h f (from f q)
judged_as P Q to from (Some f) h = (to f h.0, λ g q. h.1 g (from g q))

-- a finding that a test decides
abbrev pub Where : Bool → Fault → Fault → Type 0
Where b f g = (b ≡ true) × (g ≡ f)

-- a fault where a test holds
abbrev pub fault_where : Bool → Fault → Option Fault
fault_where true f = Some f
fault_where false f = None

-- the judgement of a finding that a test decides
pub where_judged : (b : Bool) (f : Fault) → Judgement (Where b f) (fault_where b f)
where_judged true f = ((refl, refl), λ g h. subst (Before f) (sym h.1) (before_itself f))
where_judged false f = λ g h. false≢true h.0

-- the one of two answers that counts first
abbrev pub earliest : Option Fault → Option Fault → Option Fault
earliest None b = b
earliest (Some f) None = Some f
earliest (Some f) (Some g) = cond (not_after (rank f) (rank g)) (Some f) (Some g)

-- what either of two findings finds
abbrev pub Either : (P Q : Fault → Type 0) → Fault → Type 0
Either P Q f = P f ⊎ Q f

-- two judgements make one, by the earlier of their faults
pub either_judged : (P Q : Fault → Type 0) (a b : Option Fault) → Judgement P a → Judgement Q b → Judgement (Either P Q) (earliest a b)
either_judged P Q None None h k = λ f e. elim e [ inl x ↦ h f x | inr y ↦ k f y ]
either_judged P Q None (Some g) h k = (inr k.0, λ f e. elim e [ inl x ↦ absurd (h f x) | inr y ↦ k.1 f y ])
either_judged P Q (Some f) None h k = (inl h.0, λ g e. elim e [ inl x ↦ h.1 g x | inr y ↦ absurd (k g y) ])
either_judged P Q (Some f) (Some g) h k =
    cond_both (not_after (rank f) (rank g)) (Some f) (Some g) (Judgement (Either P Q))
    (λ e. (inl h.0, λ j x. elim x [ inl p ↦ h.1 j p | inr q ↦ before_onward f g j e (k.1 j q) ]))
    (λ e. (inr k.0, λ j x. elim x [ inl p ↦ before_onward g f j (rank_turned (rank f) (rank g) e) (h.1 j p) | inr q ↦ k.1 j q ]))

-- what finds the same is decided too
pub decided_as : (P Q : Fault → Type 0) → ((f : Fault) → P f → Q f) → ((f : Fault) → Q f → P f) → Decided P → Decided Q
decided_as P Q to from (o, h) = (o, judged_as P Q to from o h)

-- a finding by a test is decided
pub where_decided : (b : Bool) (f : Fault) → Decided (Where b f)
where_decided b f = (_, where_judged b f)

-- two findings that are decided make one
pub either_decided : (P Q : Fault → Type 0) → Decided P → Decided Q → Decided (Either P Q)
either_decided P Q (a, h) (b, k) = (_, either_judged P Q a b h k)

-- the first of two answers that is a fault
abbrev pub or_else : Option Fault → Option Fault → Option Fault
or_else None b = b
or_else (Some f) b = Some f

-- two findings, where all that the first finds counts before all that the second finds
pub then_judged : (P Q : Fault → Type 0) → ((f g : Fault) → P f → Q g → Before f g) → (a b : Option Fault) → Judgement P a → Judgement Q b → Judgement (Either P Q) (or_else a b)
then_judged P Q apart None b h k = judged_as Q (Either P Q) (λ f q. inr q) (λ f e. elim e [ inl x ↦ absurd (h f x) | inr y ↦ y ]) b k
then_judged P Q apart (Some f) b h k = (inl h.0, λ g e. elim e [ inl x ↦ h.1 g x | inr y ↦ apart f g h.0 y ])

-- nothing is found in an empty list
pub some_nil : {S : Type 0} (P : S → Fault → Type 0) (f : Fault) → Some_of P [] f → ⊥
some_nil P f (s, a, p) = among_nil s a

-- what is found in a list is found at its first part or in the rest
pub some_cons : {S : Type 0} (P : S → Fault → Type 0) (x : S) (xs : List S) (f : Fault) → Some_of P (x ∷ xs) f → Either (P x) (Some_of P xs) f
some_cons P x xs f (s, a, p) = elim (among_cons x xs s a) [ inl q ↦ inl (subst (λ y. P y f) (sym q) p) | inr q ↦ inr (s, q, p) ]

-- what is found at the first part or in the rest is found in the list
pub some_either : {S : Type 0} (P : S → Fault → Type 0) (x : S) (xs : List S) (f : Fault) → Either (P x) (Some_of P xs) f → Some_of P (x ∷ xs) f
some_either P x xs f (inl p) = (x, ([], xs, refl), p)
some_either P x xs f (inr (s, (b, a, e), p)) = (s, (x ∷ b, a, ap (λ y. x ∷ y) e), p)

-- the earliest of the answers at the parts of a list
abbrev pub earliest_of : {S : Type 0} → (S → Option Fault) → List S → Option Fault
earliest_of v [] = None
earliest_of v (s ∷ ss) = earliest (v s) (earliest_of v ss)

-- the judgement of what some part of a list finds
pub each_judged : {S : Type 0} (P : S → Fault → Type 0) (v : S → Option Fault) (ss : List S) → ((s : S) → Judgement (P s) (v s)) → Judgement (Some_of P ss) (earliest_of v ss)
each_judged P v [] each = some_nil P
each_judged P v (s ∷ ss) each =
    judged_as (Either (P s) (Some_of P ss)) (Some_of P (s ∷ ss)) (some_either P s ss) (some_cons P s ss) _
    (either_judged (P s) (Some_of P ss) (v s) (earliest_of v ss) (each s) (each_judged P v ss each))

-- what each part of a list finds is decided, so what some part finds is
pub each_decided : {S : Type 0} (P : S → Fault → Type 0) (ss : List S) → ((s : S) → Decided (P s)) → Decided (Some_of P ss)
each_decided P ss each = (_, each_judged P (λ s. (each s).0) ss (λ s. (each s).1))

-- what is found at some part of a list, by the parts before it
abbrev pub Some_after : {S : Type 0} → (List S → S → Fault → Type 0) → List S → List S → Fault → Type 0
Some_after {S} P before ss f = (b : List S) × (s : S) × (after : List S) × (ss ≡ b ++ s ∷ after) × P (before ++ b) s f

-- the earliest of the answers at the parts of a list, by the parts before each
abbrev pub earliest_after : {S : Type 0} → (List S → S → Option Fault) → List S → List S → Option Fault
earliest_after v before [] = None
earliest_after v before (s ∷ ss) = earliest (v before s) (earliest_after v (before ++ s ∷ []) ss)

module _ {S : Type 0} (P : List S → S → Fault → Type 0) (before : List S) (x : S) (xs : List S) where
  after_cons : (f : Fault) → Some_after P before (x ∷ xs) f → Either (P before x) (Some_after P (before ++ x ∷ []) xs) f
  after_cons f ([], s, after, e, p) = inl (subst (λ y. P before y f) (sym (cons_head e)) (subst (λ b. P b s f) (append-nil before) p))
  after_cons f (c ∷ b, s, after, e, p) = inr (b, s, after, cons_tail e, subst (λ y. P y s f) (ap (λ y. before ++ y ∷ b) (sym (cons_head e)) ∙ sym (append_assoc before (x ∷ []) b)) p)

  after_either : (f : Fault) → Either (P before x) (Some_after P (before ++ x ∷ []) xs) f → Some_after P before (x ∷ xs) f
  after_either f (inl p) = ([], x, xs, refl, subst (λ b. P b x f) (sym (append-nil before)) p)
  after_either f (inr (b, s, after, e, p)) = (x ∷ b, s, after, ap (λ y. x ∷ y) e, subst (λ y. P y s f) (append_assoc before (x ∷ []) b) p)

-- the judgement of what some part finds after those before it
pub after_judged : {S : Type 0} (P : List S → S → Fault → Type 0) (v : List S → S → Option Fault) → ((b : List S) (s : S) → Judgement (P b s) (v b s)) → (before ss : List S) → Judgement (Some_after P before ss) (earliest_after v before ss)
after_judged P v each before [] = λ f (b, s, after, e, p). among_nil s (b, after, e)
after_judged P v each before (s ∷ ss) =
    judged_as (Either (P before s) (Some_after P (before ++ s ∷ []) ss)) (Some_after P before (s ∷ ss)) (after_either P before s ss) (after_cons P before s ss) _
    (either_judged (P before s) (Some_after P (before ++ s ∷ []) ss) _ _ (each before s) (after_judged P v each (before ++ s ∷ []) ss))

-- the first fault of a list of parts, by an answer on each
abbrev pub first_found : {S : Type 0} → (S → Option Fault) → List S → Option Fault
first_found v [] = None
first_found v (s ∷ ss) = or_else (v s) (first_found v ss)

-- a walk over parts joins its answers
pub first-found-++ : {S : Type 0} (v : S → Option Fault) (xs ys : List S) → first_found v (xs ++ ys) ≡ or_else (first_found v xs) (first_found v ys)
first-found-++ v [] ys = refl
first-found-++ v (x ∷ xs) ys = ap (or_else (v x)) (first-found-++ v xs ys) ∙ join (v x) (first_found v xs) (first_found v ys)
  where
    join : (a b c : Option Fault) → or_else a (or_else b c) ≡ or_else (or_else a b) c
    join None b c = refl
    join (Some f) b c = refl

-- a fault of one layer, between two places
pub record In (layer lo hi : ℕ) (f : Fault) : Type 0 where
  pub layered : (rank f).layer ≡ layer
  pub low : lo ≤ (rank f).major
  pub high : (rank f).major ≤ hi

-- the faults of each part lie between two places of its own, and those grow
abbrev pub Apart : {S : Type 0} → ℕ → (S → Fault → Type 0) → ℕ → ℕ → List S → Type 0
Apart n P lo hi [] = lo ≤ hi
Apart n P lo hi (s ∷ ss) = (e : ℕ) × (lo ≤ e) × ((f : Fault) → P s f → In n lo e f) × Apart n P (e + 1) hi ss

-- the places grow
apart_grows : {S : Type 0} (n : ℕ) (P : S → Fault → Type 0) (lo hi : ℕ) (ss : List S) → Apart n P lo hi ss → lo ≤ hi
apart_grows n P lo hi [] h = h
apart_grows n P lo hi (s ∷ ss) h = omega (arith, h.1, apart_grows n P (h.0 + 1) hi ss h.3)

-- all faults lie between the outer places
pub apart_in : {S : Type 0} (n : ℕ) (P : S → Fault → Type 0) (lo hi : ℕ) (ss : List S) → Apart n P lo hi ss → (f : Fault) → Some_of P ss f → In n lo hi f
apart_in n P lo hi [] h f q = absurd (some_nil P f q)
apart_in n P lo hi (s ∷ ss) h f q =
    elim (some_cons P s ss f q) [
      | inl p ↦ let m = h.2 f p in record { layered = m.layered; low = m.low; high = omega (arith, m.high, apart_grows n P (h.0 + 1) hi ss h.3) }
      | inr p ↦ let m = apart_in n P (h.0 + 1) hi ss h.3 f p in record { layered = m.layered; low = omega (arith, h.1, m.low); high = m.high }
    ]

-- of parts that lie one after the other, the first fault is that of the first part that has one
pub apart_judged : {S : Type 0} (n : ℕ) (P : S → Fault → Type 0) (v : S → Option Fault) (lo hi : ℕ) (ss : List S) → Apart n P lo hi ss → ((s : S) → Among s ss → Judgement (P s) (v s)) → Judgement (Some_of P ss) (first_found v ss)
apart_judged n P v lo hi [] h each = some_nil P
apart_judged n P v lo hi (s ∷ ss) h each =
    judged_as (Either (P s) (Some_of P ss)) (Some_of P (s ∷ ss)) (some_either P s ss) (some_cons P s ss) _
    (then_judged (P s) (Some_of P ss)
    (λ f g p q. let l = h.2 f p in let m = apart_in n P (h.0 + 1) hi ss h.3 g q in lower_place (rank f) (rank g) (l.layered ∙ sym m.layered) (omega (arith, l.high, m.low)))
    (v s) (first_found v ss) (each s ([], ss, refl)) (apart_judged n P v (h.0 + 1) hi ss h.3 (λ t (b, a, e). each t (s ∷ b, a, ap (λ y. s ∷ y) e))))
