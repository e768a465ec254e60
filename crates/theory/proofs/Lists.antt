-- Lists, their elements, and tests and properties of each element.
use Rattle.std.proofs.Common.{◌≡◌, ℕ, Bool, true, ◌⊎◌, List, [], ◌∷◌, ◌++◌, sym, refl, ap, ◌∙◌, subst, inl, inr, arith}
use Rattle.std.proofs.lemmas.Bool.{and_parts, and_from}
use Rattle.rules.specs.Bytes.{all, Among}

-- a list with an element is not empty
pub nil_cons : {A : Type 0} (x : A) (xs : List A) → [] ≡ x ∷ xs → ⊥
nil_cons x xs e = let z : ◌≡◌ {A = ℕ} 0 1 = cc in omega arith

-- equal lists have equal rests
pub cons_tail : {A : Type 0} {x y : A} {xs ys : List A} → x ∷ xs ≡ y ∷ ys → xs ≡ ys
cons_tail e = cc

-- equal lists have equal first elements
pub cons_head : {A : Type 0} {x y : A} {xs ys : List A} → x ∷ xs ≡ y ∷ ys → x ≡ y
cons_head e = cc

-- equal elements before equal lists
pub cons_both : {A : Type 0} {x y : A} {xs ys : List A} → x ≡ y → xs ≡ ys → x ∷ xs ≡ y ∷ ys
cons_both p q = λ i. p i ∷ q i

-- nothing stands in the empty list
pub among_nil : {A : Type 0} (x : A) → Among x [] → ⊥
among_nil x ([], a, e) = nil_cons x a e
among_nil x (c ∷ b, a, e) = nil_cons c _ e

-- what stands in a list is its first element or stands in the rest
pub among_cons : {A : Type 0} (y : A) (ys : List A) (x : A) → Among x (y ∷ ys) → (y ≡ x) ⊎ Among x ys
among_cons y ys x ([], a, e) = inl (cons_head e)
among_cons y ys x (c ∷ b, a, e) = inr (b, a, cons_tail e)

-- a weaker test
pub all_with : {A : Type 0} (p q : A → Bool) → ((x : A) → p x ≡ true → q x ≡ true) → (xs : List A) → all p xs ≡ true → all q xs ≡ true
all_with p q f [] h = refl
all_with p q f (x ∷ xs) h = let (u, v) = and_parts _ _ h in and_from _ _ (f x u) (all_with p q f xs v)

-- a test of two lists
pub all_append : {A : Type 0} (p : A → Bool) (xs ys : List A) → all p xs ≡ true → all p ys ≡ true → all p (xs ++ ys) ≡ true
all_append p [] ys h k = k
all_append p (x ∷ xs) ys h k = let (u, v) = and_parts (p x) _ h in and_from _ _ u (all_append p xs ys v k)

-- a test of the parts of a list
pub all_split : {A : Type 0} (p : A → Bool) (xs ys : List A) → all p (xs ++ ys) ≡ true → (all p xs ≡ true) × (all p ys ≡ true)
all_split p [] ys h = (refl, h)
all_split p (x ∷ xs) ys h = let (u, v) = and_parts (p x) _ h in let (a, b) = all_split p xs ys v in (and_from _ _ u a, b)

-- a test of all is a test of each
pub all_among : {A : Type 0} (p : A → Bool) (xs : List A) (x : A) → all p xs ≡ true → Among x xs → p x ≡ true
all_among p [] x h a = absurd (among_nil x a)
all_among p (y ∷ ys) x h a = let (u, v) = and_parts (p y) _ h in elim (among_cons y ys x a) [ inl e ↦ ap p (sym e) ∙ u | inr b ↦ all_among p ys x v b ]

-- a property of each element
abbrev pub Each : {A : Type 0} → (A → Type 0) → List A → Type 0
Each P [] = Unit {0}
Each P (x ∷ xs) = P x × Each P xs

-- a property of each element that stands there
pub each_from : {A : Type 0} (P : A → Type 0) (xs : List A) → ((x : A) → Among x xs → P x) → Each P xs
each_from P [] f = tt
each_from P (x ∷ xs) f = (f x ([], xs, refl), each_from P xs (λ y a. f y (x ∷ a.0, a.1, ap (λ l. x ∷ l) a.2)))

-- a weaker property
pub each_map : {A : Type 0} (P Q : A → Type 0) → ((x : A) → P x → Q x) → (xs : List A) → Each P xs → Each Q xs
each_map P Q f [] h = tt
each_map P Q f (x ∷ xs) h = (f x h.0, each_map P Q f xs h.1)

-- a property of the parts of a list
pub each_split : {A : Type 0} (P : A → Type 0) (xs ys : List A) → Each P (xs ++ ys) → Each P xs × Each P ys
each_split P [] ys h = (tt, h)
each_split P (x ∷ xs) ys h = let (u, v) = each_split P xs ys h.1 in ((h.0, u), v)

-- a property of two lists
pub each_join : {A : Type 0} (P : A → Type 0) (xs ys : List A) → Each P xs → Each P ys → Each P (xs ++ ys)
each_join P [] ys h k = k
each_join P (x ∷ xs) ys h k = (h.0, each_join P xs ys h.1 k)

-- a property of each is one of any
pub each_among : {A : Type 0} (P : A → Type 0) (xs : List A) (x : A) → Each P xs → Among x xs → P x
each_among P [] x h a = absurd (among_nil x a)
each_among P (y ∷ ys) x h a = elim (among_cons y ys x a) [ inl e ↦ subst P e h.0 | inr b ↦ each_among P ys x h.1 b ]
