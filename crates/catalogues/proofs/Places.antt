-- The lines of a text, and the places where they begin.
use Rattle.std.proofs.Common.{◌≡◌, ℕ, suc, ◌+◌, ◌-◌, ◌<◌, ◌≤◌, ◌⊎◌, List, [], ◌∷◌, ◌++◌, length, take, drop, sym, refl, ap, ◌∙◌, inl, inr, ⊎_elim, arith}
use Rattle.std.proofs.lemmas.Bool.{cases_lt}
use Rattle.std.proofs.lemmas.List.{take-append-drop, take-take, drop-drop, length-drop, length-take-le}
use Rattle.std.proofs.lemmas.Slice.{between_is}
use Rattle.rules.specs.Bytes.{Among}
use Rattle.rules.specs.Catalogues.{ended_from, ended_lines, rest_from, unended, start_after}
use Rattle.theory.proofs.Lists.{nil_cons, cons_head, cons_tail}
use Rattle.catalogues.specs.Lines.{before_feed, line_at, Begins, Within}
use Rattle.catalogues.proofs.Feeds.{ended-++, rest-++, size_of, ended_step, rest_step, ended_none, rest_inside, feed_take, feed_within, one_more}

-- l is the line that begins at p, and a line feed ends it
pub record LineAt (t : List ℕ) (p : ℕ) (l : List ℕ) : Type 0 where
  pub begins : Begins t p
  pub line : line_at t p ≡ l
  pub ended : p + length l < length t

module _ (t : List ℕ) (p : ℕ) where
  take_split : (q : ℕ) → p ≤ q → take q t ≡ take p t ++ take (q - p) (drop p t)
  take_split q h =
      let a : take p (take q t) ≡ take p t = take-take p q t h in
      let b : drop p (take q t) ≡ take (q - p) (drop p t) = sym (between_is t p q) in
      sym (take-append-drop p (take q t)) ∙ (λ i. a i ++ b i)

  module _ (b : Begins t p) where
    rest_at : (q : ℕ) → p ≤ q → unended (take q t) ≡ rest_from [] (take (q - p) (drop p t))
    rest_at q h = ap unended (take_split q h) ∙ rest-++ [] (take p t) (take (q - p) (drop p t)) ∙ ap (λ r. rest_from r (take (q - p) (drop p t))) b

    pub lines_split : ended_lines t ≡ ended_lines (take p t) ++ ended_lines (drop p t)
    lines_split = ap ended_lines (sym (take-append-drop p t)) ∙ ended-++ [] (take p t) (drop p t) ∙ ap (λ r. ended_lines (take p t) ++ ended_from r (drop p t)) b

    pub start_is : p ≤ length t → start_after (ended_lines (take p t)) ≡ p
    start_is h = let e = size_of [] (take p t) in let n : length (unended (take p t)) ≡ 0 = ap length b in let m = length-take-le p t h in omega arith

    -- the line that a line feed ends
    pub line_there : p + length (line_at t p) < length t → ended_lines t ≡ ended_lines (take p t) ++ line_at t p ∷ ended_lines (drop (suc (length (line_at t p))) (drop p t))
    line_there h = lines_split ∙ ap (λ z. ended_lines (take p t) ++ z) (ended_step [] (drop p t) (omega (arith, length-drop p t)))

    pub begins_next : p + length (line_at t p) < length t → Begins t (p + length (line_at t p) + 1)
    begins_next h =
        let e : (p + length (line_at t p) + 1) - p ≡ suc (length (line_at t p)) = omega arith in
        rest_at (p + length (line_at t p) + 1) (omega arith) ∙ ap (λ n. rest_from [] (take n (drop p t))) e ∙ rest_step [] (drop p t) (omega (arith, length-drop p t))

    pub count_next : p + length (line_at t p) < length t → length (ended_lines (take (p + length (line_at t p) + 1) t)) ≡ length (ended_lines (take p t)) + 1
    count_next h =
        let e : (p + length (line_at t p) + 1) - p ≡ suc (length (line_at t p)) = omega arith in
        ap (λ x. length (ended_lines x)) (take_split (p + length (line_at t p) + 1) (omega arith) ∙ ap (λ n. take p t ++ take n (drop p t)) e)
        ∙ one_more (take p t) (drop p t) (omega (arith, length-drop p t))

    pub none_inside : (q : ℕ) → p < q → q ≤ p + length (line_at t p) → Begins t q → ⊥
    none_inside q h k c =
        let u : q - p ≤ length (before_feed (drop p t)) = omega arith in
        let e : take (q - p) (drop p t) ≡ [] = sym (rest_inside [] (drop p t) (q - p) u) ∙ sym (rest_at q (omega arith)) ∙ c in
        let f : length (take (q - p) (drop p t)) ≡ 0 = ap length e in
        let w = feed_within (drop p t) in
        let g = length-take-le (q - p) (drop p t) (omega arith) in
        omega arith

    -- what begins before the next line begins before this one, or is this one
    pub within_next : (q : ℕ) → Within t (p + length (line_at t p) + 1) q → Within t p q ⊎ (q ≡ p)
    within_next q (c, d, e) =
        ⊎_elim (λ x. inl (c, d, x))
        (λ x. inr (⊎_elim (λ y. absurd (none_inside q y (omega arith) c)) (λ y. omega arith) (cases_lt p q)))
        (cases_lt q p)

-- a line ends within its text
pub line_inside : (t : List ℕ) (p : ℕ) → p ≤ length t → p + length (line_at t p) ≤ length t
line_inside t p h = omega (arith, feed_within (drop p t), length-drop p t)

-- a line that begins before a place where another begins
pub line_before : (t : List ℕ) (p at : ℕ) → Begins t p → Begins t at → p < at → at ≤ length t → (p + length (line_at t p) < at) × Among (line_at t p) (ended_lines (take at t))
line_before t p at b c h k =
    let u : take p (take at t) ≡ take p t = take-take p at t (omega arith) in
    let b' : Begins (take at t) p = ap unended u ∙ b in
    let n : p + length (line_at t p) < at = ⊎_elim (λ x. x) (λ x. absurd (none_inside t p b at h x c)) (cases_lt (p + length (line_at t p)) at) in
    let f : line_at (take at t) p ≡ line_at t p = ap before_feed (sym (between_is t p at)) ∙ feed_take (drop p t) (at - p) (omega arith) in
    let m = length-take-le at t k in
    let f' : length (line_at (take at t) p) ≡ length (line_at t p) = ap length f in
    let e = line_there (take at t) p b' (omega arith) ∙ (λ i. ended_lines (u i) ++ f i ∷ ended_lines (drop (suc (length (line_at (take at t) p))) (drop p (take at t)))) in
    (n, (ended_lines (take p t), _, e))

-- the place of a line of a text
first_line : (t l : List ℕ) (after : List (List ℕ)) → ended_lines t ≡ l ∷ after → (before_feed t ≡ l) × (length (before_feed t) < length t) × (ended_lines (drop (suc (length (before_feed t))) t) ≡ after)
first_line t l after e =
    ⊎_elim
    (λ h. let f = sym (ended_step [] t h) ∙ e in (cons_head f, h, cons_tail f))
    (λ h. absurd (nil_cons l after (sym (ended_none [] t h) ∙ e)))
    (cases_lt (length (before_feed t)) (length t))

pub placed : (before : List (List ℕ)) (t l : List ℕ) (after : List (List ℕ)) → ended_lines t ≡ before ++ l ∷ after → LineAt t (start_after before) l
placed [] t l after e = let (f, h, _) = first_line t l after e in let g : length (before_feed t) ≡ length l = ap length f in record { begins = refl; line = f; ended = omega arith }
placed (k ∷ before) t l after e =
    let (f, h, r) = first_line t k (before ++ l ∷ after) e in
    let n : ℕ = length (before_feed t) in
    let g : n ≡ length k = ap length f in
    let p : ℕ = start_after before in
    let q : ℕ = length k + 1 + p in
    let i = placed before (drop (suc n) t) l after r in
    let x : suc n + p ≡ q = omega arith in
    let z : q - suc n ≡ p = omega arith in
    let d : drop p (drop (suc n) t) ≡ drop q t = drop-drop p (suc n) t ∙ ap (λ m. drop m t) x in
    let m = length-drop (suc n) t in
    let j = i.ended in
    record {
      begins = rest_at t (suc n) (rest_step [] t h) q (omega arith) ∙ ap (λ y. rest_from [] (take y (drop (suc n) t))) z ∙ i.begins;
      line = ap before_feed (sym d) ∙ i.line;
      ended = omega arith;
    }
