-- Lines and line feeds of a text.
use Rattle.std.proofs.Common.{◌≡◌, ℕ, zero, suc, ◌+◌, ◌<◌, ◌≤◌, cond, eqb, List, [], ◌∷◌, ◌++◌, length, take, drop, sym, refl, ap, ◌∙◌, ⊎_elim, append_assoc, append-nil, arith, length-append, get_or}
use Rattle.std.specs.List.{count_by}
use Rattle.std.proofs.lemmas.List.Recursion.{is_count_by}
use Rattle.std.proofs.lemmas.Bool.{cases_Bool, eqb-true, cond-true, cond-false, eq-eqb, ne_eqb}
use Rattle.rules.specs.Catalogues.{ended_from, rest_from, start_after}
use Rattle.catalogues.specs.Lines.{before_feed}
use Rattle.std.proofs.lemmas.List.{at_drop_more, at_drop_all}

-- a text and what follows it
pub ended-++ : (line a b : List ℕ) → ended_from line (a ++ b) ≡ ended_from line a ++ ended_from (rest_from line a) b
ended-++ line [] b = refl
ended-++ line (x ∷ a) b =
    ⊎_elim
    (λ e. rw e (ap (λ z. line ∷ z) (ended-++ [] a b)))
    (λ e. rw e (ended-++ (line ++ x ∷ []) a b))
    (cases_Bool (eqb x 10))

pub rest-++ : (line a b : List ℕ) → rest_from line (a ++ b) ≡ rest_from (rest_from line a) b
rest-++ line [] b = refl
rest-++ line (x ∷ a) b =
    ⊎_elim
    (λ e. rw e (rest-++ [] a b))
    (λ e. rw e (rest-++ (line ++ x ∷ []) a b))
    (cases_Bool (eqb x 10))

pub start-++ : (a b : List (List ℕ)) → start_after (a ++ b) ≡ start_after a + start_after b
start-++ [] b = omega arith
start-++ (l ∷ a) b = let e = start-++ a b in omega arith

-- lines with their line feeds, and what is not ended, make up the text
pub size_of : (line a : List ℕ) → start_after (ended_from line a) + length (rest_from line a) ≡ length line + length a
size_of line [] = omega arith
size_of line (x ∷ a) =
    ⊎_elim
    (λ e. rw e (omega (arith, size_of [] a)))
    (λ e. rw e (omega (arith, size_of (line ++ x ∷ []) a, length-append line (x ∷ []))))
    (cases_Bool (eqb x 10))

-- where a line feed comes
pub ended_step : (line s : List ℕ) → length (before_feed s) < length s → ended_from line s ≡ (line ++ before_feed s) ∷ ended_from [] (drop (suc (length (before_feed s))) s)
ended_step line [] h = absurd (omega arith)
ended_step line (x ∷ s) h =
    ⊎_elim
    (λ e. rw e (ap (λ z. z ∷ ended_from [] s) (sym (append-nil line))))
    (λ e.
    let h' : length (x ∷ before_feed s) < length (x ∷ s) = rw e at h in
    rw e (ended_step (line ++ x ∷ []) s (omega arith) ∙ ap (λ z. z ∷ ended_from [] (drop (suc (length (before_feed s))) s)) (append_assoc line (x ∷ []) (before_feed s))))
    (cases_Bool (eqb x 10))

pub rest_step : (line s : List ℕ) → length (before_feed s) < length s → rest_from line (take (suc (length (before_feed s))) s) ≡ []
rest_step line [] h = absurd (omega arith)
rest_step line (x ∷ s) h =
    ⊎_elim
    (λ e. rw e)
    (λ e.
    let h' : length (x ∷ before_feed s) < length (x ∷ s) = rw e at h in
    rw e (rest_step (line ++ x ∷ []) s (omega arith)))
    (cases_Bool (eqb x 10))

-- where none comes
pub ended_none : (line s : List ℕ) → length s ≤ length (before_feed s) → ended_from line s ≡ []
ended_none line [] h = refl
ended_none line (x ∷ s) h =
    ⊎_elim
    (λ e. let h' : length (x ∷ s) ≤ 0 = rw e at h in absurd (omega arith))
    (λ e.
    let h' : length (x ∷ s) ≤ length (x ∷ before_feed s) = rw e at h in
    rw e (ended_none (line ++ x ∷ []) s (omega arith)))
    (cases_Bool (eqb x 10))

pub feed_split : (s : List ℕ) → length (before_feed s) < length s → s ≡ before_feed s ++ 10 ∷ drop (suc (length (before_feed s))) s
feed_split [] h = absurd (omega arith)
feed_split (x ∷ s) h =
    ⊎_elim
    (λ e. let q = eqb-true x 10 e in rw (e, q))
    (λ e.
    let h' : length (x ∷ before_feed s) < length (x ∷ s) = rw e at h in
    rw e (ap (λ z. x ∷ z) (feed_split s (omega arith))))
    (cases_Bool (eqb x 10))

-- inside a line
pub rest_inside : (line s : List ℕ) (k : ℕ) → k ≤ length (before_feed s) → rest_from line (take k s) ≡ line ++ take k s
rest_inside line s zero h = sym (append-nil line)
rest_inside line [] (suc k) h = sym (append-nil line)
rest_inside line (x ∷ s) (suc k) h =
    ⊎_elim
    (λ e. let h' : suc k ≤ 0 = rw e at h in absurd (omega arith))
    (λ e.
    let h' : suc k ≤ length (x ∷ before_feed s) = rw e at h in
    rw e (rest_inside (line ++ x ∷ []) s k (omega arith) ∙ append_assoc line (x ∷ []) (take k s)))
    (cases_Bool (eqb x 10))

-- a line of the beginning of a text
pub feed_take : (s : List ℕ) (k : ℕ) → length (before_feed s) < k → before_feed (take k s) ≡ before_feed s
feed_take s zero h = absurd (omega arith)
feed_take [] (suc k) h = refl
feed_take (x ∷ s) (suc k) h =
    ⊎_elim
    (λ e. rw e)
    (λ e.
    let h' : length (x ∷ before_feed s) < suc k = rw e at h in
    rw e (ap (λ z. x ∷ z) (feed_take s k (omega arith))))
    (cases_Bool (eqb x 10))

pub feed_within : (s : List ℕ) → length (before_feed s) ≤ length s
feed_within [] = omega arith
feed_within (x ∷ s) =
    ⊎_elim
    (λ e. rw e (omega arith))
    (λ e. rw e (omega (arith, feed_within s)))
    (cases_Bool (eqb x 10))

-- how many line feeds a text has
abbrev pub feeds : List ℕ → ℕ
feeds [] = 0
feeds (x ∷ s) = cond (eqb x 10) (1 + feeds s) (feeds s)

pub lines_feeds : (line s : List ℕ) → length (ended_from line s) ≡ feeds s
lines_feeds line [] = refl
lines_feeds line (x ∷ s) =
    ⊎_elim
    (λ e. rw e (omega (arith, lines_feeds [] s)))
    (λ e. rw e (lines_feeds (line ++ x ∷ []) s))
    (cases_Bool (eqb x 10))

feeds-++ : (a b : List ℕ) → feeds (a ++ b) ≡ feeds a + feeds b
feeds-++ [] b = omega arith
feeds-++ (x ∷ a) b =
    ⊎_elim
    (λ e. rw e (omega (arith, feeds-++ a b)))
    (λ e. rw e (feeds-++ a b))
    (cases_Bool (eqb x 10))

feeds_line : (s : List ℕ) → length (before_feed s) < length s → feeds (take (suc (length (before_feed s))) s) ≡ 1
feeds_line [] h = absurd (omega arith)
feeds_line (x ∷ s) h =
    ⊎_elim
    (λ e. rw e)
    (λ e. let h' : length (x ∷ before_feed s) < length (x ∷ s) = rw e at h in rw e (feeds_line s (omega arith)))
    (cases_Bool (eqb x 10))

-- one line more
pub one_more : (a s : List ℕ) → length (before_feed s) < length s → length (ended_from [] (a ++ take (suc (length (before_feed s))) s)) ≡ length (ended_from [] a) + 1
one_more a s h =
    let n : ℕ = suc (length (before_feed s)) in
    let u = lines_feeds [] (a ++ take n s) in
    let v = lines_feeds [] a in
    let w = feeds-++ a (take n s) in
    let x = feeds_line s h in
    omega arith

pub feeds_counted : (s : List ℕ) → feeds s ≡ count_by (λ b. eqb b 10) s
feeds_counted s = is_count_by feeds (λ b. eqb b 10) refl (λ _ _. refl) s

-- line feeds one byte on
module _ (s : List ℕ) (i : ℕ) where
  pub feeds_more : i < length s → get_or s i 0 ≡ 10 → feeds (drop i s) ≡ 1 + feeds (drop (i + 1) s)
  feeds_more h e = at_drop_more feeds s i 0 h ∙ cond-true _ _ _ (eq-eqb _ _ e)

  pub feeds_past : i < length s → (get_or s i 0 ≡ 10 → ⊥) → feeds (drop i s) ≡ feeds (drop (i + 1) s)
  feeds_past h e = at_drop_more feeds s i 0 h ∙ cond-false _ _ _ (ne_eqb _ _ e)

  pub feeds_end : length s ≤ i → feeds (drop i s) ≡ 0
  feeds_end h = at_drop_all feeds s i h
