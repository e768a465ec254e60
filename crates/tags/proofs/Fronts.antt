-- Runs of bytes at the front of what is left of a text.
use Rattle.std.proofs.Common.{◌≡◌, ℕ, suc, ◌+◌, ◌-◌, ◌<◌, ◌≤◌, Bool, true, false, eqb, List, [], ◌∷◌, ◌++◌, length, get_or, take, drop, sym, refl, ap, ◌∙◌, add-zero, one-add, arith}
use Rattle.std.proofs.lemmas.List.{drop-drop, drop_at, drop_more, take_at, get_or-drop, length-drop}
use Rattle.std.proofs.lemmas.Bool.{cond-true, cond-false, and_parts, not-true, not_from_false, not_from_true, ne_eqb, eq-eqb}
use Rattle.std.proofs.lemmas.Bool.Decides.{nat_tests}
use Rattle.rules.specs.Bytes.{all}
use Rattle.tags.specs.Scan.{through, ended}
use Rattle.std.specs.List.{prefix_len}
use Rattle.byte_classes.specs.Runs.{other}
use Rattle.theory.specs.On.{stops}

pub prefix_len_at : (p : ℕ → Bool) (xs r : List ℕ) → all p xs ≡ true → stops p r ≡ true → prefix_len p (xs ++ r) ≡ length xs
prefix_len_at p [] [] a s = refl
prefix_len_at p [] (b ∷ r) a s = cond-false _ _ _ (not-true _ s)
prefix_len_at p (x ∷ xs) r a s = let (u, v) = and_parts _ _ a in cond-true _ _ _ u ∙ ap (λ n. 1 + n) (prefix_len_at p xs r v s) ∙ one-add (length xs)

-- past a piece of what is left
pub past : (d xs r : List ℕ) (i : ℕ) → drop i d ≡ xs ++ r → drop (i + length xs) d ≡ r
past d xs r i e = sym (drop-drop (length xs) i d) ∙ ap (drop (length xs)) e ∙ drop_at xs r (length xs) refl

-- a scan over a run of bytes comes to what follows it
pub scanned : (p : ℕ → Bool) (d xs r : List ℕ) (i e : ℕ) → e ≡ i + prefix_len p (drop i d) → all p xs ≡ true → stops p r ≡ true → drop i d ≡ xs ++ r → (e ≡ i + length xs) × (drop e d ≡ r)
scanned p d xs r i e h a s f =
    let g : e ≡ i + length xs = h ∙ ap (λ n. i + n) (ap (prefix_len p) f ∙ prefix_len_at p xs r a s) in
    (g, ap (λ n. drop n d) g ∙ past d xs r i f)

-- a byte that is q, and one that is not
pub other_true : (q b : ℕ) → (b ≡ q → ⊥) → other q b ≡ true
other_true q b h = not_from_false _ (ne_eqb b q h)

pub other_false : (q b : ℕ) → b ≡ q → other q b ≡ false
other_false q b h = not_from_true _ (eq-eqb b q h)

-- a byte of what is left
pub lies_less : (d xs : List ℕ) (x i : ℕ) → drop i d ≡ x ∷ xs → i < length d
lies_less d xs x i e = let f : length d - i ≡ suc (length xs) = sym (length-drop i d) ∙ ap length e in omega arith

pub lies_head : (d xs : List ℕ) (x i : ℕ) → drop i d ≡ x ∷ xs → get_or d i 0 ≡ x
lies_head d xs x i e = ap (λ n. get_or d n 0) (sym (add-zero i)) ∙ sym (get_or-drop i d 0 0) ∙ ap (λ l. get_or l 0 0) e

pub lies_next : (d xs : List ℕ) (x i : ℕ) → drop i d ≡ x ∷ xs → drop (i + 1) d ≡ xs
lies_next d xs x i e = past d (x ∷ []) xs i e

-- a part of what is left, by its length
pub cut : (d xs r : List ℕ) (i j : ℕ) → drop i d ≡ xs ++ r → j ≡ i + length xs → take (j - i) (drop i d) ≡ xs
cut d xs r i j e q = ap (take (j - i)) e ∙ take_at xs r (j - i) (omega arith)

-- where the byte is found, and where it is not
pub through_there : (q : ℕ) (d : List ℕ) (i j : ℕ) → j ≡ i + prefix_len (other q) (drop i d) → j < length d → j + 1 ≡ i + through q (drop i d)
through_there q d i j h l = omega (arith, go (drop i d) (omega (arith, length-drop i d)))
  where
    go : (xs : List ℕ) → prefix_len (other q) xs < length xs → through q xs ≡ prefix_len (other q) xs + 1
    go [] k = absurd (omega arith)
    go (x ∷ xs) k = grind (arith, nat_tests, go xs)

pub through_not : (q : ℕ) (d : List ℕ) (i j : ℕ) → j ≡ i + prefix_len (other q) (drop i d) → length d ≤ j → j ≡ i + through q (drop i d)
through_not q d i j h l = omega (arith, go (drop i d) (omega (arith, length-drop i d)))
  where
    go : (xs : List ℕ) → length xs ≤ prefix_len (other q) xs → through q xs ≡ prefix_len (other q) xs
    go [] k = refl
    go (x ∷ xs) k = grind (arith, nat_tests, go xs)

-- bytes other than q, and then q
pub passed : (q : ℕ) (d xs rest : List ℕ) (i r : ℕ) → r ≡ i + through q (drop i d) → all (other q) xs ≡ true → drop i d ≡ xs ++ q ∷ rest → (r ≡ i + length xs + 1) × (drop r d ≡ rest)
passed q d xs rest i r h a e =
    let k : through q (xs ++ q ∷ rest) ≡ length xs + 1 = go xs a in
    let g : r ≡ i + length xs + 1 = omega (arith, h, ap (through q) e, k) in
    (g, ap (λ n. drop n d) g ∙ lies_next d rest q (i + length xs) (past d xs (q ∷ rest) i e))
  where
    go : (ys : List ℕ) → all (other q) ys ≡ true → through q (ys ++ q ∷ rest) ≡ length ys + 1
    go [] a = cond-true _ _ _ (eq-eqb q q refl)
    go (y ∷ ys) a = let (u, v) = and_parts _ _ a in let w = go ys v in cond-false _ _ _ (not-true _ u) ∙ omega arith

-- what stands in an element ends, by the bytes that are left
pub ended_short : (d : List ℕ) (i : ℕ) → length d < i + 2 → true ≡ ended (drop i d)
ended_short d i l = go (drop i d) (sym (length-drop i d))
  where
    go : (xs : List ℕ) → length d - i ≡ length xs → true ≡ ended xs
    go [] e = refl
    go (x ∷ []) e = refl
    go (x ∷ y ∷ xs) e = absurd (omega arith)

pub ended_long : (d : List ℕ) (i : ℕ) → i + 1 < length d → eqb (get_or d (i + 1) 0) 47 ≡ ended (drop i d)
ended_long d i l = sym (ap ended (drop_more d i 0 (omega arith) ∙ ap (λ x. get_or d i 0 ∷ x) (drop_more d (i + 1) 0 l)))
