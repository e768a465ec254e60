-- Fields after fields are fields.
use Rattle.std.proofs.Common.{◌≡◌, ℕ, Bool, true, false, cond, List, [], ◌∷◌, ◌++◌, is_ok, Ok, Err, Result, sym, refl, ap, ◌∙◌, subst, append_assoc, append-nil}
use Rattle.std.proofs.lemmas.Bool.{false≢true}
use Rattle.std.proofs.lemmas.Result.{MatchResult-weaker}
use Rattle.rules.specs.Texts.{joined}
use Rattle.sinks.specs.Writers.{Writing, Written}
use Rattle.sinks.proofs.Sending.{nothing_written, then, cut}
use Rattle.sinks.specs.declared.writer.Refused.{Refused}
use Rattle.original.specs.Joined.{joined_on, begun_by}
use Rattle.original.specs.Totals.{Totals}
use Rattle.original.specs.Wrote.{owed, Wrote, Same}
use Rattle.original.specs.declared.fields.Fields.{Fields}

-- the first of all fields has no '|' before it
pub joined_is : (fs : List (List ℕ)) → joined_on false fs ≡ joined fs
joined_is [] = refl
joined_is (x ∷ []) = append-nil x
joined_is (x ∷ y ∷ more) = ap (λ l. x ++ 124 ∷ l) (joined_is (y ∷ more))

-- what is begun stays begun
pub begun_on : (fs : List (List ℕ)) → begun_by true fs ≡ true
begun_on [] = refl
begun_on (f ∷ fs) = refl

pub begun_append : (b : Bool) (xs ys : List (List ℕ)) → begun_by b (xs ++ ys) ≡ begun_by (begun_by b xs) ys
begun_append b [] ys = refl
begun_append b (x ∷ xs) ys = sym (begun_on ys)

pub joined_append : (b : Bool) (xs ys : List (List ℕ)) → joined_on b (xs ++ ys) ≡ joined_on b xs ++ joined_on (begun_by b xs) ys
joined_append b [] ys = refl
joined_append b (x ∷ xs) ys =
    ap (λ l. cond b (124 ∷ []) [] ++ x ++ l) (joined_append true xs ys ∙ ap (λ c. joined_on true xs ++ joined_on c ys) (begun_on xs))
    ∙ sym (append_assoc (cond b (124 ∷ []) [] ++ x) (joined_on true xs) (joined_on true ys))

module _ {W : Type 0} {w : Writing W} {a c : W} (b : Bool) (xs ys : List (List ℕ)) where
  -- more fields, after some that were all written
  pub more_fields : (x : Bool) {ok : Bool} {e : W} → Written w a (joined_on b xs) true c → x ≡ begun_by b xs → Written w c (joined_on x ys) ok e → Written w a (joined_on b (xs ++ ys)) ok e
  more_fields x {ok} {e} p q r =
      subst (λ l. Written w a l ok e) (sym (joined_append b xs ys)) (then p (subst (λ z. Written w c (joined_on z ys) ok e) q r))

  -- fields of which a byte was refused, with those that were to follow
  cut_fields : Written w a (joined_on b xs) false c → Written w a (joined_on b (xs ++ ys)) false c
  cut_fields p = subst (λ l. Written w a l false c) (sym (joined_append b xs ys)) (cut p (joined_on (begun_by b xs) ys))

-- of a whole list of fields some are written, and the others are left
pub record Partly {W : Type 0} (w : Writing W) (a : W) (b : Bool) (whole left : List (List ℕ)) (x : Bool) (c : W) : Type 0 where
  pub done : List (List ℕ)
  pub text : Written w a (joined_on b done) true c
  pub begun : x ≡ begun_by b done
  pub parts : done ++ left ≡ whole

module _ {W : Type 0} {w : Writing W} where
  -- all are left
  pub none_yet : {a : W} {b : Bool} {whole : List (List ℕ)} → Partly w a b whole whole b a
  none_yet = record { done = []; text = nothing_written; begun = refl; parts = refl }

  module _ {a c : W} {b x : Bool} {whole left : List (List ℕ)} (p : Partly w a b whole left x c) where
    -- the same are left
    pub same_left : {left' : List (List ℕ)} → left ≡ left' → Partly w a b whole left' x c
    same_left {left'} e = subst (λ l. Partly w a b whole l x c) e p

    -- under other names
    pub told_as : {x' : Bool} {c' : W} → x' ≡ x → c' ≡ c → Partly w a b whole left x' c'
    told_as {x'} {c'} e f = subst (λ y. Partly w a b whole left y c') (sym e) (subst (λ z. Partly w a b whole left x z) (sym f) p)

    -- none is left
    pub all_done : left ≡ [] → Written w a (joined_on b whole) true c × (x ≡ begun_by b whole)
    all_done e =
        let q : p.done ≡ whole = sym (append-nil p.done) ∙ ap (λ l. p.done ++ l) (sym e) ∙ p.parts in
        (subst (λ l. Written w a (joined_on b l) true c) q p.text, p.begun ∙ ap (begun_by b) q)

    module _ (ys zs : List (List ℕ)) (e : left ≡ ys ++ zs) {c' : W} where
      -- some more are written
      pub some_more : {x' : Bool} → Written w c (joined_on x ys) true c' → x' ≡ begun_by x ys → Partly w a b whole zs x' c'
      some_more t h = record {
        done = p.done ++ ys;
        text = more_fields b p.done ys x p.text p.begun t;
        begun = h ∙ ap (λ z. begun_by z ys) p.begun ∙ sym (begun_append b p.done ys);
        parts = append_assoc p.done ys zs ∙ ap (λ l. p.done ++ l) (sym e) ∙ p.parts;
      }

      -- a byte of some more is refused
      pub no_more : Written w c (joined_on x ys) false c' → Written w a (joined_on b whole) false c'
      no_more t =
          subst (λ l. Written w a (joined_on b l) false c') (append_assoc p.done ys zs ∙ ap (λ l. p.done ++ l) (sym e) ∙ p.parts)
          (cut_fields b (p.done ++ ys) zs (more_fields b p.done ys x p.text p.begun t))

-- fields after fields, each told by how far the cadena is written
module _ {W : Type 0} {w : Writing W} {a b c : Fields W} {fs ys : List (List ℕ)} {t : Totals} where
  pub wrote_more : {r : Result (Unit {0}) Refused} → Wrote w a fs t (Ok tt) b → Wrote w b ys (owed b) r c → Wrote w a (fs ++ ys) t r c
  wrote_more {r} p q = record {
    text = more_fields a.begun fs ys b.begun p.text p.begun q.text;
    begun = MatchResult-weaker r q.begun (λ x e. e ∙ ap (λ z. begun_by z ys) p.begun ∙ sym (begun_append a.begun fs ys)) (λ y k. k);
    owes = MatchResult-weaker r q.owes (λ x e. e ∙ p.owes) (λ y k. k);
  }

-- fields of which a byte was refused, with those that were to follow
pub wrote_cut : {W : Type 0} {w : Writing W} {a b : Fields W} {fs : List (List ℕ)} {t : Totals} {e : Refused} (ys : List (List ℕ)) (r : Result (Unit {0}) Refused) → is_ok r ≡ false → Wrote w a fs t (Err e) b → Wrote w a (fs ++ ys) t r b
wrote_cut ys (Ok x) h p = absurd (false≢true (sym h))
wrote_cut {a = a} {fs = fs} ys (Err f) h p = record { text = cut_fields a.begun fs ys p.text; begun = tt; owes = tt }

-- what stays the same twice
pub same_twice : {W : Type 0} {a b c : Fields W} → Same a b → Same b c → Same a c
same_twice p q = record { document = q.document ∙ p.document; writer = q.writer ∙ p.writer }

-- the first fields of a writer, under other names of the writer
pub fields_written : {W : Type 0} {w : Writing W} {a x c y : W} {b ok : Bool} (fs : List (List ℕ)) → a ≡ x → b ≡ false → y ≡ c → Written w a (joined_on b fs) ok c → Written w x (joined fs) ok y
fields_written {w = w} {a} {x} {c} {y} {b} {ok} fs e f h p =
    subst (λ l. Written w x l ok y) (joined_is fs)
    (subst (λ z. Written w z (joined_on false fs) ok y) e (subst (λ z. Written w a (joined_on false fs) ok z) (sym h) (subst (λ z. Written w a (joined_on z fs) ok c) f p)))
