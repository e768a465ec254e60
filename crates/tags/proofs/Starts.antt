-- Where the elements of a document begin.
use Rattle.std.proofs.Common.{◌≡◌, ℕ, Bool, true, false, cond, List, [], ◌++◌, length, take, drop, sym, refl, ap, ◌∙◌}
use Rattle.std.proofs.lemmas.List.{take_at, append-nil, take-append-drop}
use Rattle.std.proofs.lemmas.Bool.{and_parts}
use Rattle.rules.specs.Markup.{text, declaration, Document, Marks, head}
use Rattle.theory.proofs.Unique.{content_on_is, ok_marked, undeclared}

-- where the elements begin
module _ (d : List ℕ) (m : Document) (k : Marks d m) where
  shown : (b : Bool) → m.declared ≡ b → d ≡ cond b declaration [] ++ text m.content
  shown b e = sym k.1 ∙ ap (λ x. cond x declaration [] ++ text m.content) e

  pub declared : take (length declaration) d ≡ declaration → length declaration ≡ length (head m)
  declared h = go m.declared refl
    where
      go : (b : Bool) → m.declared ≡ b → length declaration ≡ length (head m)
      go true e = ap (λ x. length (cond x declaration [])) (sym e)
      go false e =
          absurd (undeclared m.content _ (ok_marked m.content 6 (and_parts _ _ k.0).0) (and_parts _ _ k.0).1
          (sym (sym (content_on_is m.content []) ∙ append-nil (text m.content) ∙ sym (shown false e) ∙ sym (take-append-drop (length declaration) d) ∙ ap (λ x. x ++ drop (length declaration) d) h)))

  pub not_declared : (take (length declaration) d ≡ declaration → ⊥) → 0 ≡ length (head m)
  not_declared h = go m.declared refl
    where
      go : (b : Bool) → m.declared ≡ b → 0 ≡ length (head m)
      go true e = absurd (h (ap (take (length declaration)) (shown true e) ∙ take_at declaration (text m.content) (length declaration) refl))
      go false e = ap (λ x. length (cond x declaration [])) (sym e)
