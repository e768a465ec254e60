-- Where the next of a walk begins, and where it has met all.
use Rattle.std.proofs.Common.{◌≡◌, ℕ, ◌+◌, ◌<◌, ◌≤◌, ◌||◌, eqb, List, [], ◌∷◌, length, get_or, drop, None, sym, refl, ap, ◌∙◌, subst}
use Rattle.std.proofs.lemmas.List.{drop_more, drop_all}
use Rattle.rules.specs.Bytes.{blank}
use Rattle.std.specs.List.{prefix_len}
use Rattle.tags.specs.Scan.{ended}
use Rattle.walk.specs.Events.{Occurrence}
use Rattle.walk.specs.Coming.{Comes, Gives, shuts}
use Rattle.walk.specs.declared.cursor.Walk.{Walk}
use Rattle.walk.proofs.Leaving.{all_met}

-- whether an element begins at a place, by its first byte and what follows
pub shuts_at : (d : List ℕ) (i : ℕ) → i < length d → shuts (drop i d) ≡ (eqb (get_or d i 0) 47 || ended (drop i d))
shuts_at d i l = let e : drop i d ≡ get_or d i 0 ∷ drop (i + 1) d = drop_more d i 0 l in ap shuts e ∙ ap (λ x. eqb (get_or d i 0) 47 || ended x) (sym e)

pub met_all : (w : Walk) (place : ℕ) (os : List Occurrence) → place ≡ w.at + prefix_len blank (drop w.at w.document.now) → length w.document.now ≤ place → Comes w os → Gives os w.document.now None w
met_all w place os hp l co =
    let e : os ≡ [] = all_met w.document.now w.at place hp w.«open» os co (ap shuts (drop_all place w.document.now l)) l in
    subst (λ x. Gives x w.document.now None w) (sym e) (refl, subst (Comes w) e co)
