use Rattle.std.proofs.Common.{◌≡◌, ap, ◌∙◌}
use Rattle.std.proofs.lemmas.Iterator.{YieldsList-from_slice}
use Rattle.std.proofs.lemmas.Iterator.Consumers.{YieldsList-from_copied}
use Rattle.kinds.proofs.Same.{YieldsList-from_Kept, same_from_eq}
use Rattle.kinds.proofs.texts.is_same.Goals as goal

pub returns : goal.returns
returns c =
    same_from_eq (λ x y. y ≡ x) c.copied.result _ _ _ c.eq.result c.eq.ensures.ran (YieldsList-from_Kept c.args.left)
    (λ it e. YieldsList-from_copied (YieldsList-from_slice c.args.text.now (ap (λ i. i.iter.rest.now) e ∙ ap (λ i. i.rest.now) c.copied.ensures.source ∙ c.iter.ensures.rest)))
