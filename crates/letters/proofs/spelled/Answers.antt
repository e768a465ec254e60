use Rattle.std.proofs.Common.{◌≡◌, take, sym, subst}
use Rattle.std.specs.Str.{IsValidUpTo}
use Rattle.std.proofs.lemmas.Result.{err_from_is_err_and}
use Rattle.rules.specs.Letters.{Spelled}
use Rattle.letters.proofs.Spell.{EndsAt, ends_past, ends_within}
use Rattle.letters.proofs.spelled.Goals as goal
use Rattle.letters.proofs.spelled.Goals.{After-from_utf8_unchecked-text}

-- what was looked at is the front that is text
valid : (c : After-from_utf8_unchecked-text) → IsValidUpTo c.args.document.now c.valid_up_to-n.result
valid c = subst (IsValidUpTo c.args.document.now) (sym c.valid_up_to-n.ensures) c.in-Err.ensures.cases.1

front : (c : After-from_utf8_unchecked-text) → c.from_utf8_unchecked-text.result.now ≡ take c.valid_up_to-n.result c.args.document.now
front c = c.from_utf8_unchecked-text.ensures

pub returns-in_err-characters-in-Err : goal.returns-in_err-characters-in-Err
returns-in_err-characters-in-Err c =
    let p = err_from_is_err_and c.from_residual.result c.from_residual.ensures.1 in
    let w = (goal.at.returns-in_err-characters-in-Err c).After-from_utf8_unchecked-text in
    rw (p.1, p.2) (ends_within _ _ _ (valid w) (subst (λ t. EndsAt t c.in_err-characters-in-Err.field-0.0) (front w) c.in_err-characters-in-Err.ensures))

pub returns-in_ok-characters-in-Err : goal.returns-in_ok-characters-in-Err
returns-in_ok-characters-in-Err c =
    let w = (goal.at.returns-in_ok-characters-in-Err c).After-from_utf8_unchecked-text in
    ends_past _ _ (valid w) (subst Spelled (front w) c.in_ok-characters-in-Err.ensures)
