use Rattle.std.proofs.Common.{◌≡◌, ℕ, ◌<◌, true, List, ◌++◌, drop, cond, Some, refl, sym, ap, ◌∙◌, subst}
use Rattle.rules.specs.Bytes.{blank, all}
use Rattle.rules.specs.Faults.{Judgement, fault_of}
use Rattle.rules.specs.declared.grounds.Fault.TheVariants.{AttributeMissing}
use Rattle.rules.specs.Grounds.{NamesFault}
use Rattle.rules.specs.Located.{givens}
use Rattle.rules.specs.Markup.{Attribute, attribute_ok}
use Rattle.theory.specs.On.{attributes_on, closes}
use Rattle.reader.specs.Slots.{standing_of}
use Rattle.reader.proofs.NamesFirst.{judged_names, slots_filled}
use Rattle.std.proofs.lemmas.Result.{err_from_is_err_and}
use Rattle.reader.proofs.names.attributes.Goals as goal
use Rattle.reader.proofs.names.attributes.Goals.{After-first_fault}

-- the first fault is the judgement on the names of the tag
judged : (c : After-first_fault) (l : List Attribute) (g z : List ℕ) → all attribute_ok l ≡ true → all blank g ≡ true → closes z ≡ true → drop c.args.at c.args.document.now ≡ attributes_on l (g ++ z) → c.args.node_at < c.args.at →
    Judgement (NamesFault (standing_of c.args.node c.args.node_at (givens c.args.at l))) (fault_of c.first_fault.result)
judged c l g z h hg hz e low =
    let (s, r) = c.collect-collected.ensures l g z h hg hz e in
    subst (Judgement (NamesFault (standing_of c.args.node c.args.node_at (givens c.args.at l)))) (sym (c.first_fault.ensures ∙ ap (cond c.missing-lacking.result (Some (AttributeMissing c.args.node_at))) r))
    (judged_names c.args.document.now c.args.node c.args.at l (g ++ z) h e _ s c.args.node_at low c.missing-lacking.result _ refl c.missing-lacking.ensures)

pub returns-in_err-first_fault-clause-judges : goal.returns-in_err-first_fault-clause-judges
returns-in_err-first_fault-clause-judges c = λ l g z h hg hz e low.
    let told = err_from_is_err_and c.from_residual.result c.from_residual.ensures.1 in
    rw (told.1, told.2) (subst (Judgement (NamesFault (standing_of c.args.node c.args.node_at (givens c.args.at l)))) (ap fault_of c.in_err-first_fault.was)
    (judged (goal.at.returns-in_err-first_fault-clause-judges c).After-first_fault l g z h hg hz e low))

pub returns-clause-judges : goal.returns-clause-judges
returns-clause-judges c = λ l g z h hg hz e low. subst (Judgement (NamesFault (standing_of c.args.node c.args.node_at (givens c.args.at l)))) (ap fault_of c.in_ok-first_fault.was)
    (judged (goal.at.returns-clause-judges c).After-first_fault l g z h hg hz e low)

pub returns-clause-holds : goal.returns-clause-holds
returns-clause-holds c = λ l g z h hg hz e. slots_filled c.args.document.now c.args.node c.args.at l (g ++ z) h e _ (c.collect-collected.ensures l g z h hg hz e).0
