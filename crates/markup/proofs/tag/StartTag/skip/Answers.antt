use Rattle.std.proofs.Common.{◌≡◌, subst}
use Rattle.markup.specs.declared.tag.State.TheVariants.{Attribute, Value}
use Rattle.markup.specs.Tags.{Stays}
use Rattle.markup.proofs.Scanning.{skips}
use Rattle.markup.proofs.Staying.{stays_named, stays_quoted}
use Rattle.markup.proofs.tag.StartTag.skip.Goals as goal

pub returns-in-Attribute-clause-stays : goal.returns-in-Attribute-clause-stays
returns-in-Attribute-clause-stays c =
    let here : Attribute ≡ c.args.self.now.state = cc in
    subst (λ t. Stays t c.args.reader.now.doc.now c.args.reader.now.at c.skip.new.self.at) here (stays_named (skips c.args.reader.now.inside c.skip.ensures.is))

pub returns-in-Value-clause-stays : goal.returns-in-Value-clause-stays
returns-in-Value-clause-stays c =
    let here : Value c.in-Value.field-0 ≡ c.args.self.now.state = cc in
    subst (λ t. Stays t c.args.reader.now.doc.now c.args.reader.now.at c.skip-in-Value.new.self.at) here (stays_quoted _ (skips c.args.reader.now.inside c.skip-in-Value.ensures.is))
