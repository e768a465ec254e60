use Rattle.std.proofs.Common.{sym, ap}
use Rattle.rules.specs.Kinds.{fixed_text}
use Rattle.rules.proofs.schema.FixedText.text.Goals as goal

pub returns-in-CfdiNamespace : goal.returns-in-CfdiNamespace
returns-in-CfdiNamespace c = sym (ap fixed_text c.in-CfdiNamespace.is)

pub returns-in-XsiNamespace : goal.returns-in-XsiNamespace
returns-in-XsiNamespace c = sym (ap fixed_text c.in-XsiNamespace.is)

pub returns-in-SchemaLocation : goal.returns-in-SchemaLocation
returns-in-SchemaLocation c = sym (ap fixed_text c.in-SchemaLocation.is)
