-- What the code's rows and children mean.
use Rattle.rules.specs.Schema.{Row, Child}
use Rattle.schema.specs.declared.attributes.Row.{Row as CodeRow}
use Rattle.schema.specs.declared.places.Child.{Child as CodeChild}

-- the row of the rules that a row of the code is
abbrev pub row_meant : CodeRow → Row
row_meant r = record { name = r.name.now; kind = r.kind; required = r.required; in_cadena = r.in_cadena }

-- the child of the rules that a child of the code is
abbrev pub child_meant : CodeChild → Child
child_meant c = record { node = c.node; least = c.least; most = c.most }
