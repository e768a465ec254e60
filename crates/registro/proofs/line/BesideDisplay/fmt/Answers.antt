use Rattle.std.proofs.Common.{◌≡◌, [], ◌∷◌, sym, refl, ap, ◌∙◌, subst}
use lib.Utf8.{encode}
use Rattle.rules.specs.Faults.{letter_of}
use Rattle.rules.specs.declared.grounds.Rule.{Rule}
use Rattle.rules.specs.declared.grounds.Rule.TheVariants as rule
use Rattle.std.specs.Fmt.{HasWritten}
use Rattle.registro.specs.Lines.{beside}
use Rattle.registro.proofs.line.BesideDisplay.fmt.Goals as goal

-- the letter of a rule is written as one byte
one_byte : (r : Rule) → encode (letter_of r) ≡ letter_of r ∷ []
unfolding encode
one_byte rule.A = refl
one_byte rule.B = refl
one_byte rule.C = refl
one_byte rule.D = refl
one_byte rule.E = refl
one_byte rule.F = refl
one_byte rule.G = refl

pub returns-in-AccountBroken-clause-writes : goal.returns-in-AccountBroken-clause-writes
returns-in-AccountBroken-clause-writes g c = λ p ok.
    let told = ap (λ n. 32 ∷ encode n) c.letter-letter.ensures ∙ ap (λ l. 32 ∷ l) (one_byte c.in-AccountBroken.rule) ∙ sym (ap beside c.in-AccountBroken.is) in
    subst (λ t. HasWritten g.W.Write.write_str_gives c.args.f.now t c.write.new.self) told (c.write.ensures.writes p ok)
