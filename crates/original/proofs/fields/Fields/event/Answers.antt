use Rattle.std.proofs.Common.{◌≡◌, ℕ, sym, ◌∙◌, subst, arith}
use Rattle.walk.specs.Events.{Occurrence, opened, closed, told}
use Rattle.walk.specs.declared.event.Opened.{Opened as Found}
use Rattle.walk.specs.declared.event.Event.TheVariants.{Opened}
use Rattle.original.specs.Totals.{Totals, Sound, SoundAt, opened_fields, opened_totals, met_fields, met_totals}
use Rattle.original.specs.Wrote.{owed, Wrote}
use Rattle.original.proofs.fields.Fields.event.Goals as goal

pub returns-in-Opened-clause-wrote : goal.returns-in-Opened-clause-wrote
returns-in-Opened-clause-wrote g c = λ o e h. go o (sym c.in-Opened.is ∙ e) h
  where
    go : (o : Occurrence) → Opened c.in-Opened.found ≡ told o → SoundAt c.args.self.now.document.now o →
        Wrote g.W.Writer.writing c.args.self.now (met_fields (owed c.args.self.now) o) (met_totals (owed c.args.self.now) o) c.opened.result c.opened.new.self
    go (opened s) e h =
        let found : Found = record { node = s.node; place = s.place; attributes = s.attributes; childless = s.childless } in
        let q : c.in-Opened.found ≡ found = cc in
        let t : Totals = owed c.args.self.now in
        subst (λ f. Wrote g.W.Writer.writing c.args.self.now (opened_fields t f.node s.givens) (opened_totals t f.node s.givens) c.opened.result c.opened.new.self) q
        (c.opened.ensures.wrote s.givens (subst (λ f. Sound c.args.self.now.document.now f.node f.place f.attributes s.givens) (sym q) h))
    go (closed k) e h = let z : ◌≡◌ {A = ℕ} 0 1 = cc in absurd (omega arith)
