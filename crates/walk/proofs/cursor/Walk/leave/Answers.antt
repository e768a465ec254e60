use Rattle.std.proofs.Common.{◌≡◌, ℕ, ◌<◌, ◌≤◌, length, Some, None, sym, refl, ◌∙◌, arith}
use Rattle.walk.proofs.Leaving.{leaves, left_gives}
use Rattle.walk.proofs.Passing.{through_some}
use Rattle.walk.proofs.cursor.Walk.leave.Goals as goal

pub returns-in_err-node : goal.returns-in_err-node
returns-in_err-node c = rw c.from_residual.ensures (record {
  meets = record {
    same = refl;
    falls = refl;
    within = tt;
    gives = λ os co.
        let w = c.args.self.now in
        let z = leaves w.document.now w.at c.args.place c.requires.reached w.«open» os co c.requires.ends _ c.requires.within refl in
        let e : Some z.k ≡ None = sym z.was ∙ c.in_err-node.was in
        let n : ◌≡◌ {A = ℕ} 0 1 = cc in
        absurd (omega arith);
  };
  within = tt;
})

pub returns : goal.returns
returns c =
    let w = c.args.self.now in
    let next = c.after-self.result in
    let further : c.args.place < next = omega (arith, c.after-self.ensures.is, through_some 62 w.document.now c.args.place c.requires.within) in
    let inside : next ≤ length w.document.now = omega (arith, c.after-self.ensures.within, c.requires.within) in
    record {
      meets = record {
        same = refl;
        falls = omega (arith, further, inside, c.requires.reached);
        within = (omega (arith, further, c.requires.reached), inside);
        gives = λ os co. left_gives w.document.now next w.«open» os (leaves w.document.now w.at c.args.place c.requires.reached w.«open» os co c.requires.ends next c.requires.within (omega (arith, c.after-self.ensures.is))) c.in_ok-node.node _ c.in_ok-node.was refl refl c.parent-self.ensures;
      };
      within = (further, inside);
    }
