use Rattle.std.proofs.Common.{◌≡◌, ℕ, Bool, List, Some, None, sym, refl, ap, ◌∙◌, ⊎_elim, arith}
use Rattle.walk.specs.Coming.{Comes}
use Rattle.walk.specs.Events.{Occurrence}
use Rattle.walk.proofs.Into.{enters_from, into_gives}
use Rattle.walk.proofs.cursor.Walk.enter.Goals as goal
use Rattle.walk.proofs.cursor.Walk.enter.Goals.{in-47, in_default}

pub returns-in_err-node : goal.returns-in_err-node
returns-in_err-node c = rw c.from_residual.ensures (record {
  meets = record {
    same = refl;
    falls = refl;
    within = tt;
    gives = λ os co.
        let w = c.args.self.now in
        let z = enters_from w.document.now w.at c.args.place c.skip-attributes.result c.tag_end-close.result w.«open» os co c.requires.reached c.skip-attributes.ensures.is c.tag_end-close.ensures.reads c.requires.begins in
        let e : None ≡ Some z.k = c.in_err-node.ensures ∙ z.is_placed in
        let n : ◌≡◌ {A = ℕ} 0 1 = cc in
        absurd (omega arith);
  };
  within = tt;
})

pub returns-in_err-get : goal.returns-in_err-get
returns-in_err-get c = rw c.from_residual-in_err-get.ensures (record {
  meets = record {
    same = refl;
    falls = refl;
    within = tt;
    gives = λ os co.
        let w = c.args.self.now in
        let z = enters_from w.document.now w.at c.args.place c.skip-attributes.result c.tag_end-close.result w.«open» os co c.requires.reached c.skip-attributes.ensures.is c.tag_end-close.ensures.reads c.requires.begins in
        absurd (omega (arith, z.within, c.in_err-get.ensures.lookup));
  };
  within = tt;
})

pub returns : goal.returns
returns c =
    let w = c.args.self.now in
    let node = c.in_ok-node.node in
    let close = c.tag_end-close.result in
    let byte = c.in_ok-get.ensures.lookup.3.1 0 in
    let entered = λ (os : List Occurrence) (co : Comes w os). enters_from w.document.now w.at c.args.place c.skip-attributes.result close w.«open» os co c.requires.reached c.skip-attributes.ensures.is c.tag_end-close.ensures.reads c.requires.begins in
    elim c.match-branch-3.branch [
      | in-47 v ↦
          let bare = ap (λ (t : Bool × ℕ). t.0) v.childless-is in
          let at = ap (λ (t : Bool × ℕ). t.1) v.childless-is in
          record {
            meets = record {
              same = refl;
              falls = omega (arith, at, c.in_ok-get.ensures.lookup.3.0);
              within = (omega (arith, at, c.requires.reached), omega (arith, at, c.in_ok-get.ensures.lookup.3.0));
              gives = λ os co.
                  let z = entered os co in
                  let e : Some z.k ≡ Some node = sym z.is_placed ∙ sym c.in_ok-node.ensures in
                  let f : z.k ≡ node = cc in
                  ⊎_elim (λ i. into_gives _ _ _ _ _ os _ _ _ i node _ _ f bare refl at refl) (λ i. absurd (omega (arith, (i _ _ refl refl).byte_is, v.in-47.is, byte))) z.shape;
            };
            within = (omega (arith, at), omega (arith, at, c.in_ok-get.ensures.lookup.3.0));
          }
      | in_default v ↦
          let bare = ap (λ (t : Bool × ℕ). t.0) v.childless-is in
          let at = ap (λ (t : Bool × ℕ). t.1) v.childless-is in
          record {
            meets = record {
              same = refl;
              falls = omega (arith, at, c.in_ok-get.ensures.lookup.3.0);
              within = (omega (arith, at, c.requires.reached), omega (arith, at, c.in_ok-get.ensures.lookup.3.0));
              gives = λ os co.
                  let z = entered os co in
                  let e : Some z.k ≡ Some node = sym z.is_placed ∙ sym c.in_ok-node.ensures in
                  let f : z.k ≡ node = cc in
                  ⊎_elim (λ i. absurd (omega (arith, i.byte_is, v.in_default, byte))) (λ i. into_gives _ _ _ _ _ os _ _ _ (i v.skip.result v.closing.result v.skip.ensures.is v.closing.ensures.is) node _ _ f bare refl at refl) z.shape;
            };
            within = (omega (arith, at), omega (arith, at, c.in_ok-get.ensures.lookup.3.0));
          }
    ]
