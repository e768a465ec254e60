use Rattle.std.proofs.Common.{◌≡◌, suc, ◌+◌, drop, sym, subst, rules}
use Rattle.promises.specs.Stored.{number, decoded, AllCopies}
use Rattle.register.proofs.Laid.{Laid, laid_next, copies_next}
use Rattle.register.proofs.texts.TextsIterator.next.Goals as goal

pub invariant_of-self : goal.invariant_of-self
invariant_of-self c =
    let self = c.args.self.now in
    let m = self.rest.now in
    let left = c.in_ok-left.left in
    let count : self.left ≡ suc left = search rules in
    let length : c.from_be_bytes.result ≡ number m = search rules in
    let rest : c.split_at.result.1.now ≡ drop (4 + number m) m = search rules in
    record {
      laid = subst (Laid left) (sym rest) (laid_next left m (subst (λ n. Laid n m) count self.laid));
      copies = subst (λ l. ∥ AllCopies (decoded left l) ∥₁) (sym rest) (copies_next (subst (λ n. ∥ AllCopies (decoded n m) ∥₁) count self.copies));
    }
