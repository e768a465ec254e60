-- Bytes that leave a start tag in its state.
use Rattle.std.proofs.Common.{◌≡◌, ℕ, true, List, arith}
use Rattle.std.proofs.lemmas.Bool.{cond-true}
use Rattle.std.proofs.lemmas.Bool.Decides.{nat_tests}
use Rattle.rules.specs.Bytes.{name_byte}
use Rattle.rules.specs.Markup.{plain_byte}
use Rattle.markup.specs.declared.tag.Quote.{Quote}
use Rattle.markup.specs.declared.tag.Quote.TheVariants.{Single, Double}
use Rattle.markup.specs.declared.tag.State.TheVariants as st
use Rattle.markup.specs.Tags.{to, next, Stays}
use Rattle.markup.proofs.Scanning.{Skips}

-- a plain byte of a value
pub said : (q : Quote) (b : ℕ) → plain_byte b ≡ true → next (st.Value q) b ≡ to (st.Value q)
said Single b h = grind (arith, nat_tests)
said Double b h = grind (arith, nat_tests)

pub stays_named : {d : List ℕ} {i j : ℕ} → Skips name_byte d i j → Stays st.Attribute d i j
stays_named h = record { from = h.from; within = h.within; each = λ k ge lt. cond-true _ _ _ (h.each k ge lt) }

pub stays_quoted : {d : List ℕ} {i j : ℕ} (q : Quote) → Skips plain_byte d i j → Stays (st.Value q) d i j
stays_quoted q h = record { from = h.from; within = h.within; each = λ k ge lt. said q _ (h.each k ge lt) }
