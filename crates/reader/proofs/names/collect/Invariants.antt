use Rattle.std.proofs.Common.{◌≡◌, ℕ, true, List, ◌++◌, drop, replicate, None}
use Rattle.rules.specs.Bytes.{blank, all}
use Rattle.rules.specs.Faults.{fault_of}
use Rattle.rules.specs.Grounds.{rows}
use Rattle.rules.specs.Markup.{Attribute, attribute_ok}
use Rattle.theory.specs.On.{attributes_on, closes}
use Rattle.reader.specs.Names.{filled, refusal, refusing}
use Rattle.reader.proofs.NamesPass.{first_of}
use Rattle.reader.proofs.names.collect.Given as goal

abbrev pub invariant-loop-a : goal.invariant-loop-a
invariant-loop-a l = record {
  same : l.a-iterator.document.now ≡ l.document;
  pass : (whole : List Attribute) (g z : List ℕ) → all attribute_ok whole ≡ true → all blank g ≡ true → closes z ≡ true → drop l.at l.document ≡ attributes_on whole (g ++ z) →
      (left : List Attribute) × (all attribute_ok left ≡ true) × (drop l.a-iterator.at l.document ≡ attributes_on left (g ++ z))
      × (filled (rows l.node) l.slots.spans l.a-iterator.at left ≡ filled (rows l.node) (replicate 22 None) l.at whole)
      × (first_of (fault_of l.refused) (refusing (refusal (rows l.node) l.slots.spans l.a-iterator.at left)) ≡ refusing (refusal (rows l.node) (replicate 22 None) l.at whole));
}
