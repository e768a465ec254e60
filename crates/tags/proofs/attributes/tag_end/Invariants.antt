use Rattle.std.proofs.Common.{◌≡◌, ℕ, ◌+◌, ◌≤◌, true, List, ◌++◌, length, drop}
use Rattle.rules.specs.Bytes.{blank, all}
use Rattle.rules.specs.Markup.{Attribute, attribute_ok, attributes_text}
use Rattle.theory.specs.On.{attributes_on, closes}
use Rattle.tags.proofs.attributes.tag_end.Given as goal

abbrev pub invariant-loop-a : goal.invariant-loop-a
invariant-loop-a l = record {
  same : l.a-iterator.document.now ≡ l.document;
  stands : l.a-iterator.at ≡ l.i;
  begins : l.at ≤ l.i;
  within : l.at ≤ length l.document → l.i ≤ length l.document;
  past : length l.document ≤ l.at → l.i ≡ l.at;
  reads : (whole : List Attribute) (g z : List ℕ) → all attribute_ok whole ≡ true → all blank g ≡ true → closes z ≡ true → drop l.at l.document ≡ attributes_on whole (g ++ z) →
      (left : List Attribute) × (all attribute_ok left ≡ true) × (drop l.i l.document ≡ attributes_on left (g ++ z)) × (l.i + length (attributes_text left) ≡ l.at + length (attributes_text whole));
}
