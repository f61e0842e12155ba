-- `equals_constant`: the kind of the value is known, and the constant's by its tag.
use mathlib.Core.Path.{refl, ◌∙◌}
use native.Mathlib.Omega.{arith}
use Rattle.values.specs.Integers.{same_value}
use Rattle.values.proofs.Same.{at_both, same_bits_test}
use Rattle.patterns.proofs.Constants.{integer_value, string_value, boolean_value, no_integer, no_string_lem}
use Rattle.patterns.proofs.equals_constant.Goals as goal

pub returns-then-tag-ne16 : goal.returns-then-tag-ne16
returns-then-tag-ne16 c = no_integer _ _ c.requires.0 c.in-Integer.is c.if-tag-ne16.true

pub returns-then-tag-ne17 : goal.returns-then-tag-ne17
returns-then-tag-ne17 c = no_string_lem _ _ c.requires.0 c.in-String.is c.if-tag-ne17.true

pub returns-then-tag-eq16 : goal.returns-then-tag-eq16
unfolding same_value
returns-then-tag-eq16 c = at_both c.in-Boolean.is (integer_value _ _ c.requires.0 c.if-tag-eq16.true refl)

pub returns-then-tag-eq17 : goal.returns-then-tag-eq17
unfolding same_value
returns-then-tag-eq17 c = at_both c.in-Boolean.is (string_value _ _ c.requires.0 c.if-tag-eq17.true refl)

pub returns-else-tag-ne16 : goal.returns-else-tag-ne16
unfolding same_value
returns-else-tag-ne16 c = same_bits_test _ _ (record { sfits = omega arith }) (record { sfits = c.signed_at.type_inv }) ∙ at_both c.in-Integer.is (integer_value _ _ c.requires.0 c.if-tag-ne16.false c.signed_at.ensures)

pub returns-else-tag-ne17 : goal.returns-else-tag-ne17
unfolding same_value
returns-else-tag-ne17 c = at_both c.in-String.is (string_value _ _ c.requires.0 c.if-tag-ne17.false c.two_at.ensures)

pub returns-else-tag-eq17 : goal.returns-else-tag-eq17
unfolding same_value
returns-else-tag-eq17 c = at_both c.in-Boolean.is (boolean_value _ _ c.requires.0 c.if-tag-eq16.false c.if-tag-eq17.false c.byte_at.ensures)
