-- `check_names`: what the fields from here on give is what they all give.
use mathlib.Core.Path.{◌∙◌}
use native.Mathlib.Omega.{arith}
use Rattle.syntax.proofs.Reading.{next_names, name_past, names_end}
use Rattle.syntax.proofs.names.check_names.Goals as goal

pub byte_in-requires : goal.byte_in-requires
byte_in-requires c = c.loop-p-test.true

pub names_right-requires : goal.names_right-requires
names_right-requires c = omega (arith, c.loop-p-test.true)

pub returns-then-not-names_right : goal.returns-then-not-names_right
returns-then-not-names_right c = c.at.ensures ∙ name_past _ _ _ _ c.loop-p-test.true c.byte_in.ensures (c.names_right.ensures _ c.line_of-line.ensures) c.if-not-names_right.true c.loop-p.invariant

pub overflow_add-p : goal.overflow_add-p
overflow_add-p c = omega (arith, c.loop-p-test.true)

pub overflow_add-p-in-loop-p : goal.overflow_add-p-in-loop-p
overflow_add-p-in-loop-p c = omega (arith, c.loop-p-test.true, c.stride.type_inv)

pub loop-p-smaller : goal.loop-p-smaller
loop-p-smaller c = omega (arith, c.loop-p-test.true)

pub loop-p-preserved : goal.loop-p-preserved
loop-p-preserved c = next_names _ _ _ _ c.loop-p-test.true c.byte_in.ensures (c.names_right.ensures _ c.line_of-line.ensures) c.if-not-names_right.false c.length_at.ensures (c.stride.ensures _ c.line_of-line.ensures) c.loop-p.invariant

pub returns : goal.returns
returns c = names_end _ _ _ _ c.loop-p-test.false c.loop-p.invariant
