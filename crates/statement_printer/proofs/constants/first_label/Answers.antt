-- `first_label`: what the fields from here on give is what they all give.
use mathlib.Core.Path.{sym, ◌∙◌}
use native.Mathlib.Omega.{arith}
use Rattle.statement_printer.proofs.FirstLabel.{label_end, walk_finds, walk_goes}
use Rattle.statement_printer.proofs.constants.first_label.Goals as goal

pub byte_in-requires : goal.byte_in-requires
byte_in-requires c = omega (arith, c.loop-q-test.true, c.requires.0)

pub overflow_add-q : goal.overflow_add-q
overflow_add-q c = omega (arith, c.loop-q-test.true, c.requires.0, c.requires.1)

pub returns-then-is_constant : goal.returns-then-is_constant
returns-then-is_constant c = walk_finds _ _ _ _ c.loop-q-test.true c.byte_in.ensures c.is_constant.ensures c.if-is_constant.true c.byte_at.ensures c.loop-q.invariant

pub next_place-q-requires : goal.next_place-q-requires
next_place-q-requires c = omega (arith, c.loop-q-test.true, c.requires.0)

pub loop-q-smaller : goal.loop-q-smaller
loop-q-smaller c = omega (arith, c.next_place-q.ensures, c.loop-q-test.true)

pub loop-q-preserved : goal.loop-q-preserved
loop-q-preserved c = walk_goes _ _ _ _ c.loop-q-test.true c.byte_in.ensures c.is_constant.ensures c.if-is_constant.false c.next_place-q.ensures c.loop-q.invariant

pub returns : goal.returns
returns c = sym (label_end _ _ _ _ c.loop-q-test.false) ∙ c.loop-q.invariant
