-- `header_at`: one law for each way through it.
use native.Mathlib.Omega.{arith}
use Rattle.syntax.proofs.Walk.{cut_short, runs_past, wrong_length, right_length}
use Rattle.syntax.proofs.shape.header_at.Goals as goal

pub overflow_sub-e : goal.overflow_sub-e
overflow_sub-e c = omega (arith, c.requires.0)

pub returns-then-e-q-lt3 : goal.returns-then-e-q-lt3
returns-then-e-q-lt3 c = cut_short _ _ _ _ c.requires.0 c.if-e-q-lt3.true

pub overflow_add-q : goal.overflow_add-q
overflow_add-q c = omega (arith, c.requires.0, c.requires.1.0)

pub two_in-len-requires : goal.two_in-len-requires
two_in-len-requires c = omega (arith, c.requires.0, c.requires.1.0, c.if-e-q-lt3.false)

pub overflow_sub-e-2 : goal.overflow_sub-e-2
overflow_sub-e-2 c = omega (arith, c.requires.0)

pub overflow_sub-e-3 : goal.overflow_sub-e-3
overflow_sub-e-3 c = omega (arith, c.requires.0, c.if-e-q-lt3.false)

pub returns-then-e-q : goal.returns-then-e-q
returns-then-e-q c = runs_past _ _ _ _ c.requires.0 c.if-e-q-lt3.false c.two_in-len.ensures c.if-e-q.true

pub byte_in-requires : goal.byte_in-requires
byte_in-requires c = omega (arith, c.requires.0, c.requires.1.0)

pub returns-then-length_right : goal.returns-then-length_right
returns-then-length_right c = right_length _ _ _ _ c.requires.0 c.if-e-q-lt3.false c.two_in-len.ensures c.if-e-q.false (c.length_right.ensures _ c.requires.1.1) c.if-length_right.true c.byte_in.ensures c.follows.ensures

pub returns-else-length_right : goal.returns-else-length_right
returns-else-length_right c = wrong_length _ _ _ _ c.requires.0 c.if-e-q-lt3.false c.two_in-len.ensures c.if-e-q.false (c.length_right.ensures _ c.requires.1.1) c.if-length_right.false
