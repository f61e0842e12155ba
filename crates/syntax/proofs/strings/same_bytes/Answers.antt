-- `same_bytes`: what is left to compare gives the answer for the whole.
use native.Mathlib.Omega.{arith}
use Rattle.syntax.proofs.Texts.{other_length, other_byte, same_byte, both_end}
use Rattle.syntax.proofs.strings.same_bytes.Goals as goal

pub returns-then-x-y : goal.returns-then-x-y
returns-then-x-y c = other_length _ _ c.if-x-y.true

pub bounds-y-i : goal.bounds-y-i
bounds-y-i c = omega (arith, c.if-x-y.false)

pub returns-then-x-i : goal.returns-then-x-i
returns-then-x-i c = other_byte _ _ _ c.loop-i-test.true (omega (arith, c.if-x-y.false, c.loop-i-test.true)) c.if-x-i.true c.loop-i.invariant

pub loop-i-preserved : goal.loop-i-preserved
loop-i-preserved c = same_byte _ _ _ c.loop-i-test.true (omega (arith, c.if-x-y.false, c.loop-i-test.true)) c.if-x-i.false c.loop-i.invariant

pub returns : goal.returns
returns c = both_end _ _ _ c.loop-i-test.false (omega (arith, c.if-x-y.false, c.loop-i-test.false)) c.loop-i.invariant
