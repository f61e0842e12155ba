-- `pass_fours`: each four bytes are in the comment.
use mathlib.Core.Path.{refl}
use native.Mathlib.Omega.{arith}
use Rattle.lexer.proofs.Scanning.{comment_on}
use Rattle.lexer.proofs.gaps.pass_fours.Goals as goal

pub loop-i-init : goal.loop-i-init
loop-i-init c = record { low = omega arith; high = omega arith; goes_on = λ o line. refl }

pub four_follow-requires : goal.four_follow-requires
four_follow-requires c = c.loop-i.invariant.high

pub overflow_add-i : goal.overflow_add-i
overflow_add-i c = let four = c.four_follow.ensures c.loop-i-test.true in omega (arith, four.high)

pub loop-i-smaller : goal.loop-i-smaller
loop-i-smaller c = let four = c.four_follow.ensures c.loop-i-test.true in omega (arith, four.high)

pub loop-i-preserved : goal.loop-i-preserved
loop-i-preserved c = comment_on c.loop-i.invariant (c.four_follow.ensures c.loop-i-test.true)

pub returns : goal.returns
returns c = c.loop-i.invariant
