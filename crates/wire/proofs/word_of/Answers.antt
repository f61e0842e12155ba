-- `word_of`: z itself from 0 on, and 2⁶⁴ − 1 − (−1 − z) below.
use native.Mathlib.Omega.{arith}
use Rattle.wire.proofs.Signed.{negative, negative_bits, negative_word, other, other_word}
use Rattle.wire.proofs.word_of.Goals as goal

pub overflow_sub-result : goal.overflow_sub-result
overflow_sub-result c = rw (negative c.args.z c.ranges.z c.if-z-lt0.true) (record { sfits = c.ranges.z.sfits })

pub overflow_cast-result : goal.overflow_cast-result
overflow_cast-result c = rw (negative_bits c.args.z c.ranges.z c.if-z-lt0.true) (tt, record { fits = omega arith })

pub overflow_sub-result-then-z-lt0 : goal.overflow_sub-result-then-z-lt0
overflow_sub-result-then-z-lt0 c = rw (negative_bits c.args.z c.ranges.z c.if-z-lt0.true) (omega arith)

pub returns-then-z-lt0 : goal.returns-then-z-lt0
returns-then-z-lt0 c = rw (negative_bits c.args.z c.ranges.z c.if-z-lt0.true) (negative_word c.args.z c.ranges.z c.if-z-lt0.true)

pub overflow_cast-result-2 : goal.overflow_cast-result-2
overflow_cast-result-2 c = rw (other c.args.z c.ranges.z c.if-z-lt0.false) (tt, record { fits = omega arith })

pub returns : goal.returns
returns c = rw (other c.args.z c.ranges.z c.if-z-lt0.false) (other_word c.args.z c.ranges.z c.if-z-lt0.false)
