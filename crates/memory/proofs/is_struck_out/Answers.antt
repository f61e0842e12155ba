-- `is_struck_out`: by the place, then by the label.
use mathlib.Core.Bool.{false≢true}
use native.Mathlib.Omega.{arith}
use Rattle.memory.proofs.Words.{struck_before, struck_behind}
use Rattle.memory.proofs.is_struck_out.Goals as goal

pub word-end-requires : goal.word-end-requires
word-end-requires c = (omega arith, omega arith)

pub word-requires : goal.word-requires
word-requires c = (omega arith, omega arith)

pub returns-then-place-end : goal.returns-then-place-end
returns-then-place-end c = (struck_before _ _ _ c.word-end.ensures c.if-place-end.true c.word.ensures, λ e. omega (arith, c.if-place-end.true))

pub returns : goal.returns
returns c = (struck_behind _ _ _ c.word-end.ensures c.if-place-end.false, λ e. absurd (false≢true e))
