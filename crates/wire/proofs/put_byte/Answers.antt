-- `put_byte`: past the end nothing is stored.
use mathlib.Core.Path.{sym, ap}
use native.Mathlib.Omega.{arith}
use Rattle.wire.specs.Runs.{over}
use Rattle.wire.proofs.Laws.{one_byte, over_past}
use Rattle.wire.proofs.put_byte.Goals as goal

pub returns-then-at-out : goal.returns-then-at-out
unfolding over
returns-then-at-out c = let s = c.args in sym (ap (over s.out.now s.at) (one_byte s.b (omega arith)))

pub returns-else-at-out : goal.returns-else-at-out
returns-else-at-out c = let s = c.args in sym (over_past s.out.now s.at _ c.if-at-out.false)
