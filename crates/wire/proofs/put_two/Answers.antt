-- `put_two`: the high byte, then the low one, each if it is there.
use borrow.Author.Rules.{rules}
use mathlib.Core.Path.{sym, ◌∙◌}
use Prim.Native.Nat.{◌+◌, ◌%◌}
use native.Mathlib.Omega.{arith}
use lib.Seq.{set_out}
use Rattle.wire.specs.Numbers.{high_bytes}
use Rattle.wire.proofs.Laws.{two_stored, over_past}
use Rattle.wire.proofs.put_two.Goals as goal

pub returns-then-q-out : goal.returns-then-q-out
returns-then-q-out c = let a = c.args in two_stored a.out.now a.at a.n (omega arith)

pub returns-else-q-out : goal.returns-else-q-out
returns-else-q-out c = let a = c.args in sym (set_out _ (a.at + 1) (a.n % 256) (search rules)) ∙ two_stored a.out.now a.at a.n (omega arith)

pub returns-else-at-out : goal.returns-else-at-out
returns-else-at-out c = let a = c.args in sym (over_past a.out.now a.at (high_bytes 2 a.n) (search rules))
