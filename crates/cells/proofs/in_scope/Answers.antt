-- `in_scope`: the low byte of the key's scope, the state, and the scope.
use Prim.Native.Nat.{◌+◌}
use native.Mathlib.Omega.{arith}
use Rattle.cells.specs.Layout.{key_at}
use Rattle.cells.proofs.SlotReads.{low_not_of_scope, not_used, used_for}
use Rattle.cells.proofs.in_scope.Goals as goal

pub returns-then-work-low : goal.returns-then-work-low
returns-then-work-low c =
    low_not_of_scope _ _ c.requires.0 _ c.if-work-low.true (omega (arith, c.type_inv.work (key_at c.args.i + 1)))

pub returns-then-work-i : goal.returns-then-work-i
returns-then-work-i c = not_used _ _ c.requires.0 _ c.if-work-i.true

pub returns : goal.returns
returns c = used_for _ _ c.requires.0 _ c.if-work-i.false c.two_in.ensures
