-- `after`: what follows one byte more, or nothing past the end.
use mathlib.Core.Path.{sym}
use Prim.Native.Nat.{◌+◌}
use native.Mathlib.Omega.{arith}
use lib.ListN.{drop_of_length-le}
use Rattle.input.proofs.after.Goals as goal

pub returns-then-piece-i : goal.returns-then-piece-i
returns-then-piece-i c = let a = c.args in sym (drop_of_length-le a.piece.now {i = a.i + 1} (omega arith))
