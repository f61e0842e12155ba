-- `make_room`: the bytes behind the place are moved.
use mathlib.Core.Path.{◌≡◌}
use Prim.Native.Nat.{◌+◌, ◌-◌}
use native.Mathlib.Omega.{arith}
use Rattle.interner.proofs.Moving.{moved_by}
use Rattle.interner.proofs.make_room.Goals as goal

pub returns : goal.returns
returns c = let k = c.copy_within.ensures in moved_by c.requires.0 k.len k.by_index.0 k.by_index.1 k.by_index.2
