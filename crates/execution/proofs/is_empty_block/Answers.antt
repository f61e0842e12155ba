-- A block whose end is right after its header.
use Prim.Native.Nat.{ℕ, ◌+◌}
use mathlib.Core.Path.{ap}
use lib.Dec.{leb}
use Rattle.execution.proofs.is_empty_block.Goals as goal

pub returns : goal.returns
returns c = ap (λ (end : ℕ). leb end (c.args.p + 3)) c.end_of.ensures
