-- `none_struck_out`: one word read.
use Prim.Native.Nat.{ℕ}
use mathlib.Core.Path.{ap}
use lib.Dec.{eqb}
use native.Mathlib.Omega.{arith}
use Rattle.memory.proofs.none_struck_out.Goals as goal

pub word-requires : goal.word-requires
word-requires c = (omega arith, omega arith)

pub returns : goal.returns
returns c = ap (λ (n : ℕ). eqb n 0) c.word.ensures
