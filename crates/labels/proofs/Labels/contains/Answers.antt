-- `Labels::contains` tests the label's bit in its word.
use mathlib.Core.Path.{ap}
use Prim.Native.Nat.{ℕ, ◌/◌, ◌%◌}
use lib.Dec.{eqb}
use Rattle.labels.specs.Sets.{has, bit_of}
use Rattle.labels.proofs.Labels.contains.Goals as goal

pub returns : goal.returns
unfolding has bit_of
returns c = ap (λ (w : ℕ). eqb (w / bit_of c.args.label % 2) 1) c.word.ensures
