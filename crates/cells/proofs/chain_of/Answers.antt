-- `chain_of`: a sum, by its remainder.
use mathlib.Core.Path.{refl}
use native.Mathlib.Omega.{arith}
use Rattle.cells.specs.Layout.{chain_of}
use Rattle.cells.proofs.chain_of.Goals as goal

pub returns : goal.returns
unfolding chain_of
returns c = (refl, omega arith)
