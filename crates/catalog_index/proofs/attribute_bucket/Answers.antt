-- `attribute_bucket`: a remainder for each of the two parts.
use mathlib.Core.Path.{ap}
use Prim.Native.Nat.{ℕ, ◌+◌, ◌/◌, ◌%◌}
use native.Mathlib.Nat.{mod-le}
use native.Mathlib.Omega.{arith}
use Rattle.catalog_index.proofs.attribute_bucket.Goals as goal

pub overflow_add-result : goal.overflow_add-result
overflow_add-result c = omega (arith, mod-le c.args.name c.attribute_chains.result)

pub returns : goal.returns
returns c = let a = c.args in (ap (λ (k : ℕ). 256 + (a.entry / 41 + a.name % k) % 1600) c.attribute_chains.ensures.0, omega arith)
