-- `add_variable`: 32 fields are around, or a header and a name are stored.
use Rattle.tree_builder.specs.Shows.{AVariable}
use Rattle.tree_builder.proofs.Leaves.{read_refused, variable_made}
use Prim.Native.Nat.{◌+◌}
use mathlib.Core.List.{◌∷◌}
use Rattle.wire.specs.Numbers.{high_bytes}
use Rattle.wire.proofs.Laws.{then_store, high_length}
use native.Mathlib.Omega.{arith}
use Rattle.tree_builder.proofs.add_variable.Goals as goal

pub returns-then-s-ge32 : goal.returns-then-s-ge32
returns-then-s-ge32 c =
    let a = c.args in
    λ m types. read_refused types a.s m a.out.now (AVariable a.tag a.name) (omega (arith, c.if-s-ge32.true))

pub returns : goal.returns
returns c =
    let a = c.args in
    λ m types. variable_made types a.s m a.out.now (omega arith) a.tag a.name (omega arith)
    (then_store a.out.now a.s.fill (a.tag ∷ high_bytes 2 2) (a.s.fill + 3) (high_bytes 2 a.name) c.put_header.ensures c.put_two.ensures (omega (arith, high_length 2 2))) c.with_part.ensures
