-- `add_class_variable`: 32 fields are around, or a header and two names are stored.
use Rattle.tree_builder.specs.Shows.{AClassVariable}
use lib.ListN.{length-append}
use Rattle.tree_builder.proofs.Leaves.{read_refused, class_made}
use Prim.Native.Nat.{◌+◌}
use mathlib.Core.List.{◌∷◌, ◌++◌}
use Rattle.wire.specs.Numbers.{high_bytes}
use Rattle.wire.proofs.Laws.{then_store, high_length}
use native.Mathlib.Omega.{arith}
use Rattle.tree_builder.proofs.add_class_variable.Goals as goal

pub returns-then-s-ge32 : goal.returns-then-s-ge32
returns-then-s-ge32 c =
    let a = c.args in
    λ m types. read_refused types a.s m a.out.now (AClassVariable a.class a.name) (omega (arith, c.if-s-ge32.true))

pub returns : goal.returns
returns c =
    let a = c.args in
    λ m types. class_made types a.s m a.out.now (omega arith) a.class a.name
    (then_store a.out.now a.s.fill ((0x15 ∷ high_bytes 2 4) ++ high_bytes 2 a.class) (a.s.fill + 5) (high_bytes 2 a.name)
    (then_store a.out.now a.s.fill (0x15 ∷ high_bytes 2 4) (a.s.fill + 3) (high_bytes 2 a.class) c.put_header.ensures c.put_two.ensures (omega (arith, high_length 2 4)))
    c.put_two-2.ensures (omega (arith, length-append (0x15 ∷ high_bytes 2 4) (high_bytes 2 a.class), high_length 2 4, high_length 2 a.class))) c.with_part.ensures
