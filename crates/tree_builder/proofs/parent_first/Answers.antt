-- `parent_first`: 32 fields are around, or the parts are moved up and the parent comes before them.
use Rattle.tree_builder.proofs.Heading.{parent_refused, parent_only, parent_before}
use Rattle.wire.proofs.Laws.{then_store, high_length}
use Rattle.wire.specs.Numbers.{high_bytes}
use Prim.Native.Nat.{◌+◌}
use mathlib.Core.List.{◌∷◌}
use native.Mathlib.Omega.{arith}
use Rattle.tree_builder.proofs.parent_first.Goals as goal

pub returns-then-s-ge32 : goal.returns-then-s-ge32
returns-then-s-ge32 c =
    let a = c.args in
    λ m types. parent_refused types a.s m a.out.now a.name (omega (arith, c.if-s-ge32.true))

pub returns-then-s-eq0 : goal.returns-then-s-eq0
returns-then-s-eq0 c =
    let a = c.args in
    λ m types. parent_only types a.s m a.out.now a.name (omega (arith, c.if-s-ge32.false)) c.move_up.ensures (then_store _ a.s.body (0x35 ∷ high_bytes 2 2) (a.s.body + 3) (high_bytes 2 a.name) c.put_header.ensures c.put_two.ensures (omega (arith, high_length 2 2))) (omega arith) c.with_part.ensures

pub returns : goal.returns
returns c =
    let a = c.args in
    λ m types. parent_before types a.s m a.out.now a.name (omega (arith, c.if-s-ge32.false)) c.move_up.ensures (then_store _ a.s.body (0x35 ∷ high_bytes 2 2) (a.s.body + 3) (high_bytes 2 a.name) c.put_header.ensures c.put_two.ensures (omega (arith, high_length 2 2))) (omega arith) c.raised_by.ensures
