-- `add_boolean`: 32 fields are around, or a header, a label and a value are stored.
use Rattle.tree_builder.specs.Shows.{ABoolean}
use lib.ListN.{length-append}
use Rattle.tree_builder.proofs.Leaves.{constant_refused, boolean_made}
use Prim.Native.Nat.{◌+◌, ◌%◌}
use mathlib.Core.List.{◌∷◌, [], ◌++◌}
use Rattle.wire.specs.Numbers.{high_bytes}
use Rattle.wire.proofs.Laws.{then_store, high_length}
use native.Mathlib.Omega.{arith}
use Rattle.tree_builder.proofs.add_boolean.Goals as goal

pub returns-then-s-ge32 : goal.returns-then-s-ge32
returns-then-s-ge32 c =
    let a = c.args in
    λ m types. constant_refused types a.s m a.out.now (ABoolean a.line a.place a.value) (omega (arith, c.if-s-ge32.true))

pub returns : goal.returns
returns c =
    let a = c.args in
    λ m types. boolean_made types a.s m a.out.now (omega arith) a.line a.place c.late_with-late.ensures a.value
    (then_store a.out.now a.s.fill (0x12 ∷ high_bytes 2 2 ++ (a.line % 256 ∷ [])) (a.s.fill + 4) (high_bytes 1 a.value) c.put_label.ensures c.put_byte.ensures
    (omega (arith, length-append (0x12 ∷ high_bytes 2 2) (a.line % 256 ∷ []), high_length 2 2))) c.with_part.ensures
