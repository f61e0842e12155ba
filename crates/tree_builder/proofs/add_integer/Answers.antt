-- `add_integer`: 32 fields are around, or a header, a label and a value are stored.
use Rattle.tree_builder.specs.Shows.{AnInteger}
use lib.ListN.{length-append}
use Rattle.tree_builder.proofs.Leaves.{constant_refused, integer_made, signed_stored}
use Prim.Native.Nat.{◌+◌, ◌%◌}
use mathlib.Core.List.{◌∷◌, [], ◌++◌}
use Rattle.wire.specs.Numbers.{high_bytes}
use Rattle.wire.proofs.Laws.{high_length}
use mir.ValLaws.{to_z-of_z}
use mir.Syntax.{w64}
use native.Mathlib.Omega.{arith}
use Rattle.tree_builder.proofs.add_integer.Goals as goal

pub returns-then-s-ge32 : goal.returns-then-s-ge32
returns-then-s-ge32 c =
    let a = c.args in
    λ m types. constant_refused types a.s m a.out.now (AnInteger a.line a.place a.value) (omega (arith, c.if-s-ge32.true))

pub returns : goal.returns
returns c =
    let a = c.args in
    λ m types. integer_made types a.s m a.out.now (omega arith) a.line a.place c.late_with-late.ensures a.value
    (signed_stored a.out.now a.s.fill (0x10 ∷ high_bytes 2 9 ++ (a.line % 256 ∷ [])) (a.s.fill + 4) a.value c.put_label.ensures c.put_signed.ensures (to_z-of_z w64 a.value c.ranges.value)
    (omega (arith, length-append (0x10 ∷ high_bytes 2 9) (a.line % 256 ∷ []), high_length 2 9))) c.with_part.ensures
