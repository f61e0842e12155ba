-- `add_string`: 32 fields are around, or a header, a label and a value are stored.
use mathlib.Core.Path.{refl}
use Rattle.tree_builder.specs.Shows.{AString, IsWord}
use lib.ListN.{length-append}
use Rattle.tree_builder.proofs.Leaves.{constant_refused, string_made}
use Prim.Native.Nat.{◌+◌, ◌%◌}
use mathlib.Core.List.{◌∷◌, [], ◌++◌}
use Rattle.wire.specs.Numbers.{high_bytes}
use Rattle.wire.proofs.Laws.{then_store, high_length}
use native.Mathlib.Omega.{arith}
use Rattle.tree_builder.proofs.add_string.Goals as goal

pub returns-then-s-ge32 : goal.returns-then-s-ge32
unfolding IsWord
returns-then-s-ge32 c =
    let a = c.args in
    (λ m types. constant_refused types a.s m a.out.now (AString a.line a.place a.name) (omega (arith, c.if-s-ge32.true)), tt)

pub returns : goal.returns
unfolding IsWord
returns c =
    let a = c.args in (
      λ m types. string_made types a.s m a.out.now (omega arith) a.line a.place c.late_with-late.ensures a.name
          (then_store a.out.now a.s.fill (0x11 ∷ high_bytes 2 3 ++ (a.line % 256 ∷ [])) (a.s.fill + 4) (high_bytes 2 a.name) c.put_label.ensures c.put_two.ensures
          (omega (arith, length-append (0x11 ∷ high_bytes 2 3) (a.line % 256 ∷ []), high_length 2 3))) c.with_part-next.ensures,
      refl,
    )
