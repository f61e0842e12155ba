-- `put_label`: a header, then one byte.
use Rattle.wire.proofs.Laws.{then_store, high_length, one_byte}
use Rattle.wire.specs.Runs.{over}
use Rattle.wire.specs.Numbers.{high_bytes}
use Prim.Native.Nat.{◌+◌, ◌%◌}
use mathlib.Core.List.{◌∷◌, []}
use mathlib.Core.Path.{ap, ◌∙◌}
use native.Mathlib.Omega.{arith}
use Rattle.tree_builder.proofs.put_label.Goals as goal

pub returns : goal.returns
returns c =
    let a = c.args in
    then_store a.out.now a.at (a.tag ∷ high_bytes 2 a.size) (a.at + 3) (a.line % 256 ∷ []) c.put_header.ensures
    (c.put_byte.ensures ∙ ap (over _ (a.at + 3)) (one_byte (a.line % 256) (omega arith))) (omega (arith, high_length 2 a.size))
