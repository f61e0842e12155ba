-- `after`: past the end nothing is left at either place.
use mathlib.Core.Path.{sym, ◌∙◌}
use Prim.Native.Nat.{◌+◌, ◌≤◌}
use native.Mathlib.Omega.{arith}
use lib.ListN.{length, drop_of_length-le}
use Rattle.wire.proofs.after.Goals as goal

pub returns-else-i-m : goal.returns-else-i-m
returns-else-i-m c =
    let s = c.args in
    let past : length s.m.now ≤ s.i + 1 = omega arith in
    drop_of_length-le s.m.now c.if-i-m.false ∙ sym (drop_of_length-le s.m.now past)
