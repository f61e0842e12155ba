-- `two_at`: past the end there are only zeros.
use Prim.Native.Nat.{◌+◌}
use native.Mathlib.Omega.{arith}
use lib.ListN.{get_or-eq_default}
use Rattle.wire.specs.Bytes.{two}
use Rattle.wire.proofs.two_at.Goals as goal

pub returns-then-i-m : goal.returns-then-i-m
unfolding two
returns-then-i-m c =
    let a = c.args in
    omega (arith, get_or-eq_default a.m.now 0 {n = a.i + 1} (omega arith), c.wide_two.ensures, c.byte_in.ensures)

pub returns : goal.returns
unfolding two
returns c =
    let a = c.args in
    omega (arith, get_or-eq_default a.m.now 0 {n = a.i} (omega arith), get_or-eq_default a.m.now 0 {n = a.i + 1} (omega arith))
