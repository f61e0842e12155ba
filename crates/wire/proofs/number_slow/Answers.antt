-- `number_slow`: at the loop's head the number of the bytes that are left, read after those passed, is the whole.
use mathlib.Core.Path.{◌≡◌, refl, ◌∙◌}
use Prim.Native.Nat.{◌<◌}
use native.Mathlib.Omega.{arith}
use Rattle.wire.specs.Bytes.{byte}
use Rattle.wire.proofs.Horner.{room, one_more, step, done}
use Rattle.wire.proofs.number_slow.Goals as goal

pub loop-left-init : goal.loop-left-init
loop-left-init c = (omega arith, omega arith, refl)

pub overflow_mul-n : goal.overflow_mul-n
overflow_mul-n c = omega (arith, room c.loop-left.n c.loop-left.left c.loop-left.invariant.1 c.loop-left-test.true)

pub overflow_add-n : goal.overflow_add-n
overflow_add-n c = let l = c.loop-left in omega (arith, room l.n l.left l.invariant.1 c.loop-left-test.true)

pub loop-left-preserved : goal.loop-left-preserved
loop-left-preserved c =
    let l = c.loop-left in
    let m = c.args.m.now in
    let some : 0 < l.left = c.loop-left-test.true in
    let b : c.wide.result ≡ byte m l.p = c.wide.ensures ∙ c.byte_at.ensures in
    (omega arith, one_more l.n c.wide.result l.left l.invariant.1 some l.invariant.0 (omega arith), step m l.p _ l.left l.n _ some c.after-p.ensures b ∙ l.invariant.2)

pub returns : goal.returns
returns c =
    let l = c.loop-left in
    done c.args.m.now l.p l.left l.n c.loop-left-test.false ∙ l.invariant.2
