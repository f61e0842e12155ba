-- `digit_count`: at the loop's head the digits passed and those of the rest make all.
use mathlib.Core.Path.{◌≡◌, refl, ◌∙◌}
use Prim.Native.Nat.{◌-◌}
use native.Mathlib.Omega.{arith}
use Rattle.values.proofs.Digits.{count_from, count_end, count_turn, count_length}
use Rattle.values.proofs.decimal.digit_count.Goals as goal

pub loop-rest-init : goal.loop-rest-init
loop-rest-init c = (omega arith, omega arith, omega arith, refl)

pub loop-rest-preserved : goal.loop-rest-preserved
loop-rest-preserved c =
    let l = c.loop-rest in
    count_turn c.args.n l.count l.rest l.invariant.0 l.invariant.1 l.invariant.2 l.invariant.3 c.loop-rest-test.true

pub returns : goal.returns
returns c =
    let l = c.loop-rest in
    let e : l.count ≡ count_from 20 c.args.n = omega (arith, l.invariant.3, count_end (21 - l.count) l.rest (omega arith)) in
    e ∙ count_length c.args.n
