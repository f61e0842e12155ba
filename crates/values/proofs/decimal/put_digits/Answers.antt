-- `put_digits`: what is left to store at the loop's head makes the whole.
use mathlib.Core.Path.{◌∙◌}
use native.Mathlib.Omega.{arith}
use lib.ListN.{length-set}
use Rattle.values.proofs.Digits.{store_turn, store_done, store_sets}
use Rattle.values.proofs.decimal.put_digits.Goals as goal

pub loop-i-preserved : goal.loop-i-preserved
loop-i-preserved c =
    let l = c.loop-i in
    (simp length-set l.invariant.0, store_turn c.args.at l.i l.rest l.out (omega arith) ∙ l.invariant.1)

pub returns : goal.returns
returns c =
    let l = c.loop-i in
    let s = c.args in
    store_done s.at l.i l.rest l.out (omega arith) ∙ l.invariant.1 ∙ store_sets s.at s.count s.n s.out.now
