-- `read_hex`: what is left to store at the loop's head makes the whole.
use native.Mathlib.Omega.{arith}
use Rattle.run_cases.proofs.Texts.{reading_first, reading_length, reading_more, reading_stops, reading_full}
use Rattle.run_cases.proofs.text.read_hex.Goals as goal

pub loop-n-init : goal.loop-n-init
loop-n-init c = reading_first _ _

pub pair_at-pair-requires : goal.pair_at-pair-requires
pair_at-pair-requires c = c.loop-n.invariant.within

pub shape_of-into-then-pair-gt255 : goal.shape_of-into-then-pair-gt255
shape_of-into-then-pair-gt255 c = reading_length _ _ _ _ _ c.loop-n.invariant

pub returns-then-pair-gt255 : goal.returns-then-pair-gt255
returns-then-pair-gt255 c =
    let r = reading_stops _ _ _ _ _ c.loop-n.invariant _ c.pair_at-pair.ensures c.if-pair-gt255.true in
    record { into_after = r.0; value = r.1.0; prefix_len = r.1.1 }

pub loop-n-smaller : goal.loop-n-smaller
loop-n-smaller c = omega (arith, reading_length _ _ _ _ _ c.loop-n.invariant)

pub loop-n-preserved : goal.loop-n-preserved
loop-n-preserved c = reading_more _ _ _ _ _ c.loop-n.invariant _ c.pair_at-pair.ensures c.loop-n-test.true c.if-pair-gt255.false

pub shape_of-into : goal.shape_of-into
shape_of-into c = reading_length _ _ _ _ _ c.loop-n.invariant

pub returns : goal.returns
returns c =
    let r = reading_full _ _ _ _ _ c.loop-n.invariant c.loop-n-test.false in
    record { into_after = r.0; value = r.1.0; prefix_len = r.1.1 }
