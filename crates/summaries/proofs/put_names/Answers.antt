-- `put_names`: a number at a time.
use native.Mathlib.Omega.{arith}
use Rattle.summaries.proofs.Lines.{storing, same_room, one_stored, all_stored}
use Rattle.summaries.proofs.put_names.Goals as goal

pub loop-i-init : goal.loop-i-init
loop-i-init c = storing _ _ _

pub loop-i-preserved : goal.loop-i-preserved
loop-i-preserved c = one_stored c.loop-i.invariant (omega (arith, c.told-names, c.loop-i-test.true)) c.put_eight.ensures

pub shape_of-work : goal.shape_of-work
shape_of-work c = same_room c.loop-i.invariant

pub returns : goal.returns
returns c = (all_stored c.loop-i.invariant (omega (arith, c.told-names, c.loop-i-test.false)), c.fits-names)
