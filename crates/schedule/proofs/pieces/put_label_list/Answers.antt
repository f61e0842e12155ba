-- `put_label_list`: at the loop's head, what is left of the list makes the whole with the line so far.
use mathlib.Core.Path.{refl, ◌∙◌}
use native.Mathlib.Omega.{arith}
use Rattle.schedule.proofs.LabelList.{list_from, label_from, label_put, labels_done}
use Rattle.schedule.proofs.pieces.put_label_list.Goals as goal

pub loop-n-init : goal.loop-n-init
loop-n-init c = (refl, refl)

pub loop-n-smaller : goal.loop-n-smaller
loop-n-smaller c = omega (arith, label_from _ _ c.next.ensures _ c.in-Some.is)

pub loop-n-preserved : goal.loop-n-preserved
loop-n-preserved c = (c.put_label-end.auto.line ∙ c.loop-n.invariant.0, label_put _ _ c.next.ensures _ c.in-Some.is _ _ c.put_label-end.ensures c.loop-n.invariant.1)

pub returns : goal.returns
unfolding list_from
returns c = labels_done _ _ c.next.ensures _ _ c.in_default.is c.loop-n.invariant.1
