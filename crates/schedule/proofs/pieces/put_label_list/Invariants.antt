-- `put_label_list`: at the loop's head, what is left of the list makes the whole with the line so far.
use mathlib.Core.Path.{◌≡◌}
use Prim.Native.Nat.{◌-◌}
use lib.ListN.{length}
use Rattle.schedule.specs.Appending.{appended}
use Rattle.schedule.proofs.LabelList.{list_from}
use Rattle.schedule.proofs.pieces.put_label_list.Given as goal

abbrev pub invariant-loop-n : goal.invariant-loop-n
invariant-loop-n l = (length l.line ≡ length l.initial.line) × (appended (list_from l.labels l.from) l.end l.line ≡ appended (list_from l.labels 0) l.at l.initial.line)

abbrev pub decreases-loop-n : goal.decreases-loop-n
decreases-loop-n l = 256 - l.from
