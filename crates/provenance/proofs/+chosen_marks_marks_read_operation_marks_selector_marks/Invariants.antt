-- The cycle of `marks_read` and what it calls for expressions with parts: the measures and the answers of each member stand in the files below.
use Prim.Native.Nat.{◌+◌, ◌*◌}
use Rattle.provenance.proofs.+chosen_marks_marks_read_operation_marks_selector_marks.Given as goal

abbrev pub decreases-chosen_marks : goal.decreases-chosen_marks
decreases-chosen_marks l = 2 * l.inner + 1

abbrev pub decreases-marks_read : goal.decreases-marks_read
decreases-marks_read l = 2 * l.depth

abbrev pub decreases-operation_marks : goal.decreases-operation_marks
decreases-operation_marks l = 2 * l.below + 1

abbrev pub decreases-selector_marks : goal.decreases-selector_marks
decreases-selector_marks l = 2 * l.below + 1
