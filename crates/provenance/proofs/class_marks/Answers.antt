-- `class_marks`: past the last name, or its cell.
use Rattle.provenance.proofs.Variables.{class_past, class_cell}
use Rattle.labels.specs.Sets.{no_labels}
use Rattle.cells.specs.Memory.{base_for}
use Rattle.rules.specs.State.{top_base}
use native.Mathlib.Omega.{arith}
use Rattle.provenance.proofs.class_marks.Goals as goal

pub returns-then-class-ge1024 : goal.returns-then-class-ge1024
unfolding no_labels
returns-then-class-ge1024 c = class_past _ _ _ c.if-class-ge1024.true

pub overflow_add-number : goal.overflow_add-number
overflow_add-number c = omega (arith, c.if-class-ge1024.false)

pub returns : goal.returns
unfolding base_for
returns c = class_cell _ _ _ top_base c.if-class-ge1024.false c.marks_up.ensures
