-- `variable_marks`: one way for each of the three tags.
use native.Mathlib.Omega.{arith}
use Rattle.provenance.proofs.Leaves.{marks_variable, marks_top, marks_class}
use Rattle.provenance.proofs.variable_marks.Goals as goal

pub returns-in-19 : goal.returns-in-19
returns-in-19 c = λ out fill d s low high. marks_variable _ _ _ _ _ _ _ c.byte_at.ensures c.in-19.is c.two_at-name.ensures c.marks_up.ensures s

pub returns-in-20 : goal.returns-in-20
returns-in-20 c = λ out fill d s low high. marks_top _ _ _ _ _ _ _ c.byte_at.ensures c.in-20.is c.two_at-name.ensures c.marks_up-in-20.ensures s

pub returns-in_default : goal.returns-in_default
returns-in_default c = λ out fill d s low high.
    let tag = c.byte_at.ensures in
    marks_class _ _ _ _ _ _ _ tag (omega (arith, tag)) c.two_at-name.ensures c.two_at.ensures c.class_marks.ensures s
