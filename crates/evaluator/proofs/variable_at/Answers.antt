-- `variable_at`: one way for each of the three tags.
use mathlib.Core.Path.{refl}
use native.Mathlib.Omega.{arith}
use Rattle.evaluator.specs.Known.{variable_in, sought_as}
use Rattle.evaluator.proofs.Leaves.{says_variable, says_top, says_class}
use Rattle.evaluator.proofs.variable_at.Goals as goal

pub returns-in-19 : goal.returns-in-19
unfolding sought_as variable_in
returns-in-19 c = λ out fill d s low high. says_variable _ _ _ _ _ _ _ c.byte_at.ensures c.in-19.is c.two_at-name.ensures refl s

pub returns-in-20 : goal.returns-in-20
unfolding sought_as variable_in
returns-in-20 c = λ out fill d s low high. says_top _ _ _ _ _ _ _ c.byte_at.ensures c.in-20.is c.two_at-name.ensures refl s

pub returns-in_default : goal.returns-in_default
returns-in_default c = λ out fill d s low high.
    let tag = c.byte_at.ensures in
    says_class _ _ _ _ _ _ _ tag (omega (arith, tag)) c.two_at-name.ensures refl c.class_variable.ensures s
