-- `class_variable`: no class of that name, or its scope alone.
use mathlib.Core.Path.{refl}
use native.Mathlib.Omega.{arith}
use Rattle.rules.specs.State.{top_base}
use Rattle.cells.specs.Memory.{base_for}
use Rattle.evaluator.specs.Known.{variable_in, sought_as}
use Rattle.evaluator.proofs.Reading.{class_unknown, class_sought, was_true}
use Rattle.evaluator.proofs.class_variable.Goals as goal

pub returns-then-not-is_class : goal.returns-then-not-is_class
unfolding sought_as
returns-then-not-is_class c = class_unknown _ _ _ _ _ c.is_class.ensures.0 c.if-not-is_class.true-raw refl

pub overflow_add-number : goal.overflow_add-number
overflow_add-number c = omega (arith, c.is_class.ensures.1 (was_true _ c.if-not-is_class.false-raw))

pub returns : goal.returns
unfolding sought_as variable_in base_for
returns c = class_sought _ _ _ _ _ c.is_class.ensures.0 refl top_base c.if-not-is_class.false-raw (c.is_class.ensures.1 (was_true _ c.if-not-is_class.false-raw)) c.two_at.ensures refl
