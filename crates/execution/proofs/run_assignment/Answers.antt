-- `run_assignment`: what `assign` answers.
use Rattle.execution.proofs.Statements.{sized, assignment_done, assignment_refused}
use Rattle.execution.proofs.Names.{name_small}
use Rattle.rules.specs.Format.{form_of, form_in, forms}
use mathlib.Core.Path.{◌≡◌, refl}
use native.Mathlib.Omega.{arith}
use Rattle.std.specs.Prelude.{Err}
use Rattle.execution.proofs.run_assignment.Goals as goal

pub assign-requires : goal.assign-requires
unfolding form_of form_in forms
assign-requires c = ((sized c.requires.0.0 c.requires.0.1.0, c.requires.0.1.0), (c.requires.1, name_small c.requires.0.1.0.stands c.requires.1 refl c.requires.0.0.set.strings c.requires.0.1.1))

pub returns-in_err-assign : goal.returns-in_err-assign
returns-in_err-assign c =
    let handed_on : c.from_residual.result ≡ Err c.in_err-assign.field-0.0 = grind arith in
    λ n levels. rw handed_on (assignment_refused _ _ _ c.assign.ensures n levels _ c.in_err-assign.was)

pub returns : goal.returns
returns c = λ n levels. assignment_done _ _ _ c.assign.ensures n levels c.requires.0.0 c.assign.auto.work c.in_ok-assign.was
