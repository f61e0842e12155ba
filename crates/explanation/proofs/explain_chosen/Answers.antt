-- `explain_chosen`: 2 to 5, then the rest; the memory is cleared.
use mathlib.Core.Path.{ap, sym, ◌∙◌}
use native.Mathlib.Omega.{arith}
use Rattle.evaluator.specs.Answers.{refused_by}
use Rattle.syntax.proofs.Faults.{fault_fits}
use Rattle.compiler.proofs.Whole.{fault_first}
use Rattle.explanation.proofs.Whole.{explains, explains_refused}
use Rattle.explanation.proofs.explain_chosen.Goals as goal

pub at-requires : goal.at-requires
at-requires c = omega (arith, fault_fits _ c.check_all.ensures c.in-Err.is)

pub explain_sound-explanation-requires : goal.explain_sound-explanation-requires
explain_sound-explanation-requires c = (c.requires.0, (c.requires.1, sym c.check_all.ensures ∙ c.in-Ok.is))

pub returns-in-Err : goal.returns-in-Err
returns-in-Err c = explains_refused _ _ _ _ _ _ _ _ _ (fault_first _ _ _ _ _ _ c.requires.0 c.requires.1 c.check_all.ensures c.in-Err.is ∙ sym (ap refused_by c.at.ensures)) c.refuse.ensures.1 c.refuse.ensures.0

pub returns-in-Ok : goal.returns-in-Ok
returns-in-Ok c = explains _ _ _ _ _ _ _ _ _ c.explain_sound-explanation.auto.work c.clear.ensures c.explain_sound-explanation.ensures
