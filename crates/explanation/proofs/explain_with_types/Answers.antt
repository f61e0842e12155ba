-- `explain_with_types`: 1, then 28, then all else.
use mathlib.Core.Path.{ap, sym, ◌∙◌}
use Rattle.evaluator.specs.Answers.{refused_by}
use Rattle.rules.specs.Types.{check_types}
use Rattle.type_list.proofs.Searching.{fault_early, lent_chosen, chosen_sound}
use Rattle.compiler.proofs.Whole.{short_memory, fault_of_types}
use Rattle.explanation.proofs.Whole.{explains_refused}
use Rattle.explanation.proofs.explain_with_types.Goals as goal

pub returns-then-work-lt65536 : goal.returns-then-work-lt65536
returns-then-work-lt65536 c = explains_refused _ _ _ _ _ _ _ _ _ (short_memory _ _ _ _ _ _ c.if-work-lt65536.true ∙ sym (ap refused_by c.at.ensures)) c.refuse.ensures.1 c.refuse.ensures.0

pub at-requires-in-Err : goal.at-requires-in-Err
at-requires-in-Err c = fault_early _ (sym c.check_types.ensures ∙ c.in-Err.is)

pub explain_chosen-requires : goal.explain_chosen-requires
explain_chosen-requires c = (c.if-work-lt65536.false, chosen_sound _ (sym c.check_types.ensures ∙ c.in-Ok.is))

pub returns-in-Err : goal.returns-in-Err
unfolding check_types
returns-in-Err c = explains_refused _ _ _ _ _ _ _ _ _ (fault_of_types _ _ _ _ _ _ c.if-work-lt65536.false c.check_types.ensures c.in-Err.is ∙ sym (ap refused_by c.at-in-Err.ensures)) c.refuse-in-Err.ensures.1 c.refuse-in-Err.ensures.0

pub returns-in-Ok : goal.returns-in-Ok
returns-in-Ok c = rw (lent_chosen _ (sym c.check_types.ensures ∙ c.in-Ok.is)) at c.explain_chosen.ensures
