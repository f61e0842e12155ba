-- `explain`: 1, then all else, with the eight.
use mathlib.Core.Path.{ap, refl, sym, ◌∙◌}
use Rattle.evaluator.specs.Answers.{refused_by}
use Rattle.rules.specs.Types.{check_types}
use Rattle.type_list.specs.Listed.{chosen}
use Rattle.compiler.proofs.Whole.{short_memory}
use Rattle.explanation.proofs.Whole.{explains_refused}
use Rattle.explanation.proofs.explain.Goals as goal

pub returns-then-work-lt65536 : goal.returns-then-work-lt65536
returns-then-work-lt65536 c = explains_refused _ _ _ _ _ _ _ _ _ (short_memory _ _ _ _ _ _ c.if-work-lt65536.true ∙ sym (ap refused_by c.at.ensures)) c.refuse.ensures.1 c.refuse.ensures.0

pub explain_chosen-requires : goal.explain_chosen-requires
unfolding chosen check_types
explain_chosen-requires c = (c.if-work-lt65536.false, refl)

pub returns : goal.returns
unfolding chosen
returns c = c.explain_chosen.ensures
