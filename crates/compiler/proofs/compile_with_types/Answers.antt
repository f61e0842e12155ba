-- `compile_with_types`: 1, then 28, then all else.
use Rattle.rules.specs.Types.{check_types}
use Rattle.type_list.proofs.Searching.{fault_early, lent_chosen, chosen_sound}
use Rattle.compiler.proofs.Whole.{short_memory, fault_of_types, refuses}
use native.Mathlib.Omega.{arith}
use Rattle.evaluator.specs.Answers.{refused_by}
use Rattle.rules.specs.Outcome.{refused}
use mathlib.Core.Path.{ap, ap₂, ◌∙◌, refl, sym}
use Rattle.compiler.proofs.compile_with_types.Goals as goal

pub returns-then-work-lt65536 : goal.returns-then-work-lt65536
returns-then-work-lt65536 c = record {
  bytes = record { below = λ i. omega (arith, c.type_inv.manifest i) };
  leaves = refuses _ _ _ _ _ _ _ _ _ refl refl c.refuse.ensures.1.1 (short_memory _ _ _ _ _ _ c.if-work-lt65536.true ∙ sym (ap refused_by c.at.ensures)) c.refuse.ensures.0 c.refuse.ensures.1.0;
}

pub compile_chosen-requires : goal.compile_chosen-requires
compile_chosen-requires c = (c.if-work-lt65536.false, chosen_sound _ (sym c.check_types.ensures ∙ c.in-Ok.is))

pub returns-in-Err : goal.returns-in-Err
unfolding check_types
returns-in-Err c = record {
  bytes = record { below = λ i. omega (arith, c.type_inv.manifest i) };
  leaves = refuses _ _ _ _ _ _ _ _ _ refl refl c.refuse-in-Err.ensures.1.1 (fault_of_types _ _ _ _ _ _ c.if-work-lt65536.false c.check_types.ensures c.in-Err.is ∙ ap₂ refused (sym c.from.ensures.0) (sym (c.from.ensures.1 (fault_early _ (sym c.check_types.ensures ∙ c.in-Err.is))))) c.refuse-in-Err.ensures.0 c.refuse-in-Err.ensures.1.0;
}

pub returns-in-Ok : goal.returns-in-Ok
returns-in-Ok c = rw (lent_chosen _ (sym c.check_types.ensures ∙ c.in-Ok.is)) at c.compile_chosen.ensures
