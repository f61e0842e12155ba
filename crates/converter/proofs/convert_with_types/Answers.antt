-- `convert_with_types`: 1, then 28, then all else.
use mathlib.Core.Path.{refl, sym, ◌∙◌}
use native.Mathlib.Omega.{arith}
use Rattle.rules.specs.Types.{check_types}
use Rattle.type_list.proofs.Searching.{fault_early, lent_chosen, chosen_sound}
use Rattle.converter.proofs.Converting.{short_memory, fault_of_types, converts}
use Rattle.converter.proofs.convert_with_types.Goals as goal

pub returns-then-work-lt65536 : goal.returns-then-work-lt65536
returns-then-work-lt65536 c = converts _ _ (short_memory _ _ _ _ c.if-work-lt65536.true) refl refl c.refuse.ensures

pub overflow_cast-fault : goal.overflow_cast-fault
overflow_cast-fault c = omega (arith, fault_early _ (sym c.check_types.ensures ∙ c.in-Err.is))

pub convert_chosen-requires : goal.convert_chosen-requires
convert_chosen-requires c = (c.if-work-lt65536.false, chosen_sound _ (sym c.check_types.ensures ∙ c.in-Ok.is))

pub returns-in-Err : goal.returns-in-Err
unfolding check_types
returns-in-Err c = converts _ _ (fault_of_types _ _ _ _ c.if-work-lt65536.false c.check_types.ensures c.in-Err.is) refl refl c.refuse-in-Err.ensures

pub returns-in-Ok : goal.returns-in-Ok
returns-in-Ok c = rw (lent_chosen _ (sym c.check_types.ensures ∙ c.in-Ok.is)) at c.convert_chosen.ensures
