-- `print_with_types`: 1, then 28, then all else.
use mathlib.Core.Path.{sym, ◌∙◌}
use native.Mathlib.Omega.{arith}
use Rattle.rules.specs.Types.{check_types}
use Rattle.type_list.proofs.Searching.{fault_early, lent_chosen, chosen_sound}
use Rattle.printer.proofs.WholeText.{short_memory, fault_of_types, prints}
use Rattle.printer.proofs.print_with_types.Goals as goal

pub returns-then-work-lt65536 : goal.returns-then-work-lt65536
returns-then-work-lt65536 c = prints _ _ (short_memory _ _ _ _ c.if-work-lt65536.true) c.refuse.ensures

pub overflow_cast-fault : goal.overflow_cast-fault
overflow_cast-fault c = omega (arith, fault_early _ (sym c.check_types.ensures ∙ c.in-Err.is))

pub print_chosen-requires : goal.print_chosen-requires
print_chosen-requires c = (c.if-work-lt65536.false, chosen_sound _ (sym c.check_types.ensures ∙ c.in-Ok.is))

pub returns-in-Err : goal.returns-in-Err
unfolding check_types
returns-in-Err c = prints _ _ (fault_of_types _ _ _ _ c.if-work-lt65536.false c.check_types.ensures c.in-Err.is) c.refuse-in-Err.ensures

pub returns-in-Ok : goal.returns-in-Ok
returns-in-Ok c = rw (lent_chosen _ (sym c.check_types.ensures ∙ c.in-Ok.is)) at c.print_chosen.ensures
