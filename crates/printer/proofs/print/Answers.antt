-- `print`: 1, then all else, with the eight.
use mathlib.Core.Path.{refl}
use Rattle.rules.specs.Types.{check_types}
use Rattle.type_list.specs.Listed.{chosen}
use Rattle.printer.proofs.WholeText.{short_memory, prints}
use Rattle.printer.proofs.print.Goals as goal

pub returns-then-work-lt65536 : goal.returns-then-work-lt65536
returns-then-work-lt65536 c = prints _ _ (short_memory _ _ _ _ c.if-work-lt65536.true) c.refuse.ensures

pub print_chosen-requires : goal.print_chosen-requires
unfolding chosen check_types
print_chosen-requires c = (c.if-work-lt65536.false, refl)

pub returns : goal.returns
unfolding chosen
returns c = c.print_chosen.ensures
