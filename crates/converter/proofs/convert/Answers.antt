-- `convert`: 1, then all else, with the eight.
use mathlib.Core.Path.{refl}
use Rattle.rules.specs.Types.{check_types}
use Rattle.type_list.specs.Listed.{chosen}
use Rattle.converter.proofs.Converting.{short_memory, converts}
use Rattle.converter.proofs.convert.Goals as goal

pub returns-then-work-lt65536 : goal.returns-then-work-lt65536
returns-then-work-lt65536 c = converts _ _ (short_memory _ _ _ _ c.if-work-lt65536.true) refl refl c.refuse.ensures

pub convert_chosen-requires : goal.convert_chosen-requires
unfolding chosen check_types
convert_chosen-requires c = (c.if-work-lt65536.false, refl)

pub returns : goal.returns
unfolding chosen
returns c = c.convert_chosen.ensures
