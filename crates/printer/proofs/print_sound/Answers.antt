-- `print_sound`: a field that cannot be printed, or the text.
use mathlib.Core.Path.{refl}
use lib.Dec.{lit≤}
use Rattle.text_answers.proofs.Ending.{leaves_as}
use Rattle.printer.proofs.WholeText.{index_holds, unprintable, all_printable}
use Rattle.printer.proofs.print_sound.Goals as goal

pub find_unprintable-requires : goal.find_unprintable-requires
find_unprintable-requires c = (c.requires.0, (c.requires.1.0, (c.requires.1.1, index_holds _ _ c.requires.1.0 c.requires.1.1 (lit≤ tt) c.index_strings-strings.ensures.0 c.index_strings-strings.ensures.1)))

pub print_fitting-requires : goal.print_fitting-requires
print_fitting-requires c = (record { indexed = index_holds _ _ c.requires.1.0 c.requires.1.1 (lit≤ tt) c.index_strings-strings.ensures.0 c.index_strings-strings.ensures.1; short = c.requires.1.1 }, c.requires.1.0)

pub returns-in-Some : goal.returns-in-Some
returns-in-Some c = leaves_as (unprintable _ _ _ c.find_unprintable.ensures c.in-Some.is) refl refl c.refuse.ensures

pub returns-in-None : goal.returns-in-None
returns-in-None c = leaves_as (all_printable _ _ _ c.find_unprintable.ensures c.in-None.is) refl refl c.print_fitting.ensures
