-- `print_chosen`: 2 to 5, then the rest.
use mathlib.Core.Path.{sym, ◌∙◌}
use native.Mathlib.Omega.{arith}
use Rattle.syntax.proofs.Faults.{fault_fits, before_sound}
use Rattle.printer.proofs.WholeText.{fault_first, sound_first, prints}
use Rattle.printer.proofs.print_chosen.Goals as goal

pub overflow_cast-fault : goal.overflow_cast-fault
overflow_cast-fault c = omega (arith, fault_fits _ c.check_all.ensures c.in-Err.is)

pub print_sound-requires : goal.print_sound-requires
print_sound-requires c = let b = before_sound _ (sym c.check_all.ensures ∙ c.in-Ok.is) in (c.requires.1, (b.sound, b.short))

pub returns-in-Err : goal.returns-in-Err
returns-in-Err c = prints _ _ (fault_first _ _ _ _ c.requires.0 c.requires.1 c.check_all.ensures c.in-Err.is) c.refuse.ensures

pub returns-in-Ok : goal.returns-in-Ok
returns-in-Ok c = prints _ _ (sound_first _ _ _ _ c.requires.0 c.requires.1 c.check_all.ensures c.in-Ok.is) c.print_sound.ensures
