-- `print_lines`: what is left are the lines from the position on and the last one; positions rise within the catalog.
use Prim.Native.Nat.{◌+◌, ◌-◌}
use mathlib.Core.Path.{◌≡◌}
use lib.ListN.{length}
use Rattle.rules.specs.Schedule.{steps_line}
use Rattle.schedule.specs.Strings.{strings_by}
use Rattle.print_schedule.specs.Printing.{schedule_text, LinesLeft}
use Rattle.print_schedule.proofs.print_lines.Given as goal

abbrev pub invariant-loop-text : goal.invariant-loop-text
invariant-loop-text g l = LinesLeft (schedule_text l.manifest l.device) l.sent (strings_by l.manifest l.index l.strings) l.catalog l.at (steps_line l.steps) × (length l.line ≡ 2048)

abbrev pub decreases-loop-text : goal.decreases-loop-text
decreases-loop-text g l = length l.catalog + 1 - l.at.attribute
