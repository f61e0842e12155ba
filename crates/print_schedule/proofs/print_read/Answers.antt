-- `print_read`: what is kept of an input has the schedule of the whole input.
use mathlib.Core.Path.{ap}
use lib.ListN.{length}
use Rattle.std.proofs.lemmas.Result.{IfOk-equal}
use Rattle.print_schedule.proofs.Printing.{read_text_lem}
use Rattle.print_schedule.proofs.print_read.Goals as goal

pub returns : goal.returns
returns g c =
    let a = c.args in
    λ d m input name text held.
    IfOk-equal _ _ _ _ c.print_schedule.ensures (rw (c.first.ensures, c.first-2.ensures) (ap length (read_text_lem d m input a.at a.device.now a.manifest.now name text held)))
