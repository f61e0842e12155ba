-- `print_steps`: the line of the steps is short.
use native.Mathlib.Omega.{arith}
use Rattle.rules.specs.Schedule.{steps_line}
use Rattle.schedule.proofs.Sizes.{steps_line_short}
use Rattle.standard_streams.proofs.Sending.{last_line}
use Rattle.print_schedule.proofs.print_steps.Goals as goal

pub print_last-requires : goal.print_last-requires
unfolding steps_line
print_last-requires g c =
    last_line _ _ _ _ c.requires (omega arith) (steps_line_short c.args.steps (omega (arith, c.ranges.steps))) (omega arith) c.steps_line-written.ensures
