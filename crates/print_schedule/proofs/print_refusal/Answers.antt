-- `print_refusal`: the line of a refusal is short.
use native.Mathlib.Omega.{arith}
use Rattle.rules.specs.Schedule.{refusal_line}
use Rattle.schedule.proofs.Whole.{refusal_short}
use Rattle.standard_streams.proofs.Sending.{last_line}
use Rattle.print_schedule.proofs.print_refusal.Goals as goal

pub print_last-requires : goal.print_last-requires
unfolding refusal_line
print_last-requires g c =
    last_line _ _ _ _ c.requires (omega arith) (refusal_short c.args.refusal.reason c.args.refusal.place (omega arith)) (omega arith) c.refusal_line-written.ensures
