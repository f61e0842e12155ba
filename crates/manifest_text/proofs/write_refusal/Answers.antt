-- `write_refusal`: the line of a refusal is short.
use native.Mathlib.Omega.{arith}
use Rattle.rules.specs.Schedule.{refusal_line}
use Rattle.schedule.proofs.Whole.{refusal_short}
use Rattle.standard_streams.proofs.Sending.{last_line}
use Rattle.manifest_text.proofs.Answering.{then_so}
use Rattle.manifest_text.proofs.write_refusal.Goals as goal

pub write_all-requires : goal.write_all-requires
unfolding refusal_line
write_all-requires g c =
    then_so c.requires (λ a l. last_line _ _ _ _ l (omega arith) (refusal_short c.args.refusal.reason c.args.refusal.place (omega arith)) (omega arith) c.refusal_line-written.ensures)
