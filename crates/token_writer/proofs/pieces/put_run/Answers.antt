-- `put_run`: the part of the run that is within the output is filled.
use native.Mathlib.Omega.{arith}
use Rattle.token_writer.proofs.Writing.{run_filled, run_wrote}
use Rattle.token_writer.proofs.pieces.put_run.Goals as goal

pub overflow_add-end : goal.overflow_add-end
overflow_add-end c = omega (arith, c.requires)

pub returns : goal.returns
returns c = run_wrote _ _ _ _ _ (run_filled c.args.out.now c.args.at c.args.count c.args.b c.min.ensures c.min-2.ensures (c.fill.ensures.after (λ y h. h)))
