-- `Labels::one`: each return is at a label of the block that starts at 0, 64, 128 or 192.
use native.Mathlib.Omega.{arith}
use Rattle.labels.proofs.Laws.{one_block}
use Rattle.labels.proofs.Labels.one.Goals as goal

pub returns-then-label-lt64 : goal.returns-then-label-lt64
returns-then-label-lt64 c = one_block 0 c.args.label (omega arith)

pub returns-then-label-lt128 : goal.returns-then-label-lt128
returns-then-label-lt128 c = one_block 64 c.args.label (omega arith)

pub returns-then-label-lt192 : goal.returns-then-label-lt192
returns-then-label-lt192 c = one_block 128 c.args.label (omega arith)

pub returns : goal.returns
returns c = one_block 192 c.args.label (omega arith)
