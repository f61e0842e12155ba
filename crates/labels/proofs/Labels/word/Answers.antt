-- `Labels::word`: each return is at a label of the block that starts at 0, 64, 128 or 192.
use native.Mathlib.Omega.{arith}
use Rattle.labels.specs.Sets.{word_of}
use Rattle.labels.proofs.Laws.{word_block}
use Rattle.labels.proofs.Labels.word.Goals as goal

pub returns-then-label-lt64 : goal.returns-then-label-lt64
unfolding word_of
returns-then-label-lt64 c = word_block c.args.self 0 c.args.label (omega arith)

pub returns-then-label-lt128 : goal.returns-then-label-lt128
unfolding word_of
returns-then-label-lt128 c = word_block c.args.self 64 c.args.label (omega arith)

pub returns-then-label-lt192 : goal.returns-then-label-lt192
unfolding word_of
returns-then-label-lt192 c = word_block c.args.self 128 c.args.label (omega arith)

pub returns : goal.returns
unfolding word_of
returns c = word_block c.args.self 192 c.args.label (omega arith)
