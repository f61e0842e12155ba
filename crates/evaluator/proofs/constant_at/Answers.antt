-- `constant_at`: the label and the value read.
use Rattle.evaluator.proofs.Constants.{constant_read}
use Rattle.evaluator.proofs.constant_at.Goals as goal

pub returns : goal.returns
returns c = constant_read _ _ c.byte_at.ensures c.one-labels.ensures c.value_at-value.ensures
