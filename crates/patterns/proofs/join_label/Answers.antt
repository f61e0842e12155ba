-- `join_label` sets the bit of the label in its word.
use native.Mathlib.Omega.{arith}
use Rattle.patterns.proofs.Words.{label_joined}
use Rattle.patterns.proofs.join_label.Goals as goal

pub returns : goal.returns
returns c = label_joined _ _ c.requires (omega arith)
