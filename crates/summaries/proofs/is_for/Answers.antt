-- `is_for`: the place and the depth are compared.
use Rattle.rules.proofs.Within.{false_not_true}
use Rattle.summaries.proofs.Lines.{found_for}
use Rattle.summaries.proofs.is_for.Goals as goal

pub returns-then-two_in-p : goal.returns-then-two_in-p
returns-then-two_in-p c = λ h. false_not_true h

pub returns : goal.returns
returns c = λ h. found_for _ _ c.two_in.ensures c.byte_in.ensures c.if-two_in-p.false h
