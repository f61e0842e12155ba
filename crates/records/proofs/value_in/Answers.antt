-- `value_in`: by the kind that was read.
use Rattle.records.proofs.value_in.Goals as goal

pub returns : goal.returns
returns c = cc
