-- `record_at`: nothing, or the value.
use Rattle.records.proofs.Ways.{read_nothing, read_value}
use Rattle.records.proofs.record_at.Goals as goal

pub returns-then-kind-eq0 : goal.returns-then-kind-eq0
returns-then-kind-eq0 c = read_nothing _ _ c.byte_in-kind.ensures c.if-kind-eq0.true

pub returns : goal.returns
returns c = read_value _ _ c.byte_in-kind.ensures c.if-kind-eq0.false c.value_at-value.ensures c.read_within-labels.ensures
