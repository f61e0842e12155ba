-- `write`: four stores, one after the other.
use Rattle.rules.specs.State.{one_if}
use Rattle.summaries.proofs.Lines.{line_stored}
use Rattle.summaries.proofs.write.Goals as goal

pub returns : goal.returns
unfolding one_if
returns c = (line_stored _ _ _ _ _ _ c.put_two.ensures c.put_byte.ensures c.put_byte-2.ensures c.put_names.ensures.0, c.put_names.ensures.1)
