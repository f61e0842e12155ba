-- `read_attribute`: the value and the set.
use Rattle.catalog.specs.Finding.{content_at}
use Rattle.catalog.proofs.read_attribute.Goals as goal

pub returns : goal.returns
unfolding content_at
returns c = rw (c.value_at-value.ensures, c.read_at-labels.ensures)
