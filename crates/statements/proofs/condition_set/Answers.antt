-- `condition_set`: path and trail, and its own.
use Rattle.statements.proofs.Assigning.{condition_set_way}
use Rattle.statements.proofs.condition_set.Goals as goal

pub returns : goal.returns
returns c = condition_set_way _ c.path_and_trail.ensures c.union.ensures
