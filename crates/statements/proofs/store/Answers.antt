-- `store`: the value under path and trail, assigned.
use Rattle.statements.proofs.Assigning.{store_way}
use Rattle.statements.proofs.store.Goals as goal

pub returns : goal.returns
returns c = store_way _ _ _ _ c.path_and_trail-set.ensures c.under.ensures c.assign.ensures c.store_answer.ensures
