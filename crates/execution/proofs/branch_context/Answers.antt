-- `branch_context`: the set is added to the path.
use Rattle.execution.proofs.Statements.{in_branch_lem}
use Rattle.execution.proofs.branch_context.Goals as goal

pub returns : goal.returns
returns c = in_branch_lem _ _ c.union.ensures
