-- `body_context`: the number names the scope of the body.
use Rattle.execution.proofs.Types.{in_body_lem}
use Rattle.execution.proofs.body_context.Goals as goal

pub returns : goal.returns
returns c = in_body_lem _ _
