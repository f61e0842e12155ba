-- `is_chosen`: by the place of the node that runs.
use Rattle.compiler.proofs.Items.{chosen_at, chosen_none}
use Rattle.compiler.proofs.is_chosen.Goals as goal

pub returns-in-Some : goal.returns-in-Some
returns-in-Some c = chosen_at _ c.in-Some.is

pub returns-in-None : goal.returns-in-None
returns-in-None c = chosen_none _ c.in-None.is
