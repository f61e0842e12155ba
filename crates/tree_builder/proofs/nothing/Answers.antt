-- `nothing`: no field is open.
use Rattle.tree_builder.proofs.Whole.{fresh_shows}
use Rattle.tree_builder.proofs.nothing.Goals as goal

pub returns : goal.returns
returns c = λ table m out. fresh_shows table m out
