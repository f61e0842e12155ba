-- `chain_at`: the chain of the key that is read.
use mathlib.Core.Path.{refl, ◌∙◌}
use Rattle.cells.proofs.chain_at.Goals as goal

pub returns : goal.returns
returns c = (c.chain_of.ensures.0 ∙ rw (c.two_in-scope.ensures, c.two_in-name.ensures) refl, c.chain_of.ensures.1)
