-- `is_empty` finds the sixteen words joined to be zero.
use mathlib.Core.Path.{refl}
use Rattle.branches.specs.Names.{holds_none}
use Rattle.branches.proofs.is_empty.Goals as goal

pub returns : goal.returns
unfolding holds_none
returns c = rw (c.join_four.ensures, c.join_four-2.ensures, c.join_four-3.ensures, c.join_four-4.ensures) refl
