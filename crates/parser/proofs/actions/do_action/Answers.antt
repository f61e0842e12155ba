-- `do_action`: the codes by their ranges.
use mathlib.Core.Path.{refl}
use native.Mathlib.Omega.{arith}
use Rattle.parser.specs.Doing.{Suits}
use Rattle.parser.proofs.Doing.{by_other, code_around, code_void, code_begin}
use Rattle.parser.proofs.actions.do_action.Goals as goal

pub returns-then-action-ge-AROUND_PLUS : goal.returns-then-action-ge-AROUND_PLUS
unfolding Suits
returns-then-action-ge-AROUND_PLUS c = by_other _ _ _ _ _ _ _ _ _ _ (code_around _ (omega arith)) refl c.around_operator.ensures

pub returns-then-action-ge-EMPTY : goal.returns-then-action-ge-EMPTY
unfolding Suits
returns-then-action-ge-EMPTY c = by_other _ _ _ _ _ _ _ _ _ _ (code_void _ (omega arith) (omega arith)) refl (c.add_void.ensures _)

pub returns-then-action-ge-BEGIN : goal.returns-then-action-ge-BEGIN
unfolding Suits
returns-then-action-ge-BEGIN c = by_other _ _ _ _ _ _ _ _ _ _ (code_begin _ (omega arith) (omega arith)) refl c.begin.ensures
