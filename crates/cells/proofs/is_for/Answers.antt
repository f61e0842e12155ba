-- `is_for`: scope, name and state.
use borrow.Author.Rules.{rules}
use mathlib.Core.Path.{◌≡◌}
use Rattle.cells.specs.Slots.{state_byte}
use Rattle.cells.proofs.SlotReads.{for_other_scope, for_other_name, for_state}
use Rattle.cells.proofs.is_for.Goals as goal

pub returns-then-two_in-scope : goal.returns-then-two_in-scope
returns-then-two_in-scope c = for_other_scope _ _ c.requires.0 _ _ _ c.two_in.ensures c.if-two_in-scope.true

pub returns-then-two_in-name : goal.returns-then-two_in-name
returns-then-two_in-name c = for_other_name _ _ c.requires.0 _ _ _ c.two_in.ensures c.if-two_in-scope.false c.two_in-2.ensures c.if-two_in-name.true

pub returns : goal.returns
returns c = let byte : c.match-state.result ≡ state_byte c.args.state = search rules in rw byte (for_state _ _ c.requires.0 _ _ _ c.two_in.ensures c.if-two_in-scope.false c.two_in-2.ensures c.if-two_in-name.false)
