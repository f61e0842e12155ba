-- `free_at`: the slot is of the scope, or it is not.
use Rattle.cells.proofs.Free.{free_yes, free_no}
use Rattle.cells.proofs.free_at.Goals as goal

pub returns-then-in_scope : goal.returns-then-in_scope
returns-then-in_scope c =
    free_yes _ _ _ _ c.requires.0 c.requires.1 c.in_scope.ensures c.if-in_scope.true c.put_byte.ensures

pub returns-else-in_scope : goal.returns-else-in_scope
returns-else-in_scope c = free_no _ _ _ c.in_scope.ensures c.if-in_scope.false
