-- `parent_scope`: the class of the parent, or the base.
use native.Mathlib.Omega.{arith}
use Rattle.declarations.proofs.Classes.{name_small, scope_parent, scope_base}
use Rattle.rules.specs.State.{one_if}
use Rattle.declarations.proofs.parent_scope.Goals as goal

pub overflow_add-q : goal.overflow_add-q
overflow_add-q c = omega (arith, c.requires.0)

pub overflow_add-q-then-byte_at-eq53 : goal.overflow_add-q-then-byte_at-eq53
overflow_add-q-then-byte_at-eq53 c = omega (arith, c.requires.0)

pub overflow_add-result : goal.overflow_add-result
overflow_add-result c = omega (arith, name_small _ _ c.byte_at.ensures c.requires.1 c.if-byte_at-eq53.true c.two_at.ensures)

pub returns-then-byte_at-eq53 : goal.returns-then-byte_at-eq53
returns-then-byte_at-eq53 c = scope_parent _ _ c.byte_at.ensures _ c.requires.1 c.if-byte_at-eq53.true c.two_at.ensures

pub returns-else-byte_at-eq53 : goal.returns-else-byte_at-eq53
unfolding one_if
returns-else-byte_at-eq53 c = scope_base _ _ c.byte_at.ensures _ c.if-byte_at-eq53.false
