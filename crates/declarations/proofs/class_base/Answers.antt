-- `class_base`: no parent, a declared one, one that is not declared.
use native.Mathlib.Omega.{arith}
use Rattle.declarations.proofs.Classes.{name_small, base_own, base_declared, base_undeclared}
use Rattle.declarations.proofs.class_base.Goals as goal

pub overflow_add-q : goal.overflow_add-q
overflow_add-q c = omega (arith, c.requires.0.1)

pub returns-then-byte_at-ne53 : goal.returns-then-byte_at-ne53
returns-then-byte_at-ne53 c = base_own _ _ c.byte_at.ensures _ _ c.if-byte_at-ne53.true

pub overflow_add-q-2 : goal.overflow_add-q-2
overflow_add-q-2 c = omega (arith, c.requires.0.1)

pub is_declared-requires : goal.is_declared-requires
is_declared-requires c = (c.requires.0.0, name_small _ _ c.byte_at.ensures c.requires.1 c.if-byte_at-ne53.false c.two_at-parent.ensures)

pub base_of-requires : goal.base_of-requires
base_of-requires c = (c.requires.0.0, name_small _ _ c.byte_at.ensures c.requires.1 c.if-byte_at-ne53.false c.two_at-parent.ensures)

pub returns-then-is_declared : goal.returns-then-is_declared
returns-then-is_declared c = base_declared _ _ c.byte_at.ensures _ _ c.if-byte_at-ne53.false c.two_at-parent.ensures c.is_declared.ensures c.if-is_declared.true c.base_of.ensures

pub returns-else-is_declared : goal.returns-else-is_declared
returns-else-is_declared c = base_undeclared _ _ c.byte_at.ensures _ _ c.if-byte_at-ne53.false c.two_at-parent.ensures c.is_declared.ensures c.if-is_declared.false
