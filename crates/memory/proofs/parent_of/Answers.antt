-- `parent_of`: top, node, a body, a class that is not declared, a class that is.
use Rattle.memory.proofs.Classes.{above_top, above_node, above_body, above_unknown, above_known}
use Rattle.memory.proofs.parent_of.Goals as goal

pub returns-then-scope-eq0 : goal.returns-then-scope-eq0
returns-then-scope-eq0 c = above_top _ _ _ c.if-scope-eq0.true

pub returns-then-scope-eq1 : goal.returns-then-scope-eq1
returns-then-scope-eq1 c = above_node _ _ _ c.if-scope-eq1.true

pub returns-then-scope-ge1026 : goal.returns-then-scope-ge1026
returns-then-scope-ge1026 c = above_body _ _ _ c.if-scope-ge1026.true c.from.ensures

pub returns-then-byte_in-eq0 : goal.returns-then-byte_in-eq0
returns-then-byte_in-eq0 c = above_unknown _ _ _ c.if-scope-eq0.false c.if-scope-eq1.false c.if-scope-ge1026.false c.byte_in.ensures c.if-byte_in-eq0.true

pub returns : goal.returns
returns c = above_known _ _ _ c.if-scope-eq0.false c.if-scope-eq1.false c.if-scope-ge1026.false c.byte_in.ensures c.if-byte_in-eq0.false c.two_in.ensures
