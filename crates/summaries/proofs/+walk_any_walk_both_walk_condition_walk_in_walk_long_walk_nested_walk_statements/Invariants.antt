-- The walk: a block looks at its statements one level down, and an if or a case at its blocks. The measure is the depth; the statements of a block come before
use Prim.Native.Nat.{◌+◌, ◌-◌, ◌*◌}
use Rattle.wire.specs.Bytes.{fields_in}
use Rattle.rules.specs.declared.Kind.TheVariants.{Statement as StatementKind, Branch}
use Rattle.places.specs.At.{branches_at, statements_at, Siblings}
use Rattle.branches.specs.Texts.{text_in, text_any}
use Rattle.summaries.proofs.Walks.{Walked}
use Rattle.summaries.proofs.+walk_any_walk_both_walk_condition_walk_in_walk_long_walk_nested_walk_statements.Given as goal

abbrev pub decreases-walk_any : goal.decreases-walk_any
decreases-walk_any l = 4 * l.depth

abbrev pub decreases-walk_both : goal.decreases-walk_both
decreases-walk_both l = 4 * l.depth + 1

abbrev pub decreases-walk_condition : goal.decreases-walk_condition
decreases-walk_condition l = 4 * l.depth

abbrev pub decreases-walk_in : goal.decreases-walk_in
decreases-walk_in l = 4 * l.depth

abbrev pub decreases-walk_long : goal.decreases-walk_long
decreases-walk_long l = 4 * l.depth + 2

abbrev pub decreases-walk_nested : goal.decreases-walk_nested
decreases-walk_nested l = 4 * l.depth + 1

abbrev pub decreases-walk_statements : goal.decreases-walk_statements
decreases-walk_statements l = 4 * l.depth + 3

abbrev pub invariant-walk_any-loop-q : goal.invariant-walk_any-loop-q
invariant-walk_any-loop-q l = Siblings l.m l.depth Branch l.q l.end × Walked l.m l.initial.work l.work l.initial.collected l.collected (text_any (branches_at l.m l.depth (fields_in l.m l.q l.end))) (text_any (branches_at l.m l.depth (fields_in l.m l.from l.end)))

abbrev pub decreases-walk_any-loop-q : goal.decreases-walk_any-loop-q
decreases-walk_any-loop-q l = l.end - l.q

abbrev pub invariant-walk_statements-loop-q : goal.invariant-walk_statements-loop-q
invariant-walk_statements-loop-q l = Siblings l.m l.depth StatementKind l.q l.end × Walked l.m l.initial.work l.work l.initial.collected l.collected (text_in (statements_at l.m l.depth (fields_in l.m l.q l.end))) (text_in (statements_at l.m l.depth (fields_in l.m l.from l.end)))

abbrev pub decreases-walk_statements-loop-q : goal.decreases-walk_statements-loop-q
decreases-walk_statements-loop-q l = l.end - l.q
