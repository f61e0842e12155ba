-- The walk: a block looks at its statements one level down, and an if or a case at its blocks. The measure is the depth; the statements of a block come before
use Rattle.places.specs.At.{branches_at, statements_at, Siblings}
use Rattle.rules.specs.declared.Kind.TheVariants.{Statement as StatementKind, Branch}
use Rattle.wire.specs.Bytes.{fields_in}
use Rattle.branches.specs.Texts.{text_in, text_any}
use Rattle.branches.proofs.Texts.{Collecting}
use Prim.Native.Nat.{◌+◌, ◌-◌, ◌*◌}
use Rattle.branches.proofs.+collect_any_collect_at_collect_both_collect_in_collect_statements.Given as goal

abbrev pub decreases-collect_any : goal.decreases-collect_any
decreases-collect_any l = 2 * l.depth

abbrev pub decreases-collect_at : goal.decreases-collect_at
decreases-collect_at l = 2 * l.depth

abbrev pub decreases-collect_both : goal.decreases-collect_both
decreases-collect_both l = 2 * l.depth + 1

abbrev pub decreases-collect_in : goal.decreases-collect_in
decreases-collect_in l = 2 * l.depth

abbrev pub decreases-collect_statements : goal.decreases-collect_statements
decreases-collect_statements l = 2 * l.depth + 1

abbrev pub invariant-collect_any-loop-q : goal.invariant-collect_any-loop-q
invariant-collect_any-loop-q l = Siblings l.m l.depth Branch l.q l.end × Collecting l.initial.collected l.collected (text_any (branches_at l.m l.depth (fields_in l.m l.q l.end))) (text_any (branches_at l.m l.depth (fields_in l.m l.from l.end)))

abbrev pub decreases-collect_any-loop-q : goal.decreases-collect_any-loop-q
decreases-collect_any-loop-q l = l.end - l.q

abbrev pub invariant-collect_statements-loop-q : goal.invariant-collect_statements-loop-q
invariant-collect_statements-loop-q l = Siblings l.m l.depth StatementKind l.q l.end × Collecting l.initial.collected l.collected (text_in (statements_at l.m l.depth (fields_in l.m l.q l.end))) (text_in (statements_at l.m l.depth (fields_in l.m l.from l.end)))

abbrev pub decreases-collect_statements-loop-q : goal.decreases-collect_statements-loop-q
decreases-collect_statements-loop-q l = l.end - l.q
