-- `do_actions`: none is left, the first one is the only one, it stops, or the others follow it.
use native.Mathlib.Omega.{arith}
use Rattle.parser.proofs.Sequence.{none_done, none_read, first_stopped, stopped_reads, then_others, then_reads, able_first, stands_next, only_done, only_reads}
use borrow.Author.Rules.{rules}
use Rattle.parser.proofs.actions.+do_actions.Goals as goal

pub returns-then-actions-eq0 : goal.returns-then-actions-eq0
returns-then-actions-eq0 t c = (λ types. none_done types _ _ _ _ _ _ c.if-actions-eq0.true, none_read _ _ _ c.if-actions-eq0.true)

pub do_action-first-requires : goal.do_action-first-requires
do_action-first-requires t c = (able_first c.requires.types _ _ _ _ _ _ c.if-actions-eq0.false (omega arith) c.requires.stands, omega arith)

pub returns-then-actions-lt256 : goal.returns-then-actions-lt256
returns-then-actions-lt256 t c = (λ types. only_done _ _ _ c.if-actions-eq0.false (omega arith) (omega arith) types _ _ _ _ _ _ (c.do_action-first.ensures.0 types), only_reads _ _ _ c.if-actions-eq0.false (omega arith) (omega arith) _ c.do_action-first.ensures.1)

pub do_actions-requires : goal.do_actions-requires
do_actions-requires t c =
    let p = c.requires in
    let n = c.if-actions-eq0.false in
    (omega arith, record { types = p.types; stands = stands_next p.types _ _ _ _ _ _ n (omega arith) p.stands _ _ _ _ c.in-Some.is (c.do_action-first.ensures.0 p.types) (search rules) })

pub returns : goal.returns
returns t c =
    let n = c.if-actions-eq0.false in
    let small = c.ranges.actions in
    let first = c.in-Some.is in
    (λ types. then_others types _ _ _ _ _ _ n (omega (arith, small)) _ _ _ _ _ _ _ first (c.do_action-first.ensures.0 types) (c.do_actions.ensures.0 types), then_reads _ _ _ n (omega (arith, small)) _ _ _ first c.do_action-first.ensures.1 c.do_actions.ensures.1)

pub returns-in_default : goal.returns-in_default
returns-in_default t c = (λ types. first_stopped types _ _ _ _ _ _ c.if-actions-eq0.false (omega arith) _ _ _ c.in_default.is (c.do_action-first.ensures.0 types), stopped_reads _ _ _ c.if-actions-eq0.false (omega arith))
