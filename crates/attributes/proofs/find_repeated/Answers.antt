-- `find_repeated`: at the loop's head no name up to there is repeated, and the names up to there are marked.
use Rattle.std.proofs.Common.{◌≡◌, refl, subst, replicate, arith, rules}
use Rattle.catalog.specs.Finding.{Below}
use Rattle.wire.proofs.Walks.{step_of, along, here, over_end}
use Rattle.attributes.specs.Names.{Marked}
use Rattle.attributes.proofs.Repeats.{Single, single_begins, repeated_here, repeated_further, repeated_nowhere, marked_begins, marked_further}
use Rattle.attributes.proofs.find_repeated.Goals as goal

pub returns-then-end-first : goal.returns-then-end-first
unfolding Below
returns-then-end-first c = (repeated_nowhere (single_begins _ _ _) c.if-end-first.true, tt)

pub loop-q-init : goal.loop-q-init
loop-q-init c =
    let a = c.args in
    let at : a.first ≡ c.into_iter-q-iterator.result.at = cc in
    (record { bytes = cc; end = cc }, refl, subst (Single a.m.now a.first a.end) at (single_begins _ _ _), subst (Marked a.m.now (replicate 1024 0) a.first) at (marked_begins _ 1024 _))

pub is_again-requires : goal.is_again-requires
is_again-requires c = let step = step_of c.loop-q.invariant.0 c.in-Some.ensures.steps in (omega (arith, step.before), omega (arith, c.loop-q.invariant.1))

pub returns-then-is_again : goal.returns-then-is_again
unfolding Below
returns-then-is_again c =
    let a = c.args in
    let inv = c.loop-q.invariant in
    let it = c.in-Some.ensures.steps in
    let step = step_of inv.0 it in
    let single = subst (Single a.m.now a.first a.end) (here inv.0 it) inv.2 in
    let marked = subst (Marked a.m.now c.loop-q.seen a.first) (here inv.0 it) inv.3 in
    (repeated_here single step.before c.two_at.ensures (c.is_again.ensures.0 marked) c.if-is_again.true, step.before)

pub loop-q-preserved : goal.loop-q-preserved
loop-q-preserved c =
    let a = c.args in
    let inv = c.loop-q.invariant in
    let it = c.in-Some.ensures.steps in
    let step = step_of inv.0 it in
    let single = subst (Single a.m.now a.first a.end) (here inv.0 it) inv.2 in
    let marked = subst (Marked a.m.now c.loop-q.seen a.first) (here inv.0 it) inv.3 in
    let read = c.two_at.ensures in
    let again = c.is_again.ensures in
    (along inv.0 it, search rules, repeated_further single step.before read (again.0 marked) c.if-is_again.false step.next, marked_further c.loop-q.seen c.is_again.new.seen single marked read again.1 step.next)

pub returns : goal.returns
unfolding Below
returns c = (repeated_nowhere c.loop-q.invariant.2 (over_end c.loop-q.invariant.0 c.in-None.ensures.steps), tt)
