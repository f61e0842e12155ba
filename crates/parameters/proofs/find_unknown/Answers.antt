-- `find_unknown`: at the loop's head the first unknown name among those that are left is the first of all.
use mathlib.Core.Path.{◌≡◌, refl, subst}
use Rattle.catalog.specs.Finding.{Below}
use Rattle.wire.specs.Bytes.{fields_in}
use Rattle.wire.proofs.Walks.{step_of, along, here, over_end}
use Rattle.attributes.proofs.Repeats.{unmarked}
use Rattle.parameters.proofs.Searches.{Unknown, unknown_here, unknown_further, unknown_nowhere}
use Rattle.parameters.proofs.find_unknown.Goals as goal

pub returns-then-end-first : goal.returns-then-end-first
unfolding Below
returns-then-end-first c = (unknown_nowhere _ _ _ _ _ refl c.if-end-first.true, tt)

pub loop-q-init : goal.loop-q-init
loop-q-init c =
    let a = c.args in
    let at : a.first ≡ c.into_iter-q-iterator.result.at = cc in
    (record { bytes = cc; end = cc }, subst (Unknown a.m.now (fields_in a.m.now a.from a.to) a.first a.end) at refl)

pub is_marked-requires : goal.is_marked-requires
is_marked-requires c = c.requires.1

pub returns-then-not-is_marked : goal.returns-then-not-is_marked
unfolding Below
returns-then-not-is_marked c =
    let a = c.args in
    let inv = c.loop-q.invariant in
    let it = c.in-Some.ensures.steps in
    let step = step_of inv.0 it in
    let left = subst (Unknown a.m.now (fields_in a.m.now a.from a.to) a.first a.end) (here inv.0 it) inv.1 in
    (unknown_here _ _ _ _ _ left step.before c.two_at.ensures (c.is_marked.ensures (c.mark_names.ensures (unmarked 1024))) c.if-not-is_marked.true-raw, step.before)

pub loop-q-preserved : goal.loop-q-preserved
loop-q-preserved c =
    let a = c.args in
    let inv = c.loop-q.invariant in
    let it = c.in-Some.ensures.steps in
    let step = step_of inv.0 it in
    let left = subst (Unknown a.m.now (fields_in a.m.now a.from a.to) a.first a.end) (here inv.0 it) inv.1 in
    (along inv.0 it, unknown_further _ _ _ _ _ left step.before c.two_at.ensures (c.is_marked.ensures (c.mark_names.ensures (unmarked 1024))) c.if-not-is_marked.false-raw step.next)

pub returns : goal.returns
unfolding Below
returns c = (unknown_nowhere _ _ _ _ _ c.loop-q.invariant.1 (over_end c.loop-q.invariant.0 c.in-None.ensures.steps), tt)
