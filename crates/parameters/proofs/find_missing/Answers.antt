-- `find_missing`: at the loop's head the first without a value among those that are left is the first of all.
use mathlib.Core.Path.{◌≡◌, refl, subst}
use mathlib.Core.Bool.{true}
use Rattle.std.specs.Prelude.{None, is_some}
use native.Mathlib.Omega.{arith}
use Rattle.catalog.specs.Finding.{Below}
use Rattle.wire.proofs.Walks.{step_of, along, here, over_end}
use Rattle.parameters.proofs.Searches.{Missing, missing_here, missing_further, missing_nowhere}
use Rattle.parameters.proofs.find_missing.Goals as goal

pub loop-q-init : goal.loop-q-init
loop-q-init c =
    let a = c.args in
    let at : a.from ≡ c.into_iter-q-iterator.result.at = cc in
    (record { bytes = cc; end = cc }, subst (Missing a.m.now a.table.now a.from a.to) at refl)

pub value_of-requires : goal.value_of-requires
value_of-requires c = omega (arith, (step_of c.loop-q.invariant.0 c.in-Some.ensures.steps).before, c.requires)

pub returns-then-is_none : goal.returns-then-is_none
unfolding Below
returns-then-is_none c =
    let a = c.args in
    let inv = c.loop-q.invariant in
    let it = c.in-Some.ensures.steps in
    let step = step_of inv.0 it in
    let left = subst (Missing a.m.now a.table.now a.from a.to) (here inv.0 it) inv.1 in
    let nothing : c.value_of.result ≡ None = grind arith in
    (missing_here _ _ _ _ _ left step.before c.value_of.ensures nothing, step.before)

pub loop-q-preserved : goal.loop-q-preserved
loop-q-preserved c =
    let a = c.args in
    let inv = c.loop-q.invariant in
    let it = c.in-Some.ensures.steps in
    let step = step_of inv.0 it in
    let left = subst (Missing a.m.now a.table.now a.from a.to) (here inv.0 it) inv.1 in
    let there : is_some c.value_of.result ≡ true = grind arith in
    (along inv.0 it, missing_further _ _ _ _ _ left step.before c.value_of.ensures there step.next)

pub returns : goal.returns
unfolding Below
returns c = (missing_nowhere _ _ _ _ _ c.loop-q.invariant.1 (over_end c.loop-q.invariant.0 c.in-None.ensures.steps), tt)
