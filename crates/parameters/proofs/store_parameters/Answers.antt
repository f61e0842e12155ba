-- `store_parameters`: at the loop's head the parameters that are left, stored from here, are all of them stored from the start.
use mathlib.Core.Path.{◌≡◌, refl}
use native.Mathlib.Omega.{arith}
use borrow.Author.Rules.{rules}
use Rattle.wire.proofs.Walks.{step_of, along, here, over_end}
use Rattle.parameters.proofs.Storing.{storing_begins, storing_here, here_small, store_refused, store_further, store_ends}
use Rattle.parameters.proofs.store_parameters.Goals as goal

pub loop-q-init : goal.loop-q-init
loop-q-init c =
    let at : c.args.parameters.first ≡ c.into_iter-q-iterator.result.at = cc in
    (record { bytes = cc; end = cc }, refl, storing_here at (storing_begins _ _ _ _ _ _ c.requires.1.1))

pub store_parameter-requires : goal.store_parameter-requires
store_parameter-requires c =
    let inv = c.loop-q.invariant in
    let it = c.in-Some.ensures.steps in
    let step = step_of inv.0 it in
    (omega (arith, step.before, c.requires.0.0), (omega (arith, inv.1, c.requires.0.1.0), here_small (storing_here (here inv.0 it) inv.2) step.before))

pub returns-in_err-store_parameter : goal.returns-in_err-store_parameter
returns-in_err-store_parameter c =
    let inv = c.loop-q.invariant in
    let it = c.in-Some.ensures.steps in
    store_refused (storing_here (here inv.0 it) inv.2) (step_of inv.0 it).before c.store_parameter.ensures c.in_err-store_parameter.was (grind arith)

pub loop-q-preserved : goal.loop-q-preserved
loop-q-preserved c =
    let inv = c.loop-q.invariant in
    let it = c.in-Some.ensures.steps in
    let step = step_of inv.0 it in
    (along inv.0 it, search rules, store_further (storing_here (here inv.0 it) inv.2) step.before c.store_parameter.ensures c.in_ok-store_parameter.was step.next)

pub returns : goal.returns
returns c = store_ends c.loop-q.invariant.2 (over_end c.loop-q.invariant.0 c.in-None.ensures.steps)
