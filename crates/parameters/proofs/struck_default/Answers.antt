-- `struck_default`: at the loop's head the answer among the parameters that are left is the whole answer.
use mathlib.Core.Path.{◌≡◌, sym, ap, ◌∙◌}
use native.Mathlib.Omega.{arith}
use Rattle.patterns.specs.Struck.{Near}
use Rattle.patterns.proofs.Struck.{none_struck}
use Rattle.wire.proofs.Walks.{step_of, along, here, over_end}
use Rattle.parameters.proofs.Defaults.{StruckFrom, defaults_end, defaults_here, defaults_next}
use Rattle.parameters.proofs.struck_default.Goals as goal

pub returns-then-none_struck_out : goal.returns-then-none_struck_out
unfolding Near
returns-then-none_struck_out c = (none_struck _ (sym c.none_struck_out.ensures ∙ c.if-none_struck_out.true) _, tt)

pub loop-q-init : goal.loop-q-init
loop-q-init c =
    let a = c.args in
    let at : a.from ≡ c.into_iter-q-iterator.result.at = cc in
    (record { bytes = cc; end = cc }, ap (StruckFrom a.m.now a.table.now a.work.now a.to) (sym at))

pub takes_struck-requires : goal.takes_struck-requires
takes_struck-requires c = (omega (arith, (step_of c.loop-q.invariant.0 c.in-Some.ensures.steps).before, c.requires.0), omega arith)

pub returns-then-takes_struck : goal.returns-then-takes_struck
unfolding Near
returns-then-takes_struck c =
    let a = c.args in
    let inv = c.loop-q.invariant in
    let it = c.in-Some.ensures.steps in
    let step = step_of inv.0 it in
    let left = ap (StruckFrom a.m.now a.table.now a.work.now a.to) (sym (here inv.0 it)) ∙ inv.1 in
    (defaults_here _ _ _ _ _ step.before _ c.takes_struck.ensures.0 c.if-takes_struck.true ∙ left, c.takes_struck.ensures.1 c.if-takes_struck.true)

pub loop-q-preserved : goal.loop-q-preserved
loop-q-preserved c =
    let a = c.args in
    let inv = c.loop-q.invariant in
    let it = c.in-Some.ensures.steps in
    let step = step_of inv.0 it in
    let left = ap (StruckFrom a.m.now a.table.now a.work.now a.to) (sym (here inv.0 it)) ∙ inv.1 in
    (along inv.0 it, defaults_next _ _ _ _ _ step.before _ c.takes_struck.ensures.0 c.if-takes_struck.false step.next ∙ left)

pub returns : goal.returns
unfolding Near
returns c = (defaults_end _ _ _ _ _ (over_end c.loop-q.invariant.0 c.in-None.ensures.steps) ∙ c.loop-q.invariant.1, tt)
