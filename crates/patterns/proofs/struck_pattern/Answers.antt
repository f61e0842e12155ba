-- `struck_pattern`: at the loop's head the answer among the patterns that are left is the whole answer.
use mathlib.Core.Path.{◌≡◌, sym, ap, ◌∙◌}
use Prim.Native.Nat.{ℕ}
use native.Mathlib.Omega.{arith}
use Rattle.wire.proofs.Walks.{step_of, along, here, over_end}
use Rattle.patterns.specs.Struck.{Near}
use Rattle.patterns.proofs.Struck.{StruckFrom, none_struck, struck_end, struck_default, struck_here, struck_match, struck_next}
use Rattle.patterns.proofs.struck_pattern.Goals as goal

pub returns-then-none_struck_out : goal.returns-then-none_struck_out
unfolding Near
returns-then-none_struck_out c = (none_struck _ (sym c.none_struck_out.ensures ∙ c.if-none_struck_out.true) _, tt)

pub loop-q-init : goal.loop-q-init
loop-q-init c =
    let at : c.into_iter-q-iterator.result.at ≡ c.args.from = cc in
    (record { bytes = cc; end = cc }, ap (λ (p : ℕ). StruckFrom c.args.m.now c.args.work.now c.args.end c.args.x p) at)

pub loop-q-preserved-then-tag-eq27 : goal.loop-q-preserved-then-tag-eq27
loop-q-preserved-then-tag-eq27 c =
    let so = c.loop-q.invariant.0 in
    let h = c.in-Some.ensures.steps in
    let step = step_of so h in
    (along so h, struck_default _ _ _ _ _ step.before c.byte_at-tag.ensures c.if-tag-eq27.true step.next ∙ rw (here so h) at c.loop-q.invariant.1)

pub returns-then-is_struck_out : goal.returns-then-is_struck_out
unfolding Near
returns-then-is_struck_out c =
    let so = c.loop-q.invariant.0 in
    let h = c.in-Some.ensures.steps in
    (struck_here _ _ _ _ _ (step_of so h).before c.byte_at-tag.ensures c.if-tag-eq27.false c.byte_at.ensures c.is_struck_out.ensures.0 c.if-is_struck_out.true ∙ rw (here so h) at c.loop-q.invariant.1, c.is_struck_out.ensures.1 c.if-is_struck_out.true)

pub equals_constant-requires : goal.equals_constant-requires
equals_constant-requires c = let step = step_of c.loop-q.invariant.0 c.in-Some.ensures.steps in (c.byte_at-tag.ensures, omega (arith, step.before))

pub returns-then-equals_constant : goal.returns-then-equals_constant
unfolding Near
returns-then-equals_constant c =
    let so = c.loop-q.invariant.0 in
    let h = c.in-Some.ensures.steps in
    (struck_match _ _ _ _ _ (step_of so h).before c.byte_at-tag.ensures c.if-tag-eq27.false c.byte_at.ensures c.is_struck_out.ensures.0 c.equals_constant.ensures c.if-is_struck_out.false c.if-equals_constant.true ∙ rw (here so h) at c.loop-q.invariant.1, tt)

pub loop-q-preserved : goal.loop-q-preserved
loop-q-preserved c =
    let so = c.loop-q.invariant.0 in
    let h = c.in-Some.ensures.steps in
    let step = step_of so h in
    (along so h, struck_next _ _ _ _ _ step.before c.byte_at-tag.ensures c.if-tag-eq27.false c.byte_at.ensures c.is_struck_out.ensures.0 c.equals_constant.ensures c.if-is_struck_out.false c.if-equals_constant.false step.next ∙ rw (here so h) at c.loop-q.invariant.1)

pub returns : goal.returns
unfolding Near
returns c = (struck_end _ _ _ _ _ (over_end c.loop-q.invariant.0 c.in-None.ensures.steps) ∙ c.loop-q.invariant.1, tt)
