-- `may_end`: whether the parts left may be missing is whether they all may.
use mathlib.Core.Path.{sym, ◌∙◌}
use native.Mathlib.Omega.{arith}
use Rattle.format.proofs.Steps.{nothing_needed, one_needed, names_needed, others_decide}
use Rattle.format.proofs.order.may_end.Goals as goal

pub returns-in-16 : goal.returns-in-16
returns-in-16 c = one_needed _ (omega arith) (sym c.how_many.ensures ∙ c.in-16.is) ∙ c.loop-left.invariant.1

pub returns-in-64 : goal.returns-in-64
returns-in-64 c = names_needed _ (omega arith) (sym c.how_many.ensures ∙ c.in-64.is) ∙ c.loop-left.invariant.1

pub loop-left-preserved : goal.loop-left-preserved
loop-left-preserved c =
    (omega arith, others_decide _ (omega arith) (λ k. absurd (omega arith)) (λ k. absurd (omega arith)) ∙ c.loop-left.invariant.1)

pub returns : goal.returns
returns c = nothing_needed _ c.loop-left-test.false ∙ c.loop-left.invariant.1
