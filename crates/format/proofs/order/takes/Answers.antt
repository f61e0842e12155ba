-- `takes`: one law for each way through it.
use mathlib.Core.Path.{sym, ◌∙◌}
use native.Mathlib.Omega.{arith}
use Rattle.format.proofs.Steps.{one_taken, one_refused, many_taken, none_more, some_taken, others_passed, over_passed}
use Rattle.format.proofs.order.takes.Goals as goal

pub returns-then-many-eq-ONE : goal.returns-then-many-eq-ONE
returns-then-many-eq-ONE c = one_refused _ _ (omega arith) (c.allows.ensures _ c.requires) (sym c.how_many-many.ensures ∙ c.if-many-eq-ONE.true) c.if-not-allows.true

pub returns-then-not-allows : goal.returns-then-not-allows
returns-then-not-allows c = others_passed _ _ (omega arith) (c.allows.ensures _ c.requires) (λ k. c.if-many-eq-NAMES.false (c.how_many-many.ensures ∙ k)) (λ k. c.if-many-eq-ONE.false (c.how_many-many.ensures ∙ k)) c.if-not-allows.true

pub returns-in-16 : goal.returns-in-16
returns-in-16 c = one_taken _ _ (omega arith) (c.allows.ensures _ c.requires) (sym c.how_many-many.ensures ∙ c.in-16.is) c.if-not-allows.false

pub returns-in-48 : goal.returns-in-48
returns-in-48 c = many_taken _ _ (omega arith) (c.allows.ensures _ c.requires) (sym c.how_many-many.ensures ∙ c.in-48.is) c.if-not-allows.false

pub returns-then-parts-lt-COUNT : goal.returns-then-parts-lt-COUNT
returns-then-parts-lt-COUNT c = none_more _ _ (omega arith) (sym c.how_many-many.ensures ∙ c.in-32.is) c.if-parts-lt-COUNT.true

pub returns-else-parts-lt-COUNT : goal.returns-else-parts-lt-COUNT
returns-else-parts-lt-COUNT c = some_taken _ _ (omega arith) (c.allows.ensures _ c.requires) (sym c.how_many-many.ensures ∙ c.in-32.is) c.if-parts-lt-COUNT.false c.if-not-allows.false

pub returns-in_default : goal.returns-in_default
returns-in_default c = over_passed _ _ (omega arith) (λ k. c.if-many-eq-NAMES.false (c.how_many-many.ensures ∙ k)) (λ k. absurd (omega arith)) (λ k. absurd (omega arith)) (λ k. absurd (omega arith))
