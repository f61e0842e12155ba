-- `is_next`: past the slots, used, the first, or after one that was used.
use mathlib.Core.Bool.{false≢true}
use native.Mathlib.Omega.{arith}
use Rattle.cells.proofs.SlotReads.{next_turn, not_zero}
use Rattle.cells.proofs.is_next.Goals as goal

pub returns-then-i-ge-SLOTS : goal.returns-then-i-ge-SLOTS
returns-then-i-ge-SLOTS c = λ no. absurd (false≢true no)

pub returns-then-work-i-ne0 : goal.returns-then-work-i-ne0
returns-then-work-i-ne0 c = λ no. absurd (false≢true no)

pub returns-then-i-eq0 : goal.returns-then-i-eq0
returns-then-i-eq0 c = λ _. next_turn _ _ (omega arith) c.if-work-i-ne0.false (λ l. absurd (omega (arith, c.if-i-eq0.true)))

pub returns : goal.returns
returns c = λ yes. next_turn _ _ (omega arith) c.if-work-i-ne0.false (λ l. not_zero yes)
