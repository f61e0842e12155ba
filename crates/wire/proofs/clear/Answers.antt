-- `clear`: what is left to store at the loop's head makes the whole.
use mathlib.Core.List.{List}
use mathlib.Core.Path.{◌≡◌, sym, ap, ◌∙◌}
use Prim.Native.Nat.{ℕ, suc, ◌+◌, ◌-◌, ◌≤◌, ◌<◌}
use native.Mathlib.Omega.{arith}
use borrow.Author.Tests.{ltb-false}
use lib.ListN.{set}
use Rattle.wire.specs.Runs.{over, zeros}
use Rattle.wire.proofs.Laws.{same_over_length, over_more, over_past, over_none, zeros_length}
use Rattle.wire.proofs.clear.Goals as goal

-- one zero, in the words of the loop
zero_step : (m : List ℕ) (p e : ℕ) → p < e → over (set m p 0) (p + 1) (zeros (e - (p + 1))) ≡ over m p (zeros (e - p))
unfolding zeros
zero_step m p e h = let more : suc (e - (p + 1)) ≡ e - p = omega arith in over_more m p 0 (zeros (e - (p + 1))) ∙ ap (λ (k : ℕ). over m p (zeros k)) more

zero_done : (m : List ℕ) (p e : ℕ) → e ≤ p → over m p (zeros (e - p)) ≡ m
zero_done m p e h = over_none m p (zeros (e - p)) (omega (arith, zeros_length (e - p)))

pub loop-p-preserved : goal.loop-p-preserved
loop-p-preserved c = let l = c.loop-p in zero_step l.out l.p c.args.to (omega arith) ∙ l.invariant

pub shape_of-out-else-p-out : goal.shape_of-out-else-p-out
shape_of-out-else-p-out c = same_over_length _ _ _ _ _ _ c.loop-p.invariant

pub returns-else-p-out : goal.returns-else-p-out
returns-else-p-out c = let l = c.loop-p in sym (over_past l.out l.p _ (ltb-false _ _ c.if-p-out.false-raw)) ∙ l.invariant

pub shape_of-out-after-loop-p : goal.shape_of-out-after-loop-p
shape_of-out-after-loop-p c = same_over_length _ _ _ _ _ _ c.loop-p.invariant

pub returns-after-loop-p : goal.returns-after-loop-p
returns-after-loop-p c = let l = c.loop-p in sym (zero_done l.out l.p c.args.to (omega arith)) ∙ l.invariant
