-- `put_number`: what is left to store at the loop's head makes the whole.
use mathlib.Core.List.{List}
use mathlib.Core.Path.{◌≡◌, sym, ap, ◌∙◌}
use Prim.Native.Nat.{ℕ, ◌+◌, ◌-◌, ◌*◌, ◌/◌, ◌%◌, ◌^◌, ◌≤◌, ◌<◌}
use native.Mathlib.Omega.{arith}
use borrow.Author.Tests.{ltb-true, ltb-false}
use lib.ListN.{set}
use Rattle.wire.specs.Numbers.{high_bytes}
use Rattle.wire.specs.Runs.{over}
use Rattle.wire.proofs.Laws.{same_over_length, over_more, over_past, over_none, high_length, high_more}
use Rattle.wire.proofs.put_number.Goals as goal

-- one byte, in the words of the loop
put_step : (m : List ℕ) (p k n : ℕ) → 0 < k → over (set m p (n / 2 ^ (8 * (k - 1)) % 256)) (p + 1) (high_bytes (k - 1) n) ≡ over m p (high_bytes k n)
put_step m p k n h = over_more m p (n / 2 ^ (8 * (k - 1)) % 256) (high_bytes (k - 1) n) ∙ ap (over m p) (sym (high_more k n h))

put_done : (m : List ℕ) (p k n : ℕ) → k ≤ 0 → over m p (high_bytes k n) ≡ m
put_done m p k n h = over_none m p (high_bytes k n) (omega (arith, high_length k n))

pub overflow_add-p : goal.overflow_add-p
overflow_add-p c = omega (arith, ltb-true, same_over_length _ _ _ _ _ _ c.loop-left.invariant.1)

pub loop-left-preserved : goal.loop-left-preserved
loop-left-preserved c =
    let l = c.loop-left in
    (omega arith, put_step l.out l.p l.left c.args.n c.loop-left-test.true ∙ l.invariant.1)

pub shape_of-out-else-p-out : goal.shape_of-out-else-p-out
shape_of-out-else-p-out c = same_over_length _ _ _ _ _ _ c.loop-left.invariant.1

pub returns-else-p-out : goal.returns-else-p-out
returns-else-p-out c = let l = c.loop-left in sym (over_past l.out l.p _ (ltb-false _ _ c.if-p-out.false-raw)) ∙ l.invariant.1

pub shape_of-out-after-loop-left : goal.shape_of-out-after-loop-left
shape_of-out-after-loop-left c = same_over_length _ _ _ _ _ _ c.loop-left.invariant.1

pub returns-after-loop-left : goal.returns-after-loop-left
returns-after-loop-left c = let l = c.loop-left in sym (put_done l.out l.p l.left c.args.n c.loop-left-test.false) ∙ l.invariant.1
