-- `copy_into`: what is left to store at the loop's head makes the whole.
use mathlib.Core.List.{List}
use mathlib.Core.Path.{◌≡◌, sym, ap, ◌∙◌}
use Prim.Native.Nat.{ℕ, ◌+◌, ◌≤◌, ◌<◌}
use native.Mathlib.Numerals.{add-one}
use native.Mathlib.Omega.{arith}
use borrow.Author.Tests.{ltb-true, ltb-false}
use lib.ListN.{length, get_or, set, drop, length-drop}
use lib.Seq.{drop-cons}
use Rattle.wire.specs.Runs.{over}
use Rattle.wire.proofs.Laws.{same_over_length, over_more, over_past, over_none}
use Rattle.wire.proofs.copy_into.Goals as goal

-- one byte, in the words of the loop
copy_step : (m : List ℕ) (p : ℕ) (bs : List ℕ) (i : ℕ) → i < length bs → over (set m p (get_or bs i 0)) (p + 1) (drop (i + 1) bs) ≡ over m p (drop i bs)
copy_step m p bs i h = over_more m p (get_or bs i 0) (drop (i + 1) bs) ∙ ap (over m p) (rw (add-one, drop-cons bs i 0))

copy_done : (m : List ℕ) (p : ℕ) (bs : List ℕ) (i : ℕ) → length bs ≤ i → over m p (drop i bs) ≡ m
copy_done m p bs i h = over_none m p (drop i bs) (omega (arith, length-drop i bs))

pub overflow_add-p : goal.overflow_add-p
overflow_add-p c = omega (arith, ltb-true, same_over_length _ _ _ _ _ _ c.loop-i.invariant)

pub loop-i-preserved : goal.loop-i-preserved
loop-i-preserved c =
    let l = c.loop-i in
    copy_step l.out l.p c.args.from.now l.i c.loop-i-test.true ∙ l.invariant

pub shape_of-out-else-p-out : goal.shape_of-out-else-p-out
shape_of-out-else-p-out c = same_over_length _ _ _ _ _ _ c.loop-i.invariant

pub returns-else-p-out : goal.returns-else-p-out
returns-else-p-out c = let l = c.loop-i in sym (over_past l.out l.p _ (ltb-false _ _ c.if-p-out.false-raw)) ∙ l.invariant

pub shape_of-out-after-loop-i : goal.shape_of-out-after-loop-i
shape_of-out-after-loop-i c = same_over_length _ _ _ _ _ _ c.loop-i.invariant

pub returns-after-loop-i : goal.returns-after-loop-i
returns-after-loop-i c = let l = c.loop-i in sym (copy_done l.out l.p c.args.from.now l.i c.loop-i-test.false) ∙ l.invariant
