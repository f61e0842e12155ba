-- `put_word`: what is left to store at the loop's head makes the whole.
use mathlib.Core.Path.{◌≡◌, refl, sym, ap, ◌∙◌}
use mathlib.Core.List.{List}
use Prim.Native.Nat.{ℕ, suc, ◌+◌, ◌-◌, ◌%◌, ◌/◌, ◌≤◌}
use native.Mathlib.Nat.{add-zero}
use native.Mathlib.Omega.{arith}
use lib.ListN.{length-set, set}
use Rattle.wire.specs.Runs.{over}
use Rattle.labels.specs.Bytes.{low_bytes}
use Rattle.labels.proofs.put_word.Goals as goal

-- one store, in the words of the loop
store : (m : List ℕ) (at i v : ℕ) → i + 1 ≤ 8 → over (set m (at + i) (v % 256)) (at + (i + 1)) (low_bytes (8 - (i + 1)) (v / 256)) ≡ over m (at + i) (low_bytes (8 - i) v)
unfolding low_bytes over
store m at i v h =
    let e : at + (i + 1) ≡ suc (at + i) = omega arith in
    let f : 8 - i ≡ suc (8 - (i + 1)) = omega arith in
    ap (λ (k : ℕ). over (set m (at + i) (v % 256)) k (low_bytes (8 - (i + 1)) (v / 256))) e
    ∙ sym (ap (λ (k : ℕ). over m (at + i) (low_bytes k v)) f)

done : (m : List ℕ) (at i v : ℕ) → 8 ≤ i → m ≡ over m (at + i) (low_bytes (8 - i) v)
unfolding low_bytes over
done m at i v h = let e : 0 ≡ 8 - i = omega arith in ap (λ (k : ℕ). over m (at + i) (low_bytes k v)) e

pub loop-i-init : goal.loop-i-init
loop-i-init c = (omega arith, refl, rw add-zero)

pub loop-i-preserved : goal.loop-i-preserved
loop-i-preserved c =
    let l = c.loop-i in
    let at = c.args.at in
    (omega arith, length-set l.out (at + l.i) (l.left % 256) ∙ l.invariant.1, store l.out at l.i l.left (omega arith) ∙ l.invariant.2)

pub shape_of-out : goal.shape_of-out
shape_of-out c = c.loop-i.invariant.1

pub returns : goal.returns
returns c = let l = c.loop-i in done l.out c.args.at l.i l.left (omega arith) ∙ l.invariant.2
