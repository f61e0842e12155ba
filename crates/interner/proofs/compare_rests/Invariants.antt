-- `compare_rests`: what is left of the strings has the order of what was left at first.
use Prim.Native.Nat.{◌-◌}
use mathlib.Core.Path.{◌≡◌}
use lib.ListN.{length}
use Rattle.interner.specs.Strings.{rest_of, order_of}
use Rattle.interner.proofs.compare_rests.Given as goal

abbrev pub invariant-loop-x : goal.invariant-loop-x
invariant-loop-x l = order_of (rest_of l.text l.one l.p) (rest_of l.text l.other l.q) ≡ order_of (rest_of l.text l.one l.a) (rest_of l.text l.other l.b)

abbrev pub decreases-loop-x : goal.decreases-loop-x
decreases-loop-x l = length l.text - l.p
