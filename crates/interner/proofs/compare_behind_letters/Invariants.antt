-- `compare_behind_letters`: behind the letters that they share, strings have the order of the whole ones.
use Prim.Native.Nat.{◌-◌}
use mathlib.Core.Path.{◌≡◌}
use lib.ListN.{length}
use Rattle.interner.specs.Strings.{rest_of, order_of}
use Rattle.interner.proofs.compare_behind_letters.Given as goal

abbrev pub invariant-loop-p : goal.invariant-loop-p
invariant-loop-p l = order_of (rest_of l.text l.one l.p) (rest_of l.text l.other l.q) ≡ order_of (rest_of l.text l.one l.a) (rest_of l.text l.other l.b)

abbrev pub decreases-loop-p : goal.decreases-loop-p
decreases-loop-p l = length l.text - l.p
