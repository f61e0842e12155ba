-- `count_before`: the text belongs between two numbers.
use Prim.Native.Nat.{◌-◌}
use Rattle.type_list.proofs.Searching.{Narrowed}
use Rattle.type_list.proofs.count_before.Given as goal

abbrev pub invariant-loop-low : goal.invariant-loop-low
invariant-loop-low l = Narrowed l.list l.index l.count l.text l.low l.high

abbrev pub decreases-loop-low : goal.decreases-loop-low
decreases-loop-low l = l.high - l.low
