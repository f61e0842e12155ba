-- `search`: the string belongs between two indexes.
use Prim.Native.Nat.{◌-◌}
use Rattle.notation.specs.Quoted.{string_from}
use Rattle.interner.specs.Table.{entry_string}
use Rattle.interner.proofs.Searching.{Narrowed}
use Rattle.interner.proofs.search.Given as goal

abbrev pub invariant-loop-low : goal.invariant-loop-low
invariant-loop-low l = Narrowed (string_from l.text l.at) (entry_string l.text l.table) l.count l.low l.high

abbrev pub decreases-loop-low : goal.decreases-loop-low
decreases-loop-low l = l.high - l.low
