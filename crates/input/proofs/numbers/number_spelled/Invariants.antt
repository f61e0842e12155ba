-- `number_spelled`: the number so far and the digits left make the whole.
use mathlib.Core.Path.{◌≡◌}
use Prim.Native.Nat.{◌≤◌}
use lib.ListN.{drop}
use Rattle.input.specs.Numbers.{spelled}
use Rattle.input.proofs.numbers.number_spelled.Given as goal

abbrev pub invariant-loop-byte : goal.invariant-loop-byte
invariant-loop-byte l = record {
  whole : spelled l.most (drop l.byte-index l.digits) l.n ≡ spelled l.most l.digits 0;
  low : l.n ≤ l.most;
}
