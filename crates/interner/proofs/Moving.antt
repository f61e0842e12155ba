-- Bytes copied two bytes on.
use Prim.Native.Nat.{ℕ, ◌+◌, ◌-◌, ◌≤◌}
use mathlib.Core.Path.{◌≡◌, ap, ◌∙◌}
use mathlib.Core.List.{List}
use native.Mathlib.Omega.{arith}
use lib.ListN.{length}
use Rattle.std.specs.List.{CopiedTo, SameBelow, SameFrom}
use Rattle.rules.specs.Bytes.{byte}
use Rattle.interner.specs.Table.{Moved}

pub moved_by : {m m' : List ℕ} {from end : ℕ} → from ≤ end → length m' ≡ length m → CopiedTo m m' from (from + 2) (end - from) → SameBelow m m' (from + 2) → SameFrom m m' (from + 2 + (end - from)) → Moved m m' from end
moved_by {m} {m'} {from} {end} l size copied below above = record {
  size = size;
  moved = λ i a b. let same : from + (i + 2 - (from + 2)) ≡ i = omega arith in copied (i + 2) 0 (omega arith) (omega arith) ∙ ap (byte m) same;
  below = λ i a. below i 0 a;
  above = λ i a. above i 0 (omega arith);
}
