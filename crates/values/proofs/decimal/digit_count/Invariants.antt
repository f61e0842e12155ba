-- `digit_count`: at the loop's head the digits passed and those of the rest make all.
use mathlib.Core.Path.{◌≡◌}
use Prim.Native.Nat.{◌+◌, ◌-◌, ◌^◌, ◌≤◌, ◌<◌}
use Rattle.values.proofs.Digits.{count_from}
use Rattle.values.proofs.decimal.digit_count.Given as goal

abbrev pub invariant-loop-rest : goal.invariant-loop-rest
invariant-loop-rest l = (1 ≤ l.count) × (l.count ≤ 20) × (l.rest < 10 ^ (21 - l.count)) × (count_from (21 - l.count) l.rest + l.count ≡ count_from 20 l.n + 1)

abbrev pub decreases-loop-rest : goal.decreases-loop-rest
decreases-loop-rest l = l.rest
