-- `put_digits`: what is left to store at the loop's head makes the whole.
use mathlib.Core.Path.{◌≡◌}
use lib.ListN.{length}
use Rattle.values.proofs.Digits.{store_digits}
use Rattle.values.proofs.decimal.put_digits.Given as goal

abbrev pub invariant-loop-i : goal.invariant-loop-i
invariant-loop-i l = (length l.out ≡ length l.initial.out) × (store_digits l.at l.i l.rest l.out ≡ store_digits l.at l.count l.n l.initial.out)
