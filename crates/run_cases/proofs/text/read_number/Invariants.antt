-- `read_number`: the number so far and the digits left make the whole.
use mathlib.Core.Path.{◌≡◌}
use Prim.Native.Nat.{◌≤◌}
use lib.ListN.{drop}
use Rattle.run_cases.specs.Text.{number_up_to}
use Rattle.run_cases.proofs.text.read_number.Given as goal

abbrev pub invariant-loop-byte : goal.invariant-loop-byte
invariant-loop-byte l = (number_up_to l.most (drop l.byte-index l.text) l.n ≡ number_up_to l.most l.text 0) × (l.n ≤ l.most)
