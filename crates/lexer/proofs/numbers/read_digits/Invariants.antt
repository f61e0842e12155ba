-- `read_digits`: each digit goes on with the number.
use Prim.Native.Nat.{ℕ, ◌-◌, ◌≤◌}
use mathlib.Core.Path.{◌≡◌}
use mathlib.Core.Bool.{Bool}
use lib.ListN.{length}
use Rattle.notation.specs.Lexing.{in_number}
use Rattle.lexer.specs.Found.{lex_from}
use Rattle.lexer.proofs.numbers.read_digits.Given as goal

abbrev pub invariant-loop-i : goal.invariant-loop-i
invariant-loop-i l = (l.at ≤ l.i) × (l.i ≤ length l.text) × ((p k : ℕ) (s : Bool) → lex_from l.text l.at k (in_number p k s l.first) ≡ lex_from l.text l.i k (in_number p k s l.n))

abbrev pub decreases-loop-i : goal.decreases-loop-i
decreases-loop-i l = length l.text - l.i
