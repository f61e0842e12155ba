-- `read_string`: the bytes passed are a part of the string.
use Prim.Native.Nat.{◌-◌, ◌≤◌}
use lib.ListN.{length}
use Rattle.lexer.proofs.FoundStrings.{StringPart}
use Rattle.lexer.proofs.strings.read_string.Given as goal

abbrev pub invariant-loop-i : goal.invariant-loop-i
invariant-loop-i l = (l.at ≤ l.i) × (l.i ≤ length l.text) × (l.line ≤ l.here) × (l.here ≤ l.i) × (l.n ≤ l.i) × StringPart l.text l.at l.line l.quote l.i l.here l.n

abbrev pub decreases-loop-i : goal.decreases-loop-i
decreases-loop-i l = length l.text - l.i
