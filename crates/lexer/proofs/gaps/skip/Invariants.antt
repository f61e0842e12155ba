-- `skip`: the tokens from the loop's place on are those from the first place on.
use Prim.Native.Nat.{◌≤◌, ◌-◌}
use mathlib.Core.Path.{◌≡◌}
use mathlib.Core.Bool.{Bool}
use lib.ListN.{length}
use Rattle.lexer.specs.Found.{tokens_from}
use Rattle.lexer.proofs.gaps.skip.Given as goal

abbrev pub invariant-loop-at : goal.invariant-loop-at
invariant-loop-at l = (l.initial.at ≤ l.at) × (l.at ≤ length l.text) × (l.initial.line ≤ l.line) × (l.line ≤ l.at) × ((o : Bool) → tokens_from l.text l.initial.at l.initial.line o ≡ tokens_from l.text l.at l.line o)

abbrev pub decreases-loop-at : goal.decreases-loop-at
decreases-loop-at l = length l.text - l.at
