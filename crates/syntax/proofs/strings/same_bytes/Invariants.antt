-- `same_bytes`: what is left to compare gives the answer for the whole.
use mathlib.Core.Path.{◌≡◌}
use lib.ListN.{drop}
use Rattle.rules.specs.Compile.{same_bytes}
use Rattle.syntax.proofs.strings.same_bytes.Given as goal

abbrev pub invariant-loop-i : goal.invariant-loop-i
invariant-loop-i l = same_bytes (drop l.i l.x) (drop l.i l.y) ≡ same_bytes l.x l.y
