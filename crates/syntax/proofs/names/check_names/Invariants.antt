-- `check_names`: what the fields from here on give is what they all give.
use mathlib.Core.Path.{◌≡◌}
use Prim.Native.Nat.{◌-◌}
use lib.ListN.{length}
use Rattle.rules.specs.Check.{names_known, places_in}
use Rattle.syntax.proofs.names.check_names.Given as goal

abbrev pub invariant-loop-p : goal.invariant-loop-p
invariant-loop-p l = names_known l.m l.strings (places_in l.m l.p (length l.m)) ≡ names_known l.m l.strings (places_in l.m l.initial.p (length l.m))

abbrev pub decreases-loop-p : goal.decreases-loop-p
decreases-loop-p l = length l.m - l.p
