-- `follow`: what is left of the log leads from where the offset is now.
use mathlib.Core.Path.{◌≡◌}
use Prim.Native.Nat.{◌≤◌}
use Rattle.text_places.specs.Log.{followed, log_in}
use Rattle.text_places.proofs.log.follow.Given as goal

abbrev pub invariant-loop-n : goal.invariant-loop-n
invariant-loop-n l = (l.n ≤ l.entries) × (followed (log_in l.log l.entries) l.offset ≡ followed (log_in l.log l.n) l.at)
