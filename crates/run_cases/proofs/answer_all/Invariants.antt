-- `answer_all`: what is kept fits the buffer, which keeps its length.
use mathlib.Core.Path.{◌≡◌}
use Prim.Native.Nat.{◌≤◌}
use lib.ListN.{length}
use Rattle.run_cases.proofs.answer_all.Given as goal

abbrev pub invariant-loop : goal.invariant-loop
invariant-loop g l = record {
  kept_fits : l.kept ≤ length l.input;
  same_length : length l.input ≡ length l.initial.input;
}
