-- `put_quoted`: at the loop's head the bytes up to the index are written.
use Prim.Native.Nat.{◌≤◌}
use lib.ListN.{length, take}
use Rattle.notation.specs.Layout.{escaped_all}
use Rattle.token_writer.specs.Writing.{Wrote}
use Rattle.token_writer.proofs.pieces.put_quoted.Given as goal

abbrev pub invariant-loop-byte : goal.invariant-loop-byte
invariant-loop-byte l = (l.byte-index ≤ length l.string) × Wrote l.initial.out l.out l.at l.end (escaped_all (take l.byte-index l.string))
