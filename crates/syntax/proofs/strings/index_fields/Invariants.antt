-- `index_fields`: what is left to store at the loop's head makes the whole; those counted and those left are all of them.
use mathlib.Core.Path.{◌≡◌}
use Prim.Native.Nat.{◌+◌, ◌*◌}
use lib.ListN.{length}
use Rattle.wire.specs.Runs.{over}
use Rattle.wire.proofs.Walks.{left}
use Rattle.rules.specs.Bytes.{fields_in}
use Rattle.syntax.specs.Strings.{place_bytes}
use Rattle.syntax.proofs.strings.index_fields.Given as goal

abbrev pub invariant-loop-q : goal.invariant-loop-q
invariant-loop-q l = (over l.table (2 * l.n) (place_bytes (left l.q-iterator)) ≡ over l.initial.table 0 (place_bytes (fields_in l.m l.from l.e))) × (l.n + length (left l.q-iterator) ≡ length (fields_in l.m l.from l.e))
