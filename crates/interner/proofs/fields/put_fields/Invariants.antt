-- `put_fields`: the fields that are left, put where the loop is, make all.
use Prim.Native.Nat.{◌+◌, ◌≤◌}
use mathlib.Core.Path.{◌≡◌}
use lib.ListN.{length}
use Rattle.wire.specs.Runs.{over}
use Rattle.interner.proofs.Measuring.{fields_from}
use Rattle.interner.proofs.fields.put_fields.Given as goal

abbrev pub invariant-loop-i : goal.invariant-loop-i
invariant-loop-i l = (over l.out l.end (fields_from l.text l.table l.count l.i) ≡ over l.initial.out 3 (fields_from l.text l.table l.count 0)) × (l.end + length (fields_from l.text l.table l.count l.i) ≡ 3 + length (fields_from l.text l.table l.count 0)) × (l.i ≤ l.count)
