-- `table_size`: the fields counted and those left make the whole field.
use Prim.Native.Nat.{◌+◌, ◌*◌, ◌≤◌}
use mathlib.Core.Path.{◌≡◌}
use lib.ListN.{length}
use Rattle.interner.specs.TableField.{table_bytes}
use Rattle.interner.proofs.Measuring.{fields_from}
use Rattle.interner.proofs.fields.table_size.Given as goal

abbrev pub invariant-loop-i : goal.invariant-loop-i
invariant-loop-i l = (l.size + length (fields_from l.text l.table l.count l.i) ≡ length (table_bytes l.text l.table l.count)) × (l.size ≤ 3 + 65538 * l.i) × (l.i ≤ l.count)
