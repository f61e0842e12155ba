-- `last_field`: at the loop's head, the fields from q on are the last of those before the block, or it is the block.
use Prim.Native.Nat.{◌-◌}
use mathlib.Core.Path.{◌≡◌}
use Rattle.rules.specs.Bytes.{end_of}
use Rattle.item_printer.proofs.PrintedItems.{LastFrom}
use Rattle.item_printer.proofs.last_field.Given as goal

abbrev pub invariant-loop-next : goal.invariant-loop-next
invariant-loop-next l = LastFrom l.m l.from l.end l.q × (l.next ≡ end_of l.m l.q)

abbrev pub decreases-loop-next : goal.decreases-loop-next
decreases-loop-next l = l.end - l.next
