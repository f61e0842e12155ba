-- `items`: at the loop's head, what is written and the items left give the whole.
use mathlib.Core.Path.{◌≡◌}
use lib.ListN.{length}
use Rattle.rules.specs.Compile.{string_at}
use Rattle.syntax.specs.Strings.{string_texts}
use Rattle.item_printer.proofs.PrintedItems.{ItemsTo}
use Rattle.wire.proofs.Walks.{Along}
use Rattle.item_printer.proofs.items.Given as goal

abbrev pub invariant-loop-p : goal.invariant-loop-p
invariant-loop-p l = ItemsTo (string_at (string_texts l.m.bytes.now)) l.m.bytes.now l.first l.p-iterator.at l.initial.out l.out l.initial.at l.at × (length l.out ≡ length l.initial.out) × Along l.m.bytes.now (length l.m.bytes.now) l.p-iterator.bytes.now l.p-iterator.end
