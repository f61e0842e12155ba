-- `devices`: at the loop's head, what is written and the devices left give the whole.
use mathlib.Core.Path.{◌≡◌}
use lib.ListN.{length}
use Rattle.rules.specs.Compile.{string_at}
use Rattle.rules.specs.declared.Kind.TheVariants.{Device}
use Rattle.places.specs.At.{names_at}
use Rattle.syntax.specs.Strings.{string_texts}
use Rattle.notation.specs.Print.{printed_device}
use Rattle.statement_printer.proofs.PrintedEntries.{EntriesTo}
use Rattle.wire.proofs.Walks.{Along}
use Rattle.item_printer.proofs.devices.Given as goal

abbrev pub invariant-loop-q : goal.invariant-loop-q
invariant-loop-q l = EntriesTo (printed_device (string_at (string_texts l.m.bytes.now))) (names_at l.m.bytes.now) l.m.bytes.now 31 Device l.first l.end l.q-iterator.at l.later l.initial.out l.out l.initial.at l.at × (length l.out ≡ length l.initial.out) × Along l.m.bytes.now l.end l.q-iterator.bytes.now l.q-iterator.end
