-- `attributes`: at the loop's head, what is written and the attributes left give the whole.
use mathlib.Core.Path.{◌≡◌}
use lib.ListN.{length}
use Rattle.rules.specs.Compile.{string_at}
use Rattle.rules.specs.declared.Kind.TheVariants.{Attribute}
use Rattle.places.specs.At.{attributes_at}
use Rattle.syntax.specs.Strings.{string_texts}
use Rattle.notation.specs.Print.{printed_attribute}
use Rattle.statement_printer.proofs.PrintedEntries.{EntriesTo}
use Rattle.wire.proofs.Walks.{Along}
use Rattle.statement_printer.proofs.attributes.attributes.Given as goal

abbrev pub invariant-loop-q : goal.invariant-loop-q
invariant-loop-q l = EntriesTo (printed_attribute (string_at (string_texts l.m.bytes.now))) (attributes_at l.m.bytes.now l.depth) l.m.bytes.now l.depth Attribute l.first l.end l.q-iterator.at l.later l.initial.out l.out l.initial.at l.at × (length l.out ≡ length l.initial.out) × Along l.m.bytes.now l.end l.q-iterator.bytes.now l.q-iterator.end
