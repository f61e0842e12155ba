-- `mark_names`: at the loop's head, what is marked and what is left make the whole.
use mathlib.Core.Path.{◌≡◌}
use lib.ListN.{length}
use Rattle.wire.proofs.Walks.{Along}
use Rattle.attributes.proofs.Repeats.{MarkedTo}
use Rattle.attributes.proofs.mark_names.Given as goal

abbrev pub invariant-loop-q : goal.invariant-loop-q
invariant-loop-q l = Along l.m l.end l.q-iterator.bytes.now l.q-iterator.end × (length l.seen ≡ length l.initial.seen) × MarkedTo l.m l.initial.seen l.seen l.first l.end l.q-iterator.at
