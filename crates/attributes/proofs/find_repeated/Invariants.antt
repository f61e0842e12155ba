-- `find_repeated`: at the loop's head no name up to there is repeated, and the names up to there are marked.
use mathlib.Core.Path.{◌≡◌}
use lib.ListN.{length}
use Rattle.wire.proofs.Walks.{Along}
use Rattle.attributes.specs.Names.{Marked}
use Rattle.attributes.proofs.Repeats.{Single}
use Rattle.attributes.proofs.find_repeated.Given as goal

abbrev pub invariant-loop-q : goal.invariant-loop-q
invariant-loop-q l = Along l.m l.end l.q-iterator.bytes.now l.q-iterator.end × (length l.seen ≡ 1024) × Single l.m l.first l.end l.q-iterator.at × Marked l.m l.seen l.first l.q-iterator.at
