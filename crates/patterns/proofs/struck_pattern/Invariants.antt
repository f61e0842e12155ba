-- `struck_pattern`: at the loop's head the answer among the patterns that are left is the whole answer.
use mathlib.Core.Path.{◌≡◌}
use Rattle.wire.proofs.Walks.{Along}
use Rattle.patterns.proofs.Struck.{StruckFrom}
use Rattle.patterns.proofs.struck_pattern.Given as goal

abbrev pub invariant-loop-q : goal.invariant-loop-q
invariant-loop-q l = Along l.m l.end l.q-iterator.bytes.now l.q-iterator.end × (StruckFrom l.m l.work l.end l.x l.q-iterator.at ≡ StruckFrom l.m l.work l.end l.x l.from)
