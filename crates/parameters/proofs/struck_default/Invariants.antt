-- `struck_default`: at the loop's head the answer among the parameters that are left is the whole answer.
use mathlib.Core.Path.{◌≡◌}
use Rattle.wire.proofs.Walks.{Along}
use Rattle.parameters.proofs.Defaults.{StruckFrom}
use Rattle.parameters.proofs.struck_default.Given as goal

abbrev pub invariant-loop-q : goal.invariant-loop-q
invariant-loop-q l = Along l.m l.to l.q-iterator.bytes.now l.q-iterator.end × (StruckFrom l.m l.table l.work l.to l.q-iterator.at ≡ StruckFrom l.m l.table l.work l.to l.from)
