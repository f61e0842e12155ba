-- `some_names`: what the names from here on give is what they all give.
use mathlib.Core.Path.{◌≡◌}
use Rattle.rules.specs.Bytes.{fields_in}
use Rattle.wire.proofs.Walks.{Along, left}
use Rattle.syntax.specs.Nodes.{some_names}
use Rattle.syntax.proofs.nodes.some_names.Given as goal

abbrev pub invariant-loop-q : goal.invariant-loop-q
invariant-loop-q l = Along l.m l.e l.q-iterator.bytes.now l.q-iterator.end × (some_names l.m l.device (left l.q-iterator) ≡ some_names l.m l.device (fields_in l.m l.from l.e))
