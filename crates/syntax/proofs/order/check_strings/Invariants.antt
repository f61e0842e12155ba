-- `check_strings`: what the strings from here on give is what they all give.
use mathlib.Core.Path.{◌≡◌}
use Rattle.rules.specs.Bytes.{fields_in}
use Rattle.rules.specs.Check.{rising}
use Rattle.syntax.proofs.Rise.{rising_behind}
use Rattle.wire.proofs.Walks.{left}
use Rattle.syntax.proofs.order.check_strings.Given as goal

abbrev pub invariant-loop-q : goal.invariant-loop-q
invariant-loop-q l = rising_behind l.m l.last (left l.q-iterator) ≡ rising l.m (fields_in l.m 3 l.e)
