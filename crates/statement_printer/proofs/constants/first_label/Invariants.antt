-- `first_label`: what the fields from here on give is what they all give.
use Prim.Native.Nat.{◌-◌}
use mathlib.Core.Path.{◌≡◌}
use Rattle.statement_printer.specs.Labels.{first_label}
use Rattle.statement_printer.proofs.constants.first_label.Given as goal

abbrev pub invariant-loop-q : goal.invariant-loop-q
invariant-loop-q l = first_label l.m l.q l.end l.line ≡ first_label l.m l.p l.end l.line

abbrev pub decreases-loop-q : goal.decreases-loop-q
decreases-loop-q l = l.end - l.q
