-- `marks_up`: the loop keeps this: the marks joined so far, with those of the scopes from here on, are the marks of all.
use Prim.Native.Nat.{◌-◌}
use Rattle.cells.specs.Memory.{cells_of, classes_of, base_for}
use Rattle.cells.specs.Scopes.{scope_of}
use Rattle.rules.specs.Evaluate.{marks_in}
use Rattle.rules.specs.State.{upward}
use Rattle.labels.specs.Sets.{◌∪◌}
use mathlib.Core.Path.{◌≡◌}
use Rattle.provenance.proofs.marks_up.Given as goal

abbrev pub invariant-loop : goal.invariant-loop
invariant-loop l = l.marks ∪ marks_in (cells_of l.work) l.name (upward (l.tries - l.counter) (classes_of l.work) (base_for l.scope.base_is_node) (scope_of l.at)) ≡ marks_in (cells_of l.work) l.name (upward l.tries (classes_of l.work) (base_for l.scope.base_is_node) (scope_of l.scope.number))
