-- `read_up`: the loop keeps this: with the set as it is, what the scopes from here on give is what all give with the set as it was.
use Rattle.evaluator.specs.Known.{variable_in}
use Rattle.cells.specs.Memory.{cells_of, classes_of, base_for}
use Rattle.cells.specs.Scopes.{scope_of}
use Rattle.rules.specs.Evaluate.{read_in}
use Rattle.rules.specs.State.{upward}
use Rattle.rules.specs.Outcome.{joining}
use Rattle.labels.specs.Words.{labels_in, Grows}
use Prim.Native.Nat.{◌-◌}
use mathlib.Core.Path.{◌≡◌}
use Rattle.evaluator.proofs.read_up.Given as goal

abbrev pub invariant-loop : goal.invariant-loop
invariant-loop l = Grows l.initial.set l.set × (joining (labels_in l.set) (read_in l.p (cells_of l.work) l.name (upward (l.variable.tries - l.counter) (classes_of l.work) (base_for l.variable.scope.base_is_node) (scope_of l.at))) ≡ joining (labels_in l.initial.set) (variable_in l.work l.p l.variable))
