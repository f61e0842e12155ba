-- The contexts that the code's scopes and contexts stand for.
use Rattle.labels.specs.declared.Labels.{Labels}
use Rattle.rules.specs.State as rules
use Rattle.cells.specs.Scopes.{scope_of}
use Rattle.cells.specs.Memory.{base_for}
use Rattle.memory.specs.declared.Scope.{Scope}
use Rattle.memory.specs.declared.Context.{Context}

-- a scope, on a path
abbrev pub context_in : Scope → (path : Labels) → rules.Context
context_in s path = record { scope = scope_of s.number; base = base_for s.base_is_node; path = path }

abbrev pub context_of : Context → rules.Context
context_of here = context_in here.scope here.path
