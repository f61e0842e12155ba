-- What an answer says of an expression.
use Rattle.std.specs.Prelude.{ℕ, ◌≡◌, List}
use Rattle.labels.specs.declared.Labels.{Labels}
use Rattle.rules.specs.State.{Entry, State, Context, Known}
use Rattle.cells.specs.Memory.{state_of}
use Rattle.memory.specs.declared.Scope.{Scope}
use Rattle.memory.specs.Contexts.{context_in}
use Rattle.evaluator.specs.Known.{Ready}

-- an answer is what the definition gives on every path, which no expression sees, and in every state that the bytes stand for (`Tells` says so of outcomes)
pub record Gives {A : Type 0} (m w out : List ℕ) (fill : ℕ) (scope : Scope) (answer : A) (run : Known → Context → State → A) : Type 0 where
  pub says : (k : Known) (path : Labels) (es : List Entry) (n r : ℕ) → Ready m w out fill k es → answer ≡ run k (context_in scope path) (state_of w es n r)
