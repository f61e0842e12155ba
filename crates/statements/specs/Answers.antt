-- What the answers for statements mean, in every state that the bytes stand for.
use Rattle.std.specs.Prelude.{ℕ, ◌≤◌, ◌<◌, ◌≡◌, List, Result, Ok, Err}
use Rattle.wire.specs.Bytes.{byte}
use Rattle.rules.specs.Outcome.{Outcome, done}
use Rattle.rules.specs.Tree.{Statement}
use Rattle.rules.specs.State.{Entry, State, Context, Known}
use Rattle.rules.specs.Run.{Declare, run}
use Rattle.cells.specs.Layout.{words_at, summary_at, rest_of}
use Rattle.cells.specs.Memory.{state_of, names_of, Fine}
use Rattle.memory.specs.declared.Context.{Context as Here}
use Rattle.memory.specs.Contexts.{context_of}
use Rattle.summaries.specs.Summaries.{Summarized}
use Rattle.evaluator.specs.Answers.{refused_by}
use Rattle.evaluator.specs.Known.{Ready}
use Rattle.values.specs.declared.Refusal.{Refusal}

unfoldable pub ran_as : Result Unit Refusal → State → Outcome State
ran_as (Ok tt) st = done st
ran_as (Err why) st = refused_by why

-- from w to w' the names stay, and so do the bytes of others; the invariant is kept
pub record Keeps (w w' : List ℕ) : Type 0 where
  pub names : names_of w' ≡ names_of w
  pub rest : rest_of w' ≡ rest_of w
  pub fine : Fine w → Fine w'

-- from w to w' the names stay, and so do the bytes of others that are in no summary; the summaries stay right of the manifest m, and the invariant is kept
pub record Preserves (m w w' : List ℕ) : Type 0 where
  pub names : names_of w' ≡ names_of w
  pub rest : (k : ℕ) → words_at ≤ k → (summary_at 0 ≤ k → k < summary_at 16 → ⊥) → byte w' k ≡ byte w k
  pub summarized : Summarized m w → Summarized m w'
  pub fine : Fine w → Fine w'

-- an answer is what f gives in a context
pub record Does {A : Type 0} (w w' : List ℕ) (here : Here) (answer : State → Outcome A) (f : Context → State → Outcome A) : Type 0 where
  pub says : (es : List Entry) (n r : ℕ) → answer (state_of w' es n r) ≡ f (context_of here) (state_of w es n r)
  pub keeps : Keeps w w'

-- the statement s runs as the definition says
pub record Runs (m w w' out : List ℕ) (fill : ℕ) (here : Here) (answer : Result Unit Refusal) (s : Statement) : Type 0 where
  pub says : (k : Known) (declare : Declare) (es : List Entry) (n r : ℕ) → Ready m w out fill k es → ran_as answer (state_of w' es n r) ≡ run k declare s (context_of here) (state_of w es n r)
  pub keeps : Keeps w w'
