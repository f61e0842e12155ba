-- The checks of what is given to a definition's parameters, and the parameters assigned.
use Rattle.std.specs.Prelude.{ℕ, ◌+◌, ◌<◌, ◌≡◌, List, [], Result, Ok, Err}
use Rattle.std.proofs.Math.Option.{some}
use Rattle.values.specs.declared.Refusal.{Refusal}
use Rattle.values.specs.declared.Labelled.{Labelled}
use Rattle.wire.specs.Bytes.{two, fields_in}
use Rattle.rules.specs.Outcome.{Outcome, done, ◌>>=◌}
use Rattle.rules.specs.Tree.{Parameter}
use Rattle.rules.specs.Run.{Given, named_once, parameters_known, parameter_values, store, store_all, taken_defaults}
use Rattle.rules.specs.Ranges.{Each}
use Rattle.places.specs.At.{parameters_at}
use Rattle.memory.specs.declared.Context.{Context as Here}
use Rattle.evaluator.specs.Answers.{refused_by}
use Rattle.statements.specs.Answers.{ran_as, Keeps, Does}
use Rattle.attributes.specs.Table.{Gives}
use Rattle.parameters.specs.Places.{parameter_value}
use Rattle.rules.specs.State.{Known}
use Rattle.rules.specs.Evaluate.{come_to_all}
use Rattle.memory.specs.Words.{StrikesAs}

-- 11, 12, then 21: the parameters with their values
unfoldable pub check_given : List Parameter → List Given → Outcome (List Given)
check_given ps gs = parameters_known ps gs >>= λ _. parameter_values ps gs >>= λ vs. named_once [] gs >>= λ _. done vs

pub data Checked (ps : List Parameter) (gs : List Given) : Result Unit Refusal → Type 0 where
  refused_so : {why : Refusal} → check_given ps gs ≡ refused_by why → Checked ps gs (Err why)
  checked_so : (vs : List Given) → check_given ps gs ≡ done vs → Checked ps gs (Ok tt)

-- the names of the 33s at these places are below 1,024
abbrev pub SmallNames : List ℕ → List ℕ → Type 0
SmallNames m qs = Each (λ (q : ℕ). two m (q + 3) < 1024) qs

-- the parameter of the 33 at q is assigned, whatever its value is
pub record Stores (m t w w' : List ℕ) (q : ℕ) (here : Here) (answer : Result Unit Refusal) : Type 0 where
  pub keeps : Keeps w w'
  pub does : (x : Labelled) → parameter_value m t q ≡ some x → Does w w' here (ran_as answer) (λ c. store c q (two m (q + 3)) x)

-- the parameters of the 33s from `from` to `to` are assigned, whatever the table gives
pub record Assigns (m t w w' : List ℕ) (from to : ℕ) (here : Here) (answer : Result Unit Refusal) : Type 0 where
  pub keeps : Keeps w w'
  pub does : (gs vs : List Given) → Gives t gs → parameter_values (parameters_at m (fields_in m from to)) gs ≡ done vs → Does w w' here (ran_as answer) (λ c. store_all c vs)

-- the same, unless a default that is assigned is struck out
pub record AssignsAll (m t w w' : List ℕ) (from to : ℕ) (here : Here) (answer : Result Unit Refusal) : Type 0 where
  pub keeps : Keeps w w'
  pub does : (k : Known) (gs vs : List Given) → StrikesAs k w → Gives t gs → parameter_values (parameters_at m (fields_in m from to)) gs ≡ done vs
      → Does w w' here (ran_as answer) (λ c st. come_to_all k (taken_defaults (parameters_at m (fields_in m from to)) gs) >>= λ _. store_all c vs st)
