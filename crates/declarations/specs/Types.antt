-- A declaration of a type up to its body.
use Rattle.std.specs.Prelude.{ℕ, ◌+◌, ◌≡◌, List, Result, Ok, Err}
use Rattle.values.specs.declared.Labelled.{Labelled}
use Rattle.values.specs.declared.Reason.TheVariants.{Unknown}
use Rattle.wire.specs.Bytes.{two, fields_in}
use Rattle.rules.specs.Outcome.{Outcome, done, ◌>>=◌, or_refuse}
use Rattle.rules.specs.Tree.{Block}
use Rattle.rules.specs.State.{Entry, State, Context, Known}
use Rattle.rules.specs.Evaluate.{find_type, come_to_all}
use Rattle.rules.specs.Run.{Given, parameter_values, store_title, store_all, taken_defaults}
use Rattle.rules.specs.declared.Kind.TheVariants.{Block as BlockKind}
use Rattle.places.specs.At.{parameters_at, block_at, StandsAs}
use Rattle.cells.specs.Memory.{state_of}
use Rattle.memory.specs.declared.Context.{Context as Here}
use Rattle.memory.specs.Contexts.{context_of}
use Rattle.memory.specs.Names.{title_of}
use Rattle.evaluator.specs.Answers.{refused_by}
use Rattle.evaluator.specs.Known.{KnownIn}
use Rattle.statements.specs.Answers.{ran_as, Keeps, Does}
use Rattle.attributes.specs.Names.{Alike}
use Rattle.attributes.specs.Table.{Gives}
use Rattle.parameters.specs.Checked.{check_given}
use Rattle.declarations.specs.Standing.{NamesKnown}
use Rattle.memory.specs.Words.{StrikesAs}
use Rattle.values.specs.declared.Refusal.{Refusal}

-- the body that runs, and the state in which it does
pub record Entered : Type 0 where
  pub body : Block
  pub state : State

-- 9, 11, 12 and 21; then "assigns title and parameters in a new scope", that of the context in which the body runs
unfoldable pub start_type : Known → (place type : ℕ) → (title : Labelled) → List Given → (inside : Context) → State → Outcome Entered
start_type k p t x gs c st = do
  d ← or_refuse (find_type t k.definitions) Unknown p
  vs ← check_given d.parameters gs
  st₁ ← store_title k.title c p x st
  _ ← come_to_all k (taken_defaults d.parameters gs)
  st₂ ← store_all c vs st₁
  done (record { body = d.body; state = st₂ })

-- the title goes to its variable, and the parameters of the 33s from `from` to `to` are assigned, in one scope
pub record Fills (m t w w' : List ℕ) (p from to : ℕ) (x : Labelled) (here : Here) (answer : Result Unit Refusal) : Type 0 where
  pub keeps : Keeps w w'
  pub does : (k : Known) (gs vs : List Given) → StrikesAs k w → Gives t gs → parameter_values (parameters_at m (fields_in m from to)) gs ≡ done vs
      → Does w w' here (ran_as answer) (λ c st. store_title (title_of w) c p x st >>= λ st₁. come_to_all k (taken_defaults (parameters_at m (fields_in m from to)) gs) >>= λ _. store_all c vs st₁)

unfoldable pub started_as : List ℕ → Result ℕ Refusal → State → Outcome Entered
started_as m (Ok b) st = done (record { body = block_at m 31 b; state = st })
started_as m (Err why) st = refused_by why

unfoldable pub BodyStands : List ℕ → Result ℕ Refusal → Type 0
BodyStands m (Ok b) = StandsAs m 31 BlockKind b × NamesKnown m b
BodyStands m (Err why) = Unit {0}

-- the 27 at p, whose title is x and whose 26s, from `first` to `end`, are in the table t
pub record StartsType (m t w w' : List ℕ) (p first end : ℕ) (x : Labelled) (here : Here) (answer : Result ℕ Refusal) : Type 0 where
  pub stands : BodyStands m answer
  pub keeps : Keeps w w'
  pub says : (k : Known) (es : List Entry) (s r : ℕ) (gs : List Given) → KnownIn m w k → title_of w ≡ k.title → Gives t gs → Alike m gs (fields_in m first end)
      → started_as m answer (state_of w' es s r) ≡ start_type k p (two m (p + 3)) x gs (context_of here) (state_of w es s r)
