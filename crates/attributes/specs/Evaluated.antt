-- The 26s of a declaration evaluated into a table, and before them the title of a 27.
use Rattle.std.specs.Prelude.{ℕ, ◌+◌, List, Result, Ok, Err}
use Rattle.values.specs.declared.Refusal.{Refusal}
use Rattle.values.specs.declared.Labelled.{Labelled}
use Rattle.wire.specs.Bytes.{end_of, fields_in}
use Rattle.rules.specs.Outcome.{Outcome, done, ◌>>=◌, at}
use Rattle.rules.specs.Arithmetic.{string_in}
use Rattle.rules.specs.Tree.{Expression, AttributeField}
use Rattle.rules.specs.State.{State, Context, Known}
use Rattle.rules.specs.Evaluate.{evaluate}
use Rattle.rules.specs.Run.{Given, evaluate_all}
use Rattle.places.specs.At.{expression_at, attributes_at}
use Rattle.memory.specs.declared.Scope.{Scope}
use Rattle.evaluator.specs.Answers.{refused_by}
use Rattle.evaluator.specs.Known.{Tells}
use Rattle.attributes.specs.Names.{Alike}
use Rattle.attributes.specs.Table.{Gives}

-- the 26s from `first` to `end`, with d levels, were evaluated into the table t: the first refusal, or all of them
pub data GivenIn (m w out : List ℕ) (fill : ℕ) (scope : Scope) (d first end : ℕ) (t : List ℕ) : Result Unit Refusal → Type 0 where
  not_given : {why : Refusal} → Tells m w out fill scope (refused_by why) (λ k c st. evaluate_all k c st (attributes_at m d (fields_in m first end))) → GivenIn m w out fill scope d first end t (Err why)
  given : (gs : List Given) → Gives t gs → Alike m gs (fields_in m first end) → Tells m w out fill scope (done gs) (λ k c st. evaluate_all k c st (attributes_at m d (fields_in m first end)))
      → GivenIn m w out fill scope d first end t (Ok tt)

-- a title and what else is given
pub record Titled : Type 0 where
  pub title : Labelled
  pub given : List Given

-- the title e, which is a string, then the 26s: "evaluates title and attributes"
unfoldable pub titled_all : Expression → (place : ℕ) → List AttributeField → Known → Context → State → Outcome Titled
titled_all e l ats k c st = evaluate k c st e >>= λ x. at l (string_in x.value) >>= λ _. evaluate_all k c st ats >>= λ gs. done (record { title = x; given = gs })

-- the same of the 27 at p, whose parts have b levels
unfoldable pub titled_at : List ℕ → (b p : ℕ) → Known → Context → State → Outcome Titled
titled_at m b p = titled_all (expression_at m b (p + 5)) (p + 5) (attributes_at m b (fields_in m (end_of m (p + 5)) (end_of m p)))

pub data TitledIn (m w out : List ℕ) (fill : ℕ) (scope : Scope) (b p : ℕ) (t : List ℕ) : Result Labelled Refusal → Type 0 where
  not_titled : {why : Refusal} → Tells m w out fill scope (refused_by why) (titled_at m b p) → TitledIn m w out fill scope b p t (Err why)
  titled : {x : Labelled} (gs : List Given) → Gives t gs → Alike m gs (fields_in m (end_of m (p + 5)) (end_of m p)) → Tells m w out fill scope (done (record { title = x; given = gs })) (titled_at m b p)
      → TitledIn m w out fill scope b p t (Ok x)
