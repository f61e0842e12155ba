-- Conditions up to the block that runs: the test, its set, the marks and the trail. That `run` is this and then the block is in proofs/Conditions.antt.
use Rattle.std.specs.Prelude.{ℕ, ◌+◌, ◌≤◌, ◌≡◌, Bool, ◌||◌, List, length, Result, Ok, Err}
use Rattle.labels.specs.declared.Labels.{Labels}
use Rattle.values.specs.declared.Labelled.{Labelled}
use Rattle.wire.specs.Bytes.{end_of}
use Rattle.rules.specs.Outcome.{Outcome, done, ◌>>=◌, at}
use Rattle.rules.specs.Arithmetic.{boolean_in}
use Rattle.rules.specs.Tree.{Expression, place_of, Block, Constant}
use Rattle.rules.specs.State.{Entry, State, Context, Known}
use Rattle.rules.specs.Evaluate.{evaluate}
use Rattle.rules.specs.Run.{assigns_in, declares_in, with_path_and_trail, after_test}
use Rattle.rules.specs.declared.Kind.TheVariants.{Statement as StatementKind}
use Rattle.places.specs.At.{expression_at, statement_at, block_at, StandsAs}
use Rattle.cells.specs.Memory.{state_of}
use Rattle.memory.specs.declared.Context.{Context as Here}
use Rattle.memory.specs.Contexts.{context_of}
use Rattle.branches.specs.Texts.{Text, text_of, Small}
use Rattle.summaries.specs.Summaries.{Summarized}
use Rattle.evaluator.specs.Answers.{refused_by}
use Rattle.evaluator.specs.Known.{Ready}
use Rattle.values.specs.declared.Refusal.{Refusal}
use Rattle.statements.specs.declared.Branch.{Branch}
use Rattle.statements.specs.Answers.{Preserves}
use Rattle.memory.specs.Words.{struck_in}

-- after a test: what it chose, its set, and the state in which the block runs
pub record Passed (A : Type 0) : Type 0 where
  pub chosen : A
  pub set : Labels
  pub state : State

abbrev pub passed : {A : Type 0} → A → Labels → State → Passed A
passed a k st = record { chosen = a; set = k; state = st }

-- the marks and the trail after the test of a condition that has a text
unfoldable pub after_text : (p : ℕ) → Text → Labels → Context → State → Outcome State
after_text p t k c st = after_test p c t.assigns t.declares k st

-- the test of an if: its place p, its condition e, its blocks a and b

unfoldable pub after_if : (p : ℕ) → (a b : Block) → Labels → Context → State → Outcome State
after_if p a b k c st = after_test p c (λ n. assigns_in a n || assigns_in b n) (declares_in a || declares_in b) k st

-- its condition, at l, is x
unfoldable pub decide_if : (p l : ℕ) → (a b : Block) → Labelled → Context → State → Outcome (Passed Bool)
decide_if p l a b x c st = at l (boolean_in x.value) >>= λ t. after_if p a b (with_path_and_trail c st x.labels) c st >>= λ st'. done (passed t (with_path_and_trail c st x.labels) st')

unfoldable pub test_if : (p : ℕ) → Expression → (a b : Block) → Known → Context → State → Outcome (Passed Bool)
test_if p e a b k c st = evaluate k c st e >>= λ x. decide_if p (place_of e) a b x c st

-- the if at p, whose parts have b levels left
unfoldable pub test_if_at : List ℕ → (b p : ℕ) → Known → Context → State → Outcome (Passed Bool)
test_if_at m b p = test_if p (expression_at m b (p + 3)) (block_at m b (end_of m (p + 3))) (block_at m b (end_of m (end_of m (p + 3))))

unfoldable pub tested_as : Result Branch Refusal → State → Outcome (Passed Bool)
tested_as (Ok b) st = done (passed b.yes b.set st)
tested_as (Err why) st = refused_by why

-- ---- A test, of an if or of a case

-- a statement stands at p, with d levels left, and its text can be summarized
pub record Testable (m w : List ℕ) (d p : ℕ) : Type 0 where
  pub manifest : length m ≤ 65535
  pub memory : 65536 ≤ length w
  pub summarized : Summarized m w
  pub stands : StandsAs m d StatementKind p
  pub small : Small (text_of (statement_at m d p))

-- an answer is what f gives in a context
pub record Decides {A : Type 0} (m w w' : List ℕ) (here : Here) (answer : State → Outcome A) (f : Context → State → Outcome A) : Type 0 where
  pub says : (es : List Entry) (n r : ℕ) → answer (state_of w' es n r) ≡ f (context_of here) (state_of w es n r)
  pub keeps : Preserves m w w'

-- the same, where what is struck out counts
pub record Comes {A : Type 0} (m w w' : List ℕ) (here : Here) (answer : State → Outcome A) (f : Known → Context → State → Outcome A) : Type 0 where
  pub says : (k : Known) → ((v : Constant) → k.struck_out v ≡ struck_in w v) → (es : List Entry) (n r : ℕ) → answer (state_of w' es n r) ≡ f k (context_of here) (state_of w es n r)
  pub keeps : Preserves m w w'

-- an answer is what the test gives, in every state that the bytes stand for
pub record Tests {A : Type 0} (m w w' out : List ℕ) (fill : ℕ) (here : Here) (answer : State → Outcome A) (test : Known → Context → State → Outcome A) : Type 0 where
  pub says : (k : Known) (es : List Entry) (n r : ℕ) → Ready m w out fill k es → answer (state_of w' es n r) ≡ test k (context_of here) (state_of w es n r)
  pub keeps : Preserves m w w'
