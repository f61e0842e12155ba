-- What running a part of the manifest makes of the bytes lent, and what its answer means.
use Rattle.std.specs.Prelude.{ℕ, ◌+◌, ◌-◌, ◌≤◌, ◌≡◌, Bool, true, false, List, length, Result, Ok, Err}
use Rattle.values.specs.declared.Refusal.{Refusal}
use Rattle.wire.specs.Bytes.{byte, end_of, fields_in}
use Rattle.rules.specs.Outcome.{Outcome, done, ◌>>=◌}
use Rattle.rules.specs.Tree.{Statement, Block, ClassDefinition, class_definition, definition}
use Rattle.rules.specs.State.{Entry, State, Context, Known, take_step, free}
use Rattle.rules.specs.Run.{Given, Declaration, of_class, included, run, run_block, declaration, parameter_values, enter_class, taken_defaults}
use Rattle.rules.specs.Compile.{room_in}
use Rattle.places.specs.At.{item_at}
use Rattle.cells.specs.Memory.{state_of, Fine}
use Rattle.memory.specs.Names.{title_of}
use Rattle.evaluator.specs.Answers.{refused_by}
use Rattle.evaluator.specs.Known.{Ready}
use Rattle.attributes.specs.Table.{Gives, Fresh}
use Rattle.provenance.specs.Notes.{Question, Noted}
use Rattle.declarations.specs.Standing.{Set}

-- ---- Before

-- the bytes lent are such that something can run
pub record Able (m w out : List ℕ) (fill : ℕ) : Type 0 where
  pub set : Set m w
  pub fine : Fine w
  pub filled : fill ≤ room_in (length out)

-- they stand for what is known and for the entries es, the latest first; and for what is asked about one of these, with its note
pub record Stage (m w out : List ℕ) (fill : ℕ) (k : Known) (ask : Question) (es : List Entry) : Type 0 where
  pub ready : Ready m w out fill k es
  pub title : title_of w ≡ k.title
  pub noted : Noted w ask es

-- the state: what the output has left is its room
abbrev pub state_with : (w out : List ℕ) → (fill left : ℕ) → List Entry → State
state_with w out fill left es = state_of w es left (room_in (length out) - fill)

-- the 26s of the 27 or 28 at p begin at `first`: after the title, or after the name
pub data GivenFrom (m : List ℕ) (p first : ℕ) : Type 0 where
  after_title : byte m p ≡ 0x27 → first ≡ end_of m (p + 5) → GivenFrom m p first
  after_name : byte m p ≡ 0x28 → first ≡ p + 5 → GivenFrom m p first

-- a table for them, that gives nothing yet
pub record FreshFor (m t : List ℕ) (p : ℕ) : Type 0 where
  pub first : ℕ
  pub begins : GivenFrom m p first
  pub fresh : Fresh m t (fields_in m first (end_of m p))

-- ---- After

-- the answer means the outcome o: its refusal; or the bytes lent stand for its state
pub data Ends (m w out : List ℕ) (left : ℕ) (k : Known) (ask : Question) (o : Outcome State) : Result ℕ Refusal → Type 0 where
  refused_so : {why : Refusal} → o ≡ refused_by why → Ends m w out left k ask o (Err why)
  done_so : {f : ℕ} (es : List Entry) → o ≡ done (state_with w out f left es) → Stage m w out f k ask es → Ends m w out left k ask o (Ok f)

-- something else can run after it
unfoldable pub AbleAfter : (m w out : List ℕ) → Result ℕ Refusal → Type 0
AbleAfter m w out (Ok f) = Able m w out f
AbleAfter m w out (Err why) = Unit {0}

-- in the context c, and in every state that the bytes stand for, the answer is what f gives
pub record Executes (m w w' out out' : List ℕ) (fill left left' : ℕ) (c : Context) (answer : Result ℕ Refusal) (f : Known → Context → State → Outcome State) : Type 0 where
  pub able : AbleAfter m w' out' answer
  pub steps : left' ≤ left
  pub says : (k : Known) (ask : Question) (es : List Entry) → Stage m w out fill k ask es → Ends m w' out' left' k ask (f k c (state_with w out fill left es)) answer

-- ---- What runs

-- a statement at p from its step on, with n levels left for declarations
unfoldable pub begun : (n p : ℕ) → Statement → Known → Context → State → Outcome State
begun n p s k c st = take_step p st >>= λ st'. run k (declaration k n) s c st'

-- a type's body in its context, with n levels left: "runs the body and frees that scope"
unfoldable pub body_run : (n : ℕ) → Block → Known → Context → State → Outcome State
body_run n b k c st = run_block k (declaration k n) b c st >>= λ st'. done (free c.scope st')

-- a class that a 28 asks for, or else a 29 or a child's definition
unfoldable pub asked : (again : Bool) → (place class : ℕ) → List Given → Declaration
asked true p q gs = of_class p q gs
asked false p q gs = included p q

-- ---- Classes

-- the class whose 34 is at p, with n levels left for what it declares: what its definition and the table t give decides what the answer means
pub record Enters (m t w w' out out' : List ℕ) (fill left left' n p : ℕ) (c : Context) (answer : Result ℕ Refusal) : Type 0 where
  pub able : AbleAfter m w' out' answer
  pub steps : left' ≤ left
  pub says : (d : ClassDefinition) (gs vs : List Given) → item_at m p ≡ definition (class_definition d) → Gives t gs → parameter_values d.parameters gs ≡ done vs → (k : Known) (ask : Question) (es : List Entry) → Stage m w out fill k ask es
      → Ends m w' out' left' k ask (enter_class k (declaration k n) d (taken_defaults d.parameters gs) vs c (state_with w out fill left es)) answer
