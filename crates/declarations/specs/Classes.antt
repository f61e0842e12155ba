-- A declaration of a class: its checks, and then what happens up to its body.
use Rattle.std.specs.Prelude.{ℕ, ◌+◌, ◌<◌, ◌≡◌, Bool, ◌&&◌, List, Result, Ok, Err}
use Rattle.std.proofs.Math.Option.{Option, none, some}
use Rattle.values.specs.declared.Refusal.{Refusal}
use Rattle.values.specs.declared.Reason.TheVariants.{Unknown, DeclaredAgain}
use Rattle.wire.specs.Bytes.{byte, two, fields_in}
use Rattle.rules.specs.Outcome.{Outcome, done, ◌>>=◌, refuse_if, or_refuse}
use Rattle.rules.specs.Tree.{Block, Parent, ClassDefinition, class_definition, definition, Constant}
use Rattle.rules.specs.State.{Scope, class_scope, Base, base_scope, DeclaredClass, Entry, State, Context, Known, is_declared, mark_declared}
use Rattle.rules.specs.Evaluate.{find_class, come_to_all}
use Rattle.rules.specs.Run.{Given, parameter_values, store_all, base_under, placed_under, in_class, taken_defaults}
use Rattle.rules.specs.declared.Kind.TheVariants.{Item, Block as BlockKind}
use Rattle.places.specs.At.{item_at, block_at, StandsAs}
use Rattle.cells.specs.Memory.{state_of}
use Rattle.memory.specs.declared.Context.{Context as Here}
use Rattle.memory.specs.Contexts.{context_of}
use Rattle.evaluator.specs.Answers.{refused_by}
use Rattle.evaluator.specs.Known.{KnownIn}
use Rattle.statements.specs.Answers.{Keeps}
use Rattle.attributes.specs.Names.{Alike}
use Rattle.attributes.specs.Table.{Gives}
use Rattle.parameters.specs.Checked.{check_given}
use Rattle.declarations.specs.declared.ClassBody.{ClassBody}
use Rattle.declarations.specs.Standing.{NamesKnown}
use Rattle.memory.specs.Words.{StrikesAs}

-- ---- The checks

-- a class's definition and its parameters' values
pub record Checked : Type 0 where
  pub definition : ClassDefinition
  pub values : List Given

-- 9; for a 28 also 10 (`again`); 11, 12 and 21
unfoldable pub check_class : Known → (again : Bool) → (place class : ℕ) → List Given → State → Outcome Checked
check_class k again p q gs st = do
  d ← or_refuse (find_class q k.definitions) Unknown p
  _ ← refuse_if (again && is_declared q st) DeclaredAgain p
  vs ← check_given d.parameters gs
  done (record { definition = d; values = vs })

-- a 34 stands at p
pub record ClassStands (m : List ℕ) (p : ℕ) : Type 0 where
  pub stands : StandsAs m 32 Item p
  pub tag : byte m p ≡ 0x34
  pub names : NamesKnown m p

unfoldable pub FoundStands : List ℕ → Result ℕ Refusal → Type 0
FoundStands m (Ok p) = ClassStands m p
FoundStands m (Err why) = Unit {0}

-- the answer means the outcome o
pub data FoundAs (m : List ℕ) (o : Outcome Checked) : Result ℕ Refusal → Type 0 where
  refused_so : {why : Refusal} → o ≡ refused_by why → FoundAs m o (Err why)
  found_so : {p : ℕ} (d : ClassDefinition) (vs : List Given) → item_at m p ≡ definition (class_definition d) → o ≡ done (record { definition = d; values = vs }) → FoundAs m o (Ok p)

-- the class q, declared at p, whose 26s, from `first` to `end`, are in the table t
pub record ChecksClass (m t w : List ℕ) (again : Bool) (p q first end : ℕ) (answer : Result ℕ Refusal) : Type 0 where
  pub stands : FoundStands m answer
  pub says : (k : Known) (es : List Entry) (s r : ℕ) (gs : List Given) → KnownIn m w k → Gives t gs → Alike m gs (fields_in m first end) → FoundAs m (check_class k again p q gs (state_of w es s r)) answer

-- ---- Up to the body

pub record Entered : Type 0 where
  pub body : Block
  pub here : Context
  pub state : State

-- "Then it is marked declared, its parameters are assigned"
unfoldable pub start_class : Known → ClassDefinition → (defaults : List Constant) → (values : List Given) → Context → State → Outcome Entered
start_class k d ds vs c st =
    come_to_all k ds
    >>= λ _. store_all (in_class d.name (placed_under d.parent c st) c) vs (mark_declared d.name (placed_under d.parent c st) st)
    >>= λ st'. done (record { body = d.body; here = in_class d.name (placed_under d.parent c st) c; state = st' })

-- a parent's name, if there is one at q, is below 1,024
abbrev pub ParentSmall : List ℕ → (q : ℕ) → Type 0
ParentSmall m q = byte m q ≡ 0x35 → two m (q + 3) < 1024

-- the scope above a class, and its base: b is the base of the place that declares it
unfoldable pub scope_under : Option Parent → Base → Scope
scope_under none b = base_scope b
scope_under (some q) b = class_scope q.name

unfoldable pub base_with : Option Parent → Base → (ℕ → Option DeclaredClass) → Base
base_with none b classes = b
base_with (some q) b classes = base_under b (classes q.name)

unfoldable pub started_as : List ℕ → Result ClassBody Refusal → State → Outcome Entered
started_as m (Ok b) st = done (record { body = block_at m 31 b.block; here = context_of b.here; state = st })
started_as m (Err why) st = refused_by why

unfoldable pub BodyStands : List ℕ → Result ClassBody Refusal → Type 0
BodyStands m (Ok b) = StandsAs m 31 BlockKind b.block × NamesKnown m b.block
BodyStands m (Err why) = Unit {0}

-- the class whose 34 is at p, declared from a context
pub record StartsClass (m t w w' : List ℕ) (p : ℕ) (here : Here) (answer : Result ClassBody Refusal) : Type 0 where
  pub stands : BodyStands m answer
  pub keeps : Keeps w w'
  pub says : (k : Known) (es : List Entry) (s r : ℕ) (d : ClassDefinition) (gs vs : List Given) → StrikesAs k w → item_at m p ≡ definition (class_definition d) → Gives t gs → parameter_values d.parameters gs ≡ done vs
      → started_as m answer (state_of w' es s r) ≡ start_class k d (taken_defaults d.parameters gs) vs (context_of here) (state_of w es s r)
