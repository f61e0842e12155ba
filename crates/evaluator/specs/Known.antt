-- What the bytes must stand for when an expression is evaluated, and what an answer then says.
use Rattle.std.specs.Prelude.{ℕ, ◌<◌, ◌≤◌, length, ◌≡◌, not, List, [], ◌∷◌, eqb, Option as CodeOption, Some, None}
use Rattle.std.proofs.Math.Option.{Option, none, some}
use Rattle.labels.specs.declared.Labels.{Labels}
use Rattle.labels.specs.Words.{labels_in}
use Rattle.values.specs.declared.Value.{Value}
use Rattle.values.specs.declared.Labelled.{Labelled}
use Rattle.wire.specs.Bytes.{pick, byte}
use Rattle.values.specs.declared.Reason.TheVariants.{Malformed, Unknown}
use Rattle.rules.specs.Outcome.{Outcome, refused, done, ◌>>=◌, refuse_if, at, joining}
use Rattle.rules.specs.Arithmetic.{string_in}
use Rattle.rules.specs.Tree.{Constant, TypeDefinition, ClassDefinition, type_definition, class_definition, definition}
use Rattle.rules.specs.State.{Entry, State, Context, Known, Cells, class_scope, upward}
use Rattle.rules.specs.Evaluate.{find_type, find_class, is_type, is_class, of_constant, read_in, read_attribute}
use Rattle.rules.specs.Compile.{onto}
use Rattle.rules.specs.declared.Kind.TheVariants.{Item}
use Rattle.rules.specs.Once.{UniqueEntries}
use Rattle.places.specs.At.{item_at, StandsAs}
use Rattle.cells.specs.Scopes.{scope_of}
use Rattle.cells.specs.Memory.{definition_of, built_in_of, state_of, cells_of, classes_of, base_for}
use Rattle.memory.specs.Words.{struck_in}
use Rattle.memory.specs.declared.Scope.{Scope}
use Rattle.memory.specs.Contexts.{context_in}
use Rattle.catalog.specs.Finding.{Written}
use Rattle.catalog_index.specs.Index.{Indexed}
use Rattle.evaluator.specs.declared.Variable.{Variable}
use Rattle.evaluator.specs.Answers.{Evaluated, answered}

-- what the definition at a place says of its name: none at 0, and else a type or a class, as read there
pub data DefinedAt (m : List ℕ) (p : ℕ) : Option TypeDefinition → Option ClassDefinition → Type 0 where
  undefined : p ≡ 0 → DefinedAt m p none none
  type_at : {d : TypeDefinition} → 0 < p → StandsAs m 32 Item p → byte m p ≡ 0x32 → item_at m p ≡ definition (type_definition d) → DefinedAt m p (some d) none
  class_at : {d : ClassDefinition} → 0 < p → StandsAs m 32 Item p → byte m p ≡ 0x34 → item_at m p ≡ definition (class_definition d) → DefinedAt m p none (some d)

-- the names in the working memory w are what is known, and its words say what is struck out
pub record KnownIn (m w : List ℕ) (k : Known) : Type 0 where
  pub built_ins : (n : ℕ) → k.built_in n ≡ built_in_of w n
  pub definitions : (n : ℕ) → DefinedAt m (definition_of w n) (find_type n k.definitions) (find_class n k.definitions)
  pub struck : (v : Constant) → k.struck_out v ≡ struck_in w v

-- the memory w and the output up to `fill` stand for what is known and the entries es, the latest first; the memory has an index over them
pub record Ready (m w out : List ℕ) (fill : ℕ) (k : Known) (es : List Entry) : Type 0 where
  pub catalog : Written out fill (onto es [])
  pub index : Indexed w (onto es [])
  pub unique : UniqueEntries es
  pub known : KnownIn m w k

-- an answer is what the definition gives on every path, which no expression sees, and in every state that the bytes stand for
pub record Tells {A : Type 0} (m w out : List ℕ) (fill : ℕ) (scope : Scope) (answer : Outcome A) (run : Known → Context → State → Outcome A) : Type 0 where
  pub says : (k : Known) (path : Labels) (es : List Entry) (n r : ℕ) → Ready m w out fill k es → answer ≡ run k (context_in scope path) (state_of w es n r)

-- the same of an answer for which the set s was lent, and became s': its labels were joined to the set
pub record TellsJoined (m w out : List ℕ) (fill : ℕ) (scope : Scope) (s s' : List ℕ) (answer : Evaluated) (run : Known → Context → State → Outcome Labelled) : Type 0 where
  pub says : (k : Known) (path : Labels) (es : List Entry) (n r : ℕ) → Ready m w out fill k es → answered answer (labels_in s') ≡ joining (labels_in s) (run k (context_in scope path) (state_of w es n r))

-- the tag of a name's definition, 0 if there is none
unfoldable pub defined_tag : (m w : List ℕ) → (name : ℕ) → ℕ
defined_tag m w n = pick (eqb (definition_of w n) 0) 0 (byte m (definition_of w n))

-- ---- The parts of `evaluate` that need no other expression

-- a constant, if the memory w has none struck out or another
unfoldable pub constant_in : (w : List ℕ) → Constant → Outcome Labelled
constant_in w v = refuse_if (struck_in w v) Malformed v.place >>= λ _. done (of_constant v)

-- a variable that is sought in the memory w, for a read at p
unfoldable pub variable_in : (w : List ℕ) → (p : ℕ) → Variable → Outcome Labelled
variable_in w p v = read_in p (cells_of w) v.name (upward v.tries (classes_of w) (base_for v.scope.base_is_node) (scope_of v.scope.number))

unfoldable pub sought_as : (w : List ℕ) → (p : ℕ) → CodeOption Variable → Outcome Labelled
sought_as w p (Some v) = variable_in w p v
sought_as w p None = refused Unknown p

-- a class variable: its class q, its name n
unfoldable pub class_read : Known → (place : ℕ) → Cells → (q n : ℕ) → Outcome Labelled
class_read k p cells q n = refuse_if (not (is_class k q)) Unknown p >>= λ _. read_in p cells n (class_scope q ∷ [])

-- an attribute n of the resource of type t whose title, at l, is x
unfoldable pub attribute_of : Known → List Entry → (place l t n : ℕ) → Value → Outcome Labelled
attribute_of k es p l t n x = at l (string_in x) >>= λ m. refuse_if (not (is_type k t)) Unknown p >>= λ _. read_attribute p t m n es

-- ---- Lengths

-- the memory, the output and the manifest are as long as an evaluation asks, and a place can be told in a refusal
pub record Sized (m w out : List ℕ) (fill p : ℕ) : Type 0 where
  pub memory : 65536 ≤ length w
  pub filled : fill ≤ length out
  pub short : fill ≤ 65535
  pub manifest : length m ≤ 65535
  pub place : p ≤ 65535
