-- What a compile carries along, and each change of it.
use Rattle.std.specs.Prelude.{ℕ, zero, suc, ◌+◌, ◌-◌, Bool, true, false, ◌&&◌, not, List, [], ◌∷◌, eqb, ltb}
use Rattle.std.proofs.Math.Option.{Option, none, some}
use Rattle.labels.specs.declared.Labels.{Labels}
use Rattle.labels.specs.Sets.{no_labels, ◌∪◌}
use Rattle.values.specs.declared.Labelled.{Labelled}
use Rattle.values.specs.declared.Reason.TheVariants.{StepLimit, AssignedAgain, CellLimit}
use Rattle.rules.specs.Outcome.{Outcome, refused, done, ◌>>=◌, refuse_if}
use Rattle.rules.specs.Tree.{Constant, Definition}

-- ---- Scopes: "top, node, one for each declared class, and one for each running defined-type body"

pub data Scope : Type 0 where
  top_scope node_scope : Scope
  class_scope : (class : ℕ) → Scope
  body_scope : (levels_left : ℕ) → Scope  -- no two bodies run at one level, so this one is empty when it is entered (proofs/Scopes.antt)

unfoldable pub same_scope : Scope → Scope → Bool
same_scope top_scope top_scope = true
same_scope top_scope node_scope = false
same_scope top_scope (class_scope b) = false
same_scope top_scope (body_scope b) = false
same_scope node_scope top_scope = false
same_scope node_scope node_scope = true
same_scope node_scope (class_scope b) = false
same_scope node_scope (body_scope b) = false
same_scope (class_scope a) top_scope = false
same_scope (class_scope a) node_scope = false
same_scope (class_scope a) (class_scope b) = eqb a b
same_scope (class_scope a) (body_scope b) = false
same_scope (body_scope a) top_scope = false
same_scope (body_scope a) node_scope = false
same_scope (body_scope a) (class_scope b) = false
same_scope (body_scope a) (body_scope b) = eqb a b

-- base: "The base is top or node"
pub data Base : Type 0 where
  top_base node_base : Base

unfoldable pub base_scope : Base → Scope
base_scope top_base = top_scope
base_scope node_base = node_scope

-- of a declared class: its parent and its base
pub record DeclaredClass : Type 0 where
  pub parent : Scope
  pub base : Base

unfoldable pub parent_of_class : Option DeclaredClass → Option Scope
parent_of_class none = none
parent_of_class (some class) = some class.parent

-- the parent of a scope; `base` is that of the code that reads: "Node's parent is top.", "A type body's parent is its base."
unfoldable pub parent_of : (classes : ℕ → Option DeclaredClass) → Base → Scope → Option Scope
parent_of classes base top_scope = none
parent_of classes base node_scope = some top_scope
parent_of classes base (class_scope class) = parent_of_class (classes class)
parent_of classes base (body_scope n) = some (base_scope base)

-- a scope, "then the parents upward", at most so many
unfoldable pub upward : (most : ℕ) → (classes : ℕ → Option DeclaredClass) → Base → Scope → List Scope
upward zero classes base scope = []
upward (suc most) classes base scope = scope ∷ elim (parent_of classes base scope) [ none ↦ [] | some parent ↦ upward most classes base parent ]

-- ---- Cells: "A cell is a scope and name with a value or a mark." A mark is kept for each scope and variable name.

pub record Cell : Type 0 where
  pub exists : Bool
  pub value : Option Labelled
  pub mark : Labels

unfoldable pub no_cell : Cell
no_cell = record { exists = false; value = none; mark = no_labels }

abbrev pub Cells : Type 0
Cells = Scope → ℕ → Cell

-- a value goes into the cell; a mark is joined; the cell is freed: each where the test holds
unfoldable pub value_into : Bool → Labelled → Cell → Cell
value_into true x cell = record { exists = true; value = some x; mark = cell.mark }
value_into false x cell = cell

unfoldable pub mark_into : Bool → Labels → Cell → Cell
mark_into true set cell = record { exists = true; value = cell.value; mark = set ∪ cell.mark }
mark_into false set cell = cell

unfoldable pub freed : Bool → Cell → Cell
freed true cell = no_cell
freed false cell = cell

-- how many of the n lowest names pass a test
unfoldable pub count : ℕ → (ℕ → Bool) → ℕ
count zero test = 0
count (suc n) test = elim (test n) [ true ↦ suc (count n test) | false ↦ count n test ]

-- how many of the names given have no cell yet: a table has at most 1,024 strings
unfoldable pub new_cells : (ℕ → Bool) → (ℕ → Cell) → ℕ
new_cells names cells = count 1024 (λ n. names n && not (cells n).exists)

-- ---- The catalog so far

pub record Attribute : Type 0 where
  pub name : ℕ
  pub content : Labelled

-- what an attribute's set is the union of (Why.antt): "title expression, path, trail, marks its expression read, value"
pub record SetParts : Type 0 where
  pub title : Labels  -- the set of the title expression
  pub path : Labels  -- the path that was carried along
  pub trail : Labels  -- the trail when the resource was added
  pub marks : Labels  -- the marks of every scope tried by the reads of its expression
  pub value : Labels  -- the set of its expression

pub record Entry : Type 0 where
  pub type : ℕ
  pub title : ℕ
  pub labels : Labels
  pub attributes : List Attribute
  pub parts : (attribute : ℕ) → SetParts  -- of each attribute's set, by its name; the catalog's bytes do not tell them

-- ---- The state

pub record State : Type 0 where
  pub cells : Cells
  pub used : ℕ  -- how many cells exist
  pub classes : ℕ → Option DeclaredClass  -- the declared classes
  pub trail : Labels  -- the trail: "one set for the whole compile, never shrinking"
  pub entries : List Entry  -- the latest first
  pub steps_left : ℕ
  pub room : ℕ  -- the bytes left for entries

-- where a statement runs
pub record Context : Type 0 where
  pub scope : Scope
  pub base : Base
  pub path : Labels  -- the path: "the union over the conditions enclosing the statement, through declarations too"

-- what a name may mean anywhere in the manifest, and which constants are struck out of it
pub record Known : Type 0 where
  pub built_in : ℕ → Bool
  pub title : Option ℕ  -- the number of the string "title"
  pub definitions : List Definition  -- all of the manifest's, the latest first
  pub struck_out : Constant → Bool  -- none in a compile; only Why.antt strikes constants out, to ask whether the compile comes to them

-- the scopes that a plain read tries: at most 1,024 classes, node and top (more of them change no read: proofs/Scopes.antt)
unfoldable pub scopes_tried : Context → State → List Scope
scopes_tried here st = upward 1026 st.classes here.base here.scope

unfoldable pub is_declared : (class : ℕ) → State → Bool
is_declared class st = elim (st.classes class) [ none ↦ false | some declared ↦ true ]

-- ---- Changes of the state. Each says which fields it changes; the others stay.

-- changes `steps_left`: "A further step would pass the limit" (6)
unfoldable pub take_step : (place : ℕ) → State → Outcome State
take_step p st = elim st.steps_left [
  | zero ↦ refused StepLimit p
  | suc n ↦ done (record { cells = st.cells; used = st.used; classes = st.classes; trail = st.trail; entries = st.entries; steps_left = n; room = st.room })
]

-- "A 513th cell is needed" (22)
unfoldable pub cells_for : (used more place : ℕ) → Outcome (Unit {0})
cells_for used more p = refuse_if (ltb 512 (used + more)) CellLimit p

unfoldable pub is_some : {A : Type 0} → Option A → Bool
is_some none = false
is_some (some a) = true

unfoldable pub one_if : Bool → ℕ
one_if true = 1
one_if false = 0

-- changes `cells` and `used`: a value goes to a name in a scope; "The variable has a value in this scope" (14), and 22
unfoldable pub assign : (place : ℕ) → Scope → (name : ℕ) → Labelled → State → Outcome State
assign p scope name x st = do
  _ ← refuse_if (is_some (st.cells scope name).value) AssignedAgain p
  _ ← cells_for st.used (one_if (not (st.cells scope name).exists)) p
  done (record {
    cells = λ s n. value_into (same_scope s scope && eqb n name) x (st.cells s n);
    used = st.used + one_if (not (st.cells scope name).exists);
    classes = st.classes;
    trail = st.trail;
    entries = st.entries;
    steps_left = st.steps_left;
    room = st.room;
  })

-- the trail, with a condition's set where a branch holds a declaration
unfoldable pub trail_with : Bool → Labels → Labels → Labels
trail_with true set trail = set ∪ trail
trail_with false set trail = trail

-- changes `cells`, `used` and `trail`: a condition was tested in a scope. Its set joins the marks of the names that its branches assign, and
-- the trail if one of them declares something
unfoldable pub tested : Scope → (names : ℕ → Bool) → (declares : Bool) → Labels → State → State
tested scope names declares set st = record {
  cells = λ s n. mark_into (same_scope s scope && names n) set (st.cells s n);
  used = st.used + new_cells names (st.cells scope);
  classes = st.classes;
  trail = trail_with declares set st.trail;
  entries = st.entries;
  steps_left = st.steps_left;
  room = st.room;
}

-- changes `classes`: a class "is marked declared"
unfoldable pub mark_declared : (class : ℕ) → DeclaredClass → State → State
mark_declared class declared st = record {
  cells = st.cells;
  used = st.used;
  classes = λ n. elim (eqb n class) [ true ↦ some declared | false ↦ st.classes n ];
  trail = st.trail;
  entries = st.entries;
  steps_left = st.steps_left;
  room = st.room;
}

-- changes `cells` and `used`: the cells of a scope "are used again"
unfoldable pub free : Scope → State → State
free scope st = record {
  cells = λ s n. freed (same_scope s scope) (st.cells s n);
  used = st.used - count 1024 (λ n. (st.cells scope n).exists);
  classes = st.classes;
  trail = st.trail;
  entries = st.entries;
  steps_left = st.steps_left;
  room = st.room;
}

-- changes `entries` and `room`: a finished entry, and the room left after it
unfoldable pub with_entry : Entry → (room : ℕ) → State → State
with_entry entry room st = record { cells = st.cells; used = st.used; classes = st.classes; trail = st.trail; entries = entry ∷ st.entries; steps_left = st.steps_left; room = room }
