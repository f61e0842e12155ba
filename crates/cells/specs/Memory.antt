-- The working memory as the definition's state, and what a function makes of it.
use Rattle.std.specs.Prelude.{ℕ, ◌+◌, ◌≡◌, Bool, true, false, not, ◌&&◌, ◌||◌, List, [], ◌∷◌, eqb, Option as CodeOption, Some, None, Result, Ok, Err}
use Rattle.std.proofs.Math.Option.{Option, none, some}
use Rattle.labels.specs.declared.Labels.{Labels}
use Rattle.labels.specs.Sets.{◌∪◌}
use Rattle.values.specs.declared.Reason.TheVariants.{AssignedAgain, CellLimit}
use Rattle.wire.specs.Bytes.{pick}
use Rattle.rules.specs.Outcome.{Outcome, refused, done, ◌>>=◌}
use Rattle.rules.specs.State.{Scope, Base, top_base, node_base, DeclaredClass, Cell, no_cell, Cells, same_scope, mark_into, count, Entry, State, cells_for, one_if}
use Rattle.cells.specs.Layout.{Slot, slots_of, trail_of, NameRecord, name_record, records_of, rest_of}
use Rattle.cells.specs.Scopes.{scope_number, scope_of, numbered}
use Rattle.cells.specs.Slots.{in_use, cell_in, slot_for, FineSlots}
use Rattle.cells.specs.declared.NotStored.{NotStored}
use Rattle.cells.specs.declared.NotStored.TheVariants.{HasValue, NoRoom}

-- ---- Cells

unfoldable pub cell_at : (ℕ → Slot) → CodeOption ℕ → Cell
cell_at f (Some i) = cell_in (f i)
cell_at f None = no_cell

-- the cell of a scope number and a name
unfoldable pub cells_in : (ℕ → Slot) → (scope name : ℕ) → Cell
cells_in f = λ s n. cell_at f (slot_for f s n)

-- the cells of the scopes that have a number
unfoldable pub by_scope : ((scope name : ℕ) → Cell) → Cells
by_scope c = λ s n. pick (numbered s) (c (scope_number s) n) no_cell

unfoldable pub used_in : (ℕ → Slot) → ℕ
used_in f = count 512 (λ i. in_use (f i))

unfoldable pub cells_of : List ℕ → Cells
cells_of w = by_scope (cells_in (slots_of w))

unfoldable pub used_of : List ℕ → ℕ
used_of w = used_in (slots_of w)

-- ---- Names

unfoldable pub base_for : (is_node : Bool) → Base
base_for true = node_base
base_for false = top_base

unfoldable pub class_from : (state parent : ℕ) → Option DeclaredClass
class_from t q = pick (eqb t 0) none (some (record { parent = scope_of q; base = base_for (eqb t 2) }))

unfoldable pub class_in : NameRecord → Option DeclaredClass
class_in (name_record d t b q) = class_from t q

unfoldable pub definition_in : NameRecord → ℕ
definition_in (name_record d t b q) = d

unfoldable pub built_in_in : NameRecord → Bool
built_in_in (name_record d t b q) = not (eqb b 0)

unfoldable pub classes_of : List ℕ → ℕ → Option DeclaredClass
classes_of w = λ k. class_in (records_of w k)

-- where a name's definition stands in the manifest, 0 if there is none; whether it is a built-in type
unfoldable pub definition_of : List ℕ → ℕ → ℕ
definition_of w = λ k. definition_in (records_of w k)

unfoldable pub built_in_of : List ℕ → ℕ → Bool
built_in_of w = λ k. built_in_in (records_of w k)

pub record Names : Type 0 where
  pub definitions : ℕ → ℕ
  pub built_ins : ℕ → Bool

unfoldable pub names_of : List ℕ → Names
names_of w = record { definitions = definition_of w; built_ins = built_in_of w }

-- ---- The state

-- the entries, the steps left and the room are kept elsewhere
unfoldable pub state_of : List ℕ → (entries : List Entry) → (steps_left room : ℕ) → State
state_of w es n r = record { cells = cells_of w; used = used_of w; classes = classes_of w; trail = trail_of w; entries = es; steps_left = n; room = r }

abbrev pub Fine : List ℕ → Type 0
Fine w = FineSlots (slots_of w)

-- from w to w' the state changes so, the names so, and the bytes of others stay; the invariant is kept
pub record Becomes (w w' : List ℕ) (change : State → State) (rename : Names → Names) : Type 0 where
  pub state : (es : List Entry) (n r : ℕ) → state_of w' es n r ≡ change (state_of w es n r)
  pub names : names_of w' ≡ rename (names_of w)
  pub rest : rest_of w' ≡ rest_of w
  pub fine : Fine w → Fine w'

-- from w to w' the state and the names stay, and the invariant is kept
pub record Stays (w w' : List ℕ) : Type 0 where
  pub state : (es : List Entry) (n r : ℕ) → state_of w' es n r ≡ state_of w es n r
  pub names : names_of w' ≡ names_of w
  pub fine : Fine w → Fine w'

-- ---- Stores that may be refused

-- what an answer says, for a statement at a place
unfoldable pub outcome : Result Unit NotStored → (place : ℕ) → State → Outcome State
outcome (Ok tt) p st = done st
outcome (Err HasValue) p st = refused AssignedAgain p
outcome (Err NoRoom) p st = refused CellLimit p

-- the same where the store may be refused: then the state stays
pub record Answers (w w' : List ℕ) (answer : Result Unit NotStored) (run : (place : ℕ) → State → Outcome State) : Type 0 where
  pub state : (p : ℕ) (es : List Entry) (n r : ℕ) → outcome answer p (state_of w' es n r) ≡ run p (state_of w es n r)
  pub stays : (answer ≡ Ok tt → ⊥) → (es : List Entry) (n r : ℕ) → state_of w' es n r ≡ state_of w es n r
  pub names : names_of w' ≡ names_of w
  pub rest : rest_of w' ≡ rest_of w
  pub fine : Fine w → Fine w'

-- a set is joined to the mark of one name
unfoldable pub marked_one : Scope → (name : ℕ) → Labels → State → State
marked_one s n k st = record {
  cells = λ t m. mark_into (same_scope t s && eqb m n) k (st.cells t m);
  used = st.used + one_if (not (st.cells s n).exists);
  classes = st.classes;
  trail = st.trail;
  entries = st.entries;
  steps_left = st.steps_left;
  room = st.room;
}

unfoldable pub mark_one : (place : ℕ) → Scope → (name : ℕ) → Labels → State → Outcome State
mark_one p s n k st = cells_for st.used (one_if (not (st.cells s n).exists)) p >>= λ _. done (marked_one s n k st)

-- the names of a list, one after the other
unfoldable pub mark_all : (place : ℕ) → Scope → (names : List ℕ) → Labels → State → Outcome State
mark_all p s [] k st = done st
mark_all p s (n ∷ ns) k st = mark_one p s n k st >>= mark_all p s ns k

-- whether a name is in the list
unfoldable pub listed : List ℕ → ℕ → Bool
listed [] m = false
listed (n ∷ ns) m = eqb m n || listed ns m

-- a set is joined to the trail
unfoldable pub trailed : Labels → State → State
trailed k st = record { cells = st.cells; used = st.used; classes = st.classes; trail = k ∪ st.trail; entries = st.entries; steps_left = st.steps_left; room = st.room }
