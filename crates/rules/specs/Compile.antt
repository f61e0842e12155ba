-- A whole compile: what it answers and what it leaves in every byte lent.
use Rattle.std.specs.Prelude.{ℕ, suc, ◌-◌, min, Bool, true, false, ◌&&◌, ◌||◌, List, [], ◌∷◌, ◌++◌, eqb, ltb, length, get_or, replicate, Ok, Err}
use Rattle.std.proofs.Math.Option.{Option, none, some}
use Rattle.labels.specs.Sets.{no_labels}
use Rattle.values.specs.declared.Reason.TheVariants.{MemoryTooShort, ManifestLength}
use Rattle.rules.specs.Check.{check}
use Rattle.rules.specs.Tree.{Constant, Devices, named, by_default, Definition, Item, statement, node, definition, Manifest}
use Rattle.rules.specs.Read.{manifest_of}
use Rattle.rules.specs.Types.{Types, built_in_types, check_types}
use Rattle.rules.specs.Outcome.{Outcome, refused, done, ◌>>=◌, refuse_if}
use Rattle.rules.specs.State.{Entry, State, Known, no_cell}
use Rattle.rules.specs.Evaluate.{any}
use Rattle.rules.specs.Run.{gather_definitions, run_items}
use Rattle.rules.specs.Catalog.{catalog_bytes}
use Rattle.rules.specs.Verdicts.{Verdict}
use Rattle.values.specs.Answers.{Answer, catalog_with, refused_for}

-- ---- Strings

unfoldable pub same_bytes : List ℕ → List ℕ → Bool
same_bytes [] [] = true
same_bytes [] (y ∷ ys) = false
same_bytes (x ∷ xs) [] = false
same_bytes (x ∷ xs) (y ∷ ys) = eqb x y && same_bytes xs ys

-- the string with this number
unfoldable pub string_at : List (List ℕ) → ℕ → List ℕ
string_at strings n = get_or strings n []

-- the number of a string in the table, counted from i
unfoldable pub string_number : List ℕ → List (List ℕ) → (i : ℕ) → Option ℕ
string_number x [] i = none
string_number x (y ∷ ys) i = elim (same_bytes x y) [ true ↦ some i | false ↦ string_number x ys (suc i) ]

-- "title"
unfoldable pub title_text : List ℕ
title_text = 116 ∷ 105 ∷ 116 ∷ 108 ∷ 101 ∷ []

-- "A type is built in precisely if the list holds it"
unfoldable pub is_built_in : Types → (strings : List (List ℕ)) → ℕ → Bool
is_built_in types strings n = any (same_bytes (string_at strings n)) (built_in_types types)

-- what the names of a manifest mean, with its strings and its definitions
unfoldable pub known_with : (struck_out : Constant → Bool) → Types → List (List ℕ) → List Definition → Known
known_with struck_out types strings definitions = record { built_in = is_built_in types strings; title = string_number title_text strings 0; definitions = definitions; struck_out = struck_out }

-- a compile takes the manifest as it is
unfoldable pub none_struck_out : Constant → Bool
none_struck_out v = false

-- ---- The node that runs

unfoldable pub names : (strings : List (List ℕ)) → (device : List ℕ) → Devices → Bool
names strings device (named devices) = any (λ n. same_bytes (string_at strings n) device) devices
names strings device by_default = false

unfoldable pub is_default_node : Devices → Bool
is_default_node (named devices) = false
is_default_node by_default = true

-- the items without their nodes, and with the first node only that passes a test
unfoldable pub without_nodes : List Item → List Item
without_nodes [] = []
without_nodes (statement s ∷ items) = statement s ∷ without_nodes items
without_nodes (node devices block ∷ items) = without_nodes items
without_nodes (definition d ∷ items) = definition d ∷ without_nodes items

unfoldable pub with_node : (Devices → Bool) → List Item → List Item
with_node test [] = []
with_node test (statement s ∷ items) = statement s ∷ with_node test items
with_node test (node devices block ∷ items) = elim (test devices) [ true ↦ node devices block ∷ without_nodes items | false ↦ with_node test items ]
with_node test (definition d ∷ items) = definition d ∷ with_node test items

unfoldable pub is_node : (Devices → Bool) → Item → Bool
is_node test (statement s) = false
is_node test (node devices block) = test devices
is_node test (definition d) = false

-- "The first node item naming the device, or else the first default one, runs its block in node scope, where it stands; other node items
-- do nothing."
unfoldable pub items_for : (strings : List (List ℕ)) → (device : List ℕ) → List Item → List Item
items_for strings device items = elim (any (is_node (names strings device)) items) [ true ↦ with_node (names strings device) items | false ↦ with_node is_default_node items ]

-- ---- The run

-- "The finished entry passes the output's end or 65,535 bytes in all": what may be written
unfoldable pub room_in : (output_length : ℕ) → ℕ
room_in output_length = min output_length 65535

unfoldable pub start : (limit output_length : ℕ) → State
start limit output_length = record {
  cells = λ scope n. no_cell;
  used = 0;
  classes = λ n. none;
  trail = no_labels;
  entries = [];
  steps_left = limit;
  room = room_in output_length;
}

-- "All definitions are gathered first"; 8 "is given after 5 and before any step"
unfoldable pub run_manifest : (struck_out : Constant → Bool) → Types → Manifest → (device : List ℕ) → (limit output_length : ℕ) → Outcome State
run_manifest struck_out types manifest device limit output_length = do
  definitions ← gather_definitions (is_built_in types manifest.strings) [] manifest.items
  run_items (known_with struck_out types manifest.strings definitions) (items_for manifest.strings device manifest.items) (start limit output_length)

-- ---- The whole

unfoldable pub checked : Verdict → Outcome (Unit {0})
checked (Ok tt) = done tt
checked (Err f) = refused f.reason f.place

-- 1, 28, 2, then 3 to 5, then 8 and the run
unfoldable pub final_state : Types → (manifest device : List ℕ) → (limit output_length memory_length : ℕ) → Outcome State
final_state types manifest device limit output_length memory_length = do
  _ ← refuse_if (ltb memory_length 65536) MemoryTooShort 0
  _ ← checked (check_types types)
  _ ← refuse_if (eqb (length manifest) 0 || ltb 65535 (length manifest)) ManifestLength 0
  _ ← checked (check manifest)
  run_manifest none_struck_out types (manifest_of manifest) device limit output_length

-- "Entries in declaration order": the state has the latest first
unfoldable pub onto : List Entry → List Entry → List Entry
onto [] later = later
onto (entry ∷ entries) later = onto entries (entry ∷ later)

unfoldable pub entries_in_order : State → List Entry
entries_in_order st = onto st.entries []

-- a catalog and the steps taken
pub record Compiled : Type 0 where
  pub catalog : List ℕ
  pub steps : ℕ

unfoldable pub compiled_from : (limit : ℕ) → State → Compiled
compiled_from limit st = record { catalog = catalog_bytes (entries_in_order st); steps = limit - st.steps_left }

unfoldable pub compiled : Types → (manifest device : List ℕ) → (limit output_length memory_length : ℕ) → Outcome Compiled
compiled types manifest device limit output_length memory_length = do
  st ← final_state types manifest device limit output_length memory_length
  done (compiled_from limit st)

-- the answer: number and place, or the catalog's length and the steps
unfoldable pub answer_of : Outcome Compiled → Answer
answer_of (refused reason place) = refused_for reason place
answer_of (done c) = catalog_with (length c.catalog) c.steps

-- "Bytes after the catalog are zero"; "after a refusal the output and the working memory are zero throughout"
unfoldable pub output_of : (output_length : ℕ) → Outcome Compiled → List ℕ
output_of output_length (refused reason place) = replicate output_length 0
output_of output_length (done c) = c.catalog ++ replicate (output_length - length c.catalog) 0

-- "The working memory is zero after every call."
unfoldable pub memory_of : (memory_length : ℕ) → List ℕ
memory_of memory_length = replicate memory_length 0

-- what a call answers, and all bytes of the output and of the memory lent to it, as they are after it
pub record Effect : Type 0 where
  pub answer : Answer
  pub output_after : List ℕ
  pub memory_after : List ℕ

unfoldable pub compile : Types → (manifest device : List ℕ) → (limit output_length memory_length : ℕ) → Effect
compile types manifest device limit output_length memory_length = record {
  answer = answer_of (compiled types manifest device limit output_length memory_length);
  output_after = output_of output_length (compiled types manifest device limit output_length memory_length);
  memory_after = memory_of memory_length;
}
