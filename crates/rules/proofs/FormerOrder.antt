-- Where the definitions stood before their uses nothing changes. The former rule is kept here: "Items run in order. A definition must run before it is used", and 8 is
-- given where the second definition stands in the run. Whatever manifest that rule accepted is accepted, with the same catalog and the same steps.
use Prim.Native.Nat.{ℕ}
use mathlib.Core.Path.{◌≡◌, refl, sym, ◌∙◌}
use mathlib.Core.Bool.{Bool, true, false, ◌||◌}
use mathlib.Core.List.{List, [], ◌∷◌}
use mathlib.Core.Option.{Option, none, some}
use lib.Dec.{eqb, ltb}
use lib.ListN.{length}
use Rattle.values.specs.declared.Reason.{Reason}
use Rattle.values.specs.declared.Reason.TheVariants.{MemoryTooShort, ManifestLength, DefinedAgain}
use Rattle.rules.specs.Outcome.{Outcome, refused, done, ◌>>=◌, refuse_if}
use Rattle.rules.specs.Check.{check}
use Rattle.rules.specs.Tree.{Constant, Block, end, next, TypeDefinition, ClassDefinition, Definition, Devices, Item, statement, node, definition}
use Rattle.rules.specs.Read.{manifest_of}
use Rattle.rules.specs.State.{State, Context, Known}
use Rattle.rules.specs.Evaluate.{any, find_type, find_class}
use Rattle.rules.specs.Run.{run_at_top, top_context, node_context, defined_name, defined_place, is_taken, gather_definitions, run_items}
use Rattle.rules.specs.Types.{Types, check_types}
use Rattle.rules.specs.Compile.{is_built_in, known_with, none_struck_out, names, is_default_node, without_nodes, with_node, is_node, items_for, start, run_manifest, checked, final_state, Compiled, compiled_from, compiled}
use Rattle.rules.proofs.Outcome.{bind_same, bind_done, All, all_refused, all_done, all_bind, all_map, all_get, all_passed, all_itself}
use Rattle.rules.proofs.Lists.{or_true_left}
use Rattle.rules.proofs.Gathering.{type_kept, class_kept}
use Rattle.rules.proofs.ThreeRuns.{Variant, Find, first_lacks, all_find, Between, top_three}
use Rattle.rules.proofs.Strikes.{third_done}

-- ---- The former rule

unfoldable pub with_definition : Definition → Known → Known
with_definition d known = record { built_in = known.built_in; title = known.title; definitions = d ∷ known.definitions; struck_out = known.struck_out }

unfoldable pub run_formerly : Known → List Item → State → Outcome State
run_formerly known [] st = done st
run_formerly known (statement s ∷ items) st = do
  st' ← run_at_top known (next s end) top_context st
  run_formerly known items st'
run_formerly known (node devices block ∷ items) st = do
  st' ← run_at_top known block node_context st
  run_formerly known items st'
run_formerly known (definition d ∷ items) st = do
  _ ← refuse_if (is_taken known.built_in known.definitions (defined_name d)) DefinedAgain (defined_place d)
  run_formerly (with_definition d known) items st

-- a whole compile: nothing is defined before the first item runs
unfoldable pub former_state : Types → (manifest device : List ℕ) → (limit output_length memory_length : ℕ) → Outcome State
former_state types manifest device limit output_length memory_length = do
  _ ← refuse_if (ltb memory_length 65536) MemoryTooShort 0
  _ ← checked (check_types types)
  _ ← refuse_if (eqb (length manifest) 0 || ltb 65535 (length manifest)) ManifestLength 0
  _ ← checked (check manifest)
  run_formerly (known_with none_struck_out types (manifest_of manifest).strings []) (items_for (manifest_of manifest).strings device (manifest_of manifest).items) (start limit output_length)

unfoldable pub compiled_formerly : Types → (manifest device : List ℕ) → (limit output_length memory_length : ℕ) → Outcome Compiled
compiled_formerly types manifest device limit output_length memory_length = do
  st ← former_state types manifest device limit output_length memory_length
  done (compiled_from limit st)

-- ---- Nodes are no definitions: those of the items that run are those of all

module _ (built_in : ℕ → Bool) where
  without_gathers : (earlier : List Definition) (items : List Item) → gather_definitions built_in earlier (without_nodes items) ≡ gather_definitions built_in earlier items
  unfolding gather_definitions without_nodes
  without_gathers earlier [] = refl
  without_gathers earlier (statement s ∷ items) = without_gathers earlier items
  without_gathers earlier (node devices block ∷ items) = without_gathers earlier items
  without_gathers earlier (definition d ∷ items) = bind_same _ _ _ λ _. without_gathers (d ∷ earlier) items

  with_gathers : (test : Devices → Bool) (earlier : List Definition) (items : List Item) → gather_definitions built_in earlier (with_node test items) ≡ gather_definitions built_in earlier items
  unfolding gather_definitions with_node
  with_gathers test earlier [] = refl
  with_gathers test earlier (statement s ∷ items) = with_gathers test earlier items
  with_gathers test earlier (node devices block ∷ items) = go (test devices) (with_gathers test earlier items)
    where
      go : (b : Bool) → gather_definitions built_in earlier (with_node test items) ≡ gather_definitions built_in earlier items → gather_definitions built_in earlier (elim b [ true ↦ node devices block ∷ without_nodes items | false ↦ with_node test items ]) ≡ gather_definitions built_in earlier items
      go true e = without_gathers earlier items
      go false e = e
  with_gathers test earlier (definition d ∷ items) = bind_same _ _ _ λ _. with_gathers test (d ∷ earlier) items

  running_gathers : (strings : List (List ℕ)) (device : List ℕ) (items : List Item) → gather_definitions built_in [] (items_for strings device items) ≡ gather_definitions built_in [] items
  unfolding items_for
  running_gathers strings device items = go (any (is_node (names strings device)) items)
    where
      go : (b : Bool) → gather_definitions built_in [] (elim b [ true ↦ with_node (names strings device) items | false ↦ with_node is_default_node items ]) ≡ gather_definitions built_in [] items
      go true = with_gathers (names strings device) [] items
      go false = with_gathers is_default_node [] items

-- ---- What the former rule ran runs

passed : (b : Bool) (r : Reason) (p : ℕ) → b ≡ false → refuse_if b r p ≡ done tt
unfolding refuse_if
passed b r p e = rw e refl

-- after the same first part, what the one is done with the other is done with
first_same : {A B : Type 0} (m : Outcome A) (f g : A → Outcome B) → ((a : A) → All (λ (b : B). f a ≡ done b) (g a)) → All (λ (b : B). (m >>= f) ≡ done b) (m >>= g)
unfolding ◌>>=◌
first_same (refused r p) f g h = all_refused
first_same (done a) f g h = h a

-- what is found among these definitions is found among those
record Finds (few many : List Definition) : Type 0 where
  types : (n : ℕ) (t : TypeDefinition) → find_type n few ≡ some t → find_type n many ≡ some t
  classes : (n : ℕ) (c : ClassDefinition) → find_class n few ≡ some c → find_class n many ≡ some c

found_more : {A : Type 0} (o o' : Option A) → ((a : A) → o ≡ some a → o' ≡ some a) → Find o o o'
found_more none o' h = first_lacks
found_more (some a) o' h = rw (h a refl) all_find

module _ (built_in : ℕ → Bool) (title : Option ℕ) (struck_out : Constant → Bool) where
  abbrev knows : List Definition → Known
  knows ds = record { built_in = built_in; title = title; definitions = ds; struck_out = struck_out }

  abbrev variant : List Definition → Variant
  variant ds = record { definitions = ds; struck_out = struck_out }

  -- a block that is done, with fewer definitions, is done so with more
  block_done : {few many : List Definition} → Finds few many → (b : Block) (here : Context) (st : State) {st' : State} → run_at_top (knows few) b here st ≡ done st' → run_at_top (knows many) b here st ≡ done st'
  block_done {few} {many} found b here st e = third_done (top_three built_in title (variant few) (variant few) (variant many) between b here st) e e
    where
      between : Between (variant few) (variant few) (variant many)
      between = record {
        struck = λ v h. or_true_left (struck_out v) (struck_out v) h;
        types = λ n. found_more (find_type n few) (find_type n many) (found.types n);
        classes = λ n. found_more (find_class n few) (find_class n many) (found.classes n);
      }

  -- the items are gathered behind these definitions, which are found among all, and with all the run ends so
  record EndsSo (earlier : List Definition) (items : List Item) (st st' : State) : Type 0 where
    all : List Definition
    gathered : gather_definitions built_in earlier items ≡ done all
    found : Finds earlier all
    runs : run_items (knows all) items st ≡ done st'

  ends_so : (earlier : List Definition) (items : List Item) (st : State) → All (EndsSo earlier items st) (run_formerly (knows earlier) items st)
  unfolding run_formerly run_items gather_definitions with_definition
  ends_so earlier [] st = all_done (record { all = earlier; gathered = refl; found = record { types = λ n t e. e; classes = λ n c e. e }; runs = refl })
  ends_so earlier (statement s ∷ items) st = all_bind (all_itself _) λ st₁ e. all_map (ends_so earlier items st₁) λ st' h.
      record { all = h.all; gathered = h.gathered; found = h.found; runs = bind_done _ (block_done h.found (next s end) top_context st e) ∙ h.runs }
  ends_so earlier (node devices b ∷ items) st = all_bind (all_itself _) λ st₁ e. all_map (ends_so earlier items st₁) λ st' h.
      record { all = h.all; gathered = h.gathered; found = h.found; runs = bind_done _ (block_done h.found b node_context st e) ∙ h.runs }
  ends_so earlier (definition d ∷ items) st = all_bind (all_passed _ _ _) λ _ free. all_map (ends_so (d ∷ earlier) items st) λ st' h. record {
    all = h.all;
    gathered = bind_done _ (passed _ _ _ free) ∙ h.gathered;
    found = record {
      types = λ n t e. h.found.types n t (type_kept built_in earlier d free n e);
      classes = λ n c e. h.found.classes n c (class_kept built_in earlier d free n e);
    };
    runs = h.runs;
  }

-- ---- THE LAW

module _ (types : Types) (m device : List ℕ) (limit output memory : ℕ) where
  run_as_before : All (λ (st : State). run_manifest none_struck_out types (manifest_of m) device limit output ≡ done st) (run_formerly (known_with none_struck_out types (manifest_of m).strings []) (items_for (manifest_of m).strings device (manifest_of m).items) (start limit output))
  unfolding run_manifest known_with
  run_as_before = all_map (ends_so (is_built_in types (manifest_of m).strings) _ none_struck_out [] _ (start limit output)) λ st h.
      bind_done _ (sym (running_gathers (is_built_in types (manifest_of m).strings) (manifest_of m).strings device (manifest_of m).items) ∙ h.gathered) ∙ h.runs

  state_as_before : All (λ (st : State). final_state types m device limit output memory ≡ done st) (former_state types m device limit output memory)
  unfolding former_state final_state
  state_as_before = first_same _ _ _ λ _. first_same _ _ _ λ _. first_same _ _ _ λ _. first_same _ _ _ λ _. run_as_before

  -- a manifest that was accepted is accepted, with the same catalog and steps
  pub accepted_as_before : {c : Compiled} → compiled_formerly types m device limit output memory ≡ done c → compiled types m device limit output memory ≡ done c
  unfolding compiled_formerly compiled
  accepted_as_before e = all_get {P = λ (c : Compiled). compiled types m device limit output memory ≡ done c} (all_bind state_as_before λ st h. all_done (bind_done _ h)) e
