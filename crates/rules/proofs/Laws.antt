-- What a reader may rely on of every accepted compile: its catalog reads back, type and title are once in it and each name once in an entry, its
-- steps are within the limit and its bytes within the output. Assumes nothing.
use mathlib.Core.Path.{◌≡◌, refl, ◌∙◌}
use mathlib.Core.Bool.{Bool, true, false}
use mathlib.Core.List.Memᴰ
use mathlib.Core.List.{List, [], ◌∷◌, Memᴰ}
use mathlib.Core.Logic.{◌⊎◌, inl, inr}
use Prim.Native.Nat.{ℕ, ◌+◌, ◌-◌, ◌≤◌, min}
use native.Mathlib.Omega.{arith}
use lib.ListN.{length, length-append}
use Rattle.labels.proofs.Laws.{words_none}
use Rattle.rules.specs.Outcome.{done}
use Rattle.rules.specs.Tree.{Devices, Item, statement, node, definition}
use Rattle.rules.specs.Read.{manifest_of}
use Rattle.rules.specs.State.{Attribute, Entry, State}
use Rattle.rules.specs.Evaluate.{any, is_entry, is_attribute}
use Rattle.rules.specs.Catalog.{entry_bytes, catalog_bytes, shown_all, read_catalog}
use Rattle.rules.specs.Types.{Types}
use Rattle.rules.specs.Compile.{is_built_in, known_with, none_struck_out, names, is_default_node, without_nodes, with_node, is_node, items_for, room_in, start, run_manifest, final_state, onto, entries_in_order, Compiled, compiled_from, compiled}
use Rattle.rules.specs.EditRule.{one_more, how_many, IsBytes}
use Rattle.rules.proofs.Lists.{Each, none_left, also, each_member, each_apply}
use Rattle.rules.proofs.Outcome.{All, all_done, all_bind, all_any, all_get}
use Rattle.rules.proofs.ReadBack.{read_back}
use Rattle.rules.proofs.Gathering.{gathered_each}
use Rattle.rules.proofs.Fits.{in_definition, manifest_fits}
use Rattle.rules.proofs.Unique.{unique_none, entry_once_lem, name_once}
use Rattle.rules.proofs.Invariant.{Sound, no_cell_fits, items_sound}

-- ---- The state at the start and at the end

-- the items that run for a device are among the items
module _ {P : Item → Type 0} where
  without_nodes_each : {is : List Item} → Each P is → Each P (without_nodes is)
  unfolding without_nodes
  without_nodes_each none_left = none_left
  without_nodes_each (also {x = statement s} p ps) = also p (without_nodes_each ps)
  without_nodes_each (also {x = node ds b} p ps) = without_nodes_each ps
  without_nodes_each (also {x = definition d} p ps) = also p (without_nodes_each ps)

  with_node_each : (f : Devices → Bool) {is : List Item} → Each P is → Each P (with_node f is)
  unfolding with_node
  with_node_each f none_left = none_left
  with_node_each f (also {x = statement s} p ps) = also p (with_node_each f ps)
  with_node_each f (also {x = node ds b} {xs = is} p ps) = go (f ds) (with_node_each f ps)
    where
      go : (x : Bool) {js : List Item} → Each P js → Each P (elim x [ true ↦ node ds b ∷ without_nodes is | false ↦ js ])
      go true r = also p (without_nodes_each ps)
      go false r = r
  with_node_each f (also {x = definition d} p ps) = also p (with_node_each f ps)

  pub items_for_each : (ss : List (List ℕ)) (device : List ℕ) {is : List Item} → Each P is → Each P (items_for ss device is)
  unfolding items_for
  items_for_each ss device {is} ps = go (any (is_node (names ss device)) is)
    where
      go : (x : Bool) → Each P (elim x [ true ↦ with_node (names ss device) is | false ↦ with_node is_default_node is ])
      go true = with_node_each (names ss device) ps
      go false = with_node_each is_default_node ps

module _ (Given : Type 0) where
  start_sound : (limit output : ℕ) → Sound Given limit (room_in output) (start limit output)
  unfolding start catalog_bytes
  start_sound limit output = record {
    steps = same_le;
    bytes = no_bytes;
    once = unique_none;
    names_once = none_left;
    cells = λ s n. no_cell_fits Given limit (room_in output);
    trail = λ y. words_none;
    entries = none_left;
  }
    where
      same_le : limit ≤ limit
      same_le = omega arith

      no_bytes : room_in output + 0 ≡ room_in output
      no_bytes = omega arith

-- the invariant at the end of every accepted run; its ranges hold if the manifest is a byte string
pub final_sound : (types : Types) (m device : List ℕ) (limit output memory : ℕ) → All (Sound (IsBytes m) limit (room_in output)) (final_state types m device limit output memory)
unfolding final_state run_manifest known_with
final_sound types m device limit output memory =
    all_any _ λ _. all_any _ λ _. all_any _ λ _. all_any _ λ _. all_bind (gathered_each (λ d. in_definition _ _) (is_built_in types (manifest_of m).strings) (manifest_fits m) none_left) λ ds defs.
    items_sound (IsBytes m) limit (room_in output) (known_with none_struck_out types (manifest_of m).strings ds) defs (items_for_each (manifest_of m).strings device (manifest_fits m))
    (start limit output) (start_sound (IsBytes m) limit output)

-- ---- Entries in order: the same entries

onto_many : (f : Entry → Bool) (es later : List Entry) → how_many f (onto es later) ≡ how_many f es + how_many f later
unfolding onto how_many one_more
onto_many f [] later = omega arith
onto_many f (e ∷ es) later = onto_many f es (e ∷ later) ∙ move (f e) (how_many f es) (how_many f later)
  where
    move : (b : Bool) (i j : ℕ) → i + one_more b j ≡ one_more b i + j
    move true i j = omega arith
    move false i j = refl

onto_bytes : (es later : List Entry) → length (catalog_bytes (onto es later)) ≡ length (catalog_bytes es) + length (catalog_bytes later)
unfolding onto catalog_bytes
onto_bytes [] later = omega arith
onto_bytes (e ∷ es) later = omega (arith, onto_bytes es (e ∷ later), length-append (entry_bytes e) (catalog_bytes later), length-append (entry_bytes e) (catalog_bytes es))

pub onto_each : {P : Entry → Type 0} {es later : List Entry} → Each P es → Each P later → Each P (onto es later)
unfolding onto
onto_each none_left q = q
onto_each (also p ps) q = onto_each ps (also p q)

onto_member : {e : Entry} (es later : List Entry) → Memᴰ e (onto es later) → Memᴰ e es ⊎ Memᴰ e later
unfolding onto
onto_member [] later m = inr m
onto_member {e} (d ∷ es) later m = go (onto_member es (d ∷ later) m)
  where
    go : Memᴰ e es ⊎ Memᴰ e (d ∷ later) → Memᴰ e (d ∷ es) ⊎ Memᴰ e later
    go (inl n) = inl (Memᴰ.tail n)
    go (inr (Memᴰ.head p)) = inl (Memᴰ.head p)
    go (inr (Memᴰ.tail n)) = inr n

in_order_member : {e : Entry} (st : State) → Memᴰ e (entries_in_order st) → Memᴰ e st.entries
unfolding entries_in_order
in_order_member {e} st m = go (onto_member st.entries [] m)
  where
    go : Memᴰ e st.entries ⊎ Memᴰ e [] → Memᴰ e st.entries
    go (inl n) = n
    go (inr n) = absurd (Memᴰ.not-nil n)

in_order_bytes : (st : State) → length (catalog_bytes (entries_in_order st)) ≡ length (catalog_bytes st.entries)
unfolding entries_in_order catalog_bytes
in_order_bytes st = omega (arith, onto_bytes st.entries [])

-- the bytes are at most the room at the start: at most the output's, and at most 65,535
within : {Given : Type 0} {limit output : ℕ} {st : State} → Sound Given limit (room_in output) st → (length (catalog_bytes (entries_in_order st)) ≤ 65535) × (length (catalog_bytes (entries_in_order st)) ≤ output)
unfolding room_in
within {output = output} {st = st} h =
    let size : st.room + length (catalog_bytes st.entries) ≡ min output 65535 = h.bytes in
    (omega (arith, in_order_bytes st), omega (arith, in_order_bytes st))

-- ---- The laws

module _ (types : Types) (m device : List ℕ) (limit output memory : ℕ) where
  pub accepted_sound : {st : State} → final_state types m device limit output memory ≡ done st → Sound (IsBytes m) limit (room_in output) st
  accepted_sound p = all_get (final_sound types m device limit output memory) p

  -- a catalog reads back as its entries are shown, if the manifest is a byte string
  pub catalog_reads_back : {st : State} → IsBytes m → final_state types m device limit output memory ≡ done st → read_catalog (catalog_bytes (entries_in_order st)) ≡ shown_all (entries_in_order st)
  unfolding entries_in_order
  catalog_reads_back {st} b e =
      let h : Sound (IsBytes m) limit (room_in output) st = accepted_sound e in
      let size : length (catalog_bytes (entries_in_order st)) ≤ 65535 = (within h).0 in
      read_back (entries_in_order st) (onto_each (each_apply h.entries b) none_left) (omega arith)

  -- type and title are once in the catalog (20)
  pub type_and_title_once : {st : State} → final_state types m device limit output memory ≡ done st
      → (e : Entry) → Memᴰ e (entries_in_order st) → how_many (is_entry e.type e.title) (entries_in_order st) ≡ 1
  unfolding entries_in_order how_many
  type_and_title_once {st} p e n =
      omega (arith, onto_many (is_entry e.type e.title) st.entries [], entry_once_lem (accepted_sound p).once (in_order_member st n))

  -- a name is once among the attributes of an entry (21)
  pub names_once_lem : {st : State} → final_state types m device limit output memory ≡ done st
      → (e : Entry) → Memᴰ e (entries_in_order st) → (a : Attribute) → Memᴰ a e.attributes → how_many (is_attribute a.name) e.attributes ≡ 1
  names_once_lem {st} p e n a i =
      name_once (each_member (accepted_sound p).names_once (in_order_member st n)) i

  -- the steps taken and those left are the limit
  pub steps_and_left : {st : State} → final_state types m device limit output memory ≡ done st → (compiled_from limit st).steps + st.steps_left ≡ limit
  unfolding compiled_from
  steps_and_left {st} p =
      let left : st.steps_left ≤ limit = (accepted_sound p).steps in
      omega arith

  -- (of a difference this is no more than arithmetic: the law above says that nothing was cut off)
  pub steps_within_limit : {c : Compiled} → compiled types m device limit output memory ≡ done c → c.steps ≤ limit
  unfolding compiled compiled_from
  steps_within_limit p =
      all_get {P = λ (c : Compiled). c.steps ≤ limit} (all_any (final_state types m device limit output memory) λ st. let less : limit - st.steps_left ≤ limit = omega arith in all_done less) p

  -- the catalog's bytes are within the output, and at most 65,535
  pub catalog_within : {c : Compiled} → compiled types m device limit output memory ≡ done c → (length c.catalog ≤ 65535) × (length c.catalog ≤ output)
  unfolding compiled compiled_from
  catalog_within p =
      all_get {P = λ (c : Compiled). (length c.catalog ≤ 65535) × (length c.catalog ≤ output)} (all_bind (final_sound types m device limit output memory) λ st h. all_done (within h)) p
