-- One law for each way through `is_chosen`, `run_item`, `run_items` and `run_prepared`. Assumes nothing.
use Prim.Native.Nat.{ℕ, ◌-◌, ◌%◌, ◌<◌, ◌≤◌}
use mathlib.Core.Path.{◌≡◌, refl, sym, ap, subst, ◌∙◌}
use mathlib.Core.Logic.{◌⊎◌, inl, inr}
use mathlib.Core.Bool.{Bool, true, false, not}
use mathlib.Core.List.{List, [], ◌∷◌}
use mathlib.Core.Option.{Option, none, some}
use native.Mathlib.Omega.{arith}
use lib.Dec.{eqb}
use lib.ListN.{length}
use borrow.Author.Tests.{ne_eqb, eq-eqb}
use Rattle.values.specs.declared.Refusal.{Refusal}
use Rattle.wire.specs.Bytes.{byte, end_of, fields_in}
use Rattle.rules.specs.Format.{allowed}
use Rattle.rules.specs.Check.{check}
use Rattle.rules.specs.Outcome.{Outcome, refused, done, ◌>>=◌}
use Rattle.rules.specs.Tree.{Definition, end, next, Item, node, Statement, Constant}
use Rattle.rules.specs.State.{Entry, State, Context, Known, take_step}
use Rattle.rules.specs.Run.{statement_place, run, run_block, declaration, run_at_top, top_context, node_context, gather_definitions, run_items}
use Rattle.rules.specs.Fields.{read_each, read_field}
use Rattle.rules.specs.Read.{items_from, manifest_of}
use Rattle.rules.specs.Types.{Types}
use Rattle.rules.specs.Compile.{is_built_in, known_with, items_for, room_in, start, run_manifest, onto, entries_in_order}
use Rattle.rules.specs.declared.Kind.TheVariants.{Statement as StatementKind, Item as ItemKind}
use Rattle.rules.proofs.Within.{false_not_true}
use Rattle.rules.proofs.Outcome.{bind_done}
use Rattle.places.specs.At.{statement_at, block_at, item_at, items_at, StandsAs}
use Rattle.places.proofs.Statements.{statement_place_lem}
use Rattle.places.proofs.Items.{statement_item, manifest_opens}
use Rattle.syntax.specs.Strings.{found_of}
use Rattle.syntax.specs.Nodes.{item_places, node_for, runs_at, running}
use Rattle.syntax.proofs.NodesRead.{items_for_lem}
use Rattle.wire.proofs.Fields.{no_fields, field_first}
use Rattle.cells.specs.Memory.{state_of}
use Rattle.memory.specs.Words.{asked_type, asked_title, asked_name, asked_label, note_word}
use Rattle.memory.proofs.Titles.{title_kept}
use Rattle.memory.proofs.Words.{words_kept}
use Rattle.provenance.specs.Notes.{Question, nothing_asked, asked_of, note_for, Noted}
use Rattle.provenance.proofs.Notes.{noted_same}
use Rattle.catalog.specs.Finding.{Written}
use Rattle.catalog_index.proofs.Keeping.{index_kept, index_none}
use Rattle.evaluator.specs.Known.{KnownIn}
use Rattle.evaluator.specs.Answers.{refused_by}
use Rattle.evaluator.proofs.Names.{ready_first}
use Rattle.execution.specs.Executed.{Able, Stage, state_with, Ends, refused_so as ends_refused, done_so as ends_done, AbleAfter, Executes, begun}
use Rattle.definitions.specs.Prepared.{Prepares, Blank, NodeBlock}
use Rattle.definitions.specs.Defined.{ItemStands, IsDefinition, with_definitions, OnlyNames, GathersTo, taken_so, known_so}
use Rattle.definitions.proofs.Definitions.{definition_there}
use Rattle.definitions.proofs.Gathering.{is_definition_lem, ItemsFrom, items_first, items_after}
use Rattle.compiler.specs.Running.{chosen_of, is_chosen, run_places, ItemsEnd, refused_so, goes_on, RunsTo, RunEnds, RunsManifest}
use Rattle.compiler.specs.Running as specs
use Rattle.std.specs.Prelude.{Option as CodeOption, Some, None, Result, Ok, Err}
use Rattle.rules.specs.Verdicts.{no_fault}

-- ---- is_chosen

pub chosen_at : (p : ℕ) {node : CodeOption ℕ} {q : ℕ} → node ≡ Some q → eqb p q ≡ is_chosen (chosen_of node) p
unfolding chosen_of is_chosen
chosen_at p e = rw e refl

pub chosen_none : (p : ℕ) {node : CodeOption ℕ} → node ≡ None → false ≡ is_chosen (chosen_of node) p
unfolding chosen_of is_chosen
chosen_none p e = rw e refl

-- ---- Which items run

module _ (m : List ℕ) (p : ℕ) where
  other_runs : (c : Option ℕ) → (byte m p ≡ 0x30 → ⊥) → runs_at m c p ≡ true
  unfolding runs_at
  other_runs none n = rw (ne_eqb _ _ n)
  other_runs (some q) n = rw (ne_eqb _ _ n)

  node_runs : (c : Option ℕ) → byte m p ≡ 0x30 → runs_at m c p ≡ is_chosen c p
  unfolding runs_at is_chosen
  node_runs none e = rw (eq-eqb _ _ e)
  node_runs (some q) e = rw (eq-eqb _ _ e)

  module _ (c : Option ℕ) (ps : List ℕ) (k : Known) (st : State) where
    runs_here : {i : Item} → runs_at m c p ≡ true → item_at m p ≡ i → run_places m c (p ∷ ps) k st ≡ run_items k (i ∷ items_at m (running m c ps)) st
    unfolding run_places running items_at
    runs_here h e = rw (h, e) refl

    passed_over : runs_at m c p ≡ false → run_places m c (p ∷ ps) k st ≡ run_places m c ps k st
    unfolding run_places running
    passed_over h = rw h refl

-- a tag of an item that is none of these is a statement's
statement_kind : (t : ℕ) → allowed ItemKind t ≡ true → (t ≡ 0x30 → ⊥) → (t ≡ 0x32 → ⊥) → (t ≡ 0x34 → ⊥) → allowed StatementKind t ≡ true
unfolding allowed
statement_kind t e a b c = rw (ne_eqb t 0x30 a, ne_eqb t 0x32 b, ne_eqb t 0x34 c) at e

-- ---- What comes after an item

module _ {m w out : List ℕ} {left : ℕ} {c : Option ℕ} {ps : List ℕ} {k : Known} {ask : Question} {o : Outcome State} where
  then_items : {a : Result ℕ Refusal} → Ends m w out left k ask o a → ItemsEnd m w out left c ps k ask (o >>= λ st. run_places m c ps k st) a
  unfolding ◌>>=◌
  then_items (ends_refused e) = refused_so (ap (λ (x : Outcome State). x >>= λ st. run_places m c ps k st) e)
  then_items (ends_done es e s) = goes_on es (ap (λ (x : Outcome State). x >>= λ st. run_places m c ps k st) e) s

items_same : {m w out : List ℕ} {left : ℕ} {c : Option ℕ} {ps : List ℕ} {k : Known} {ask : Question} {o o' : Outcome State} {a : Result ℕ Refusal} → o ≡ o' → ItemsEnd m w out left c ps k ask o' a → ItemsEnd m w out left c ps k ask o a
items_same e i = rw e i

-- ---- run_item

bind_nothing : (o : Outcome State) → (o >>= λ st. done st) ≡ o
unfolding ◌>>=◌
bind_nothing (refused r p) = refl
bind_nothing (done st) = refl

-- a statement outside others is a block of its own
alone : (k : Known) (s : Statement) (p : ℕ) (c : Context) (st : State) → statement_place s ≡ p → run_at_top k (next s end) c st ≡ begun 17 p s k c st
unfolding run_at_top run_block begun
alone k s p c st e = ap (λ (q : ℕ). take_step q st >>= λ st₁. run k (declaration k 17) s c st₁ >>= λ st₂. done st₂) e ∙ go (take_step p st)
  where
    go : (o : Outcome State) → (o >>= λ st₁. run k (declaration k 17) s c st₁ >>= λ st₂. done st₂) ≡ (o >>= λ st₁. run k (declaration k 17) s c st₁)
    go (refused r q) = unfold ◌>>=◌ in refl
    go (done st₁) = unfold ◌>>=◌ in bind_nothing (run k (declaration k 17) s c st₁)

not_true : (b : Bool) → not b ≡ true → b ≡ false
not_true false e = refl
not_true true e = false_not_true e

not_false : (b : Bool) → not b ≡ false → b ≡ true
not_false true e = refl
not_false false e = false_not_true (sym e)

-- what stands at p, by the tag read there
module _ (m : List ℕ) (p : ℕ) (s : ItemStands m p) {t : ℕ} (read : t ≡ byte m p) where
  pub stands_statement : (t ≡ 0x30 → ⊥) → ((t ≡ 0x32) ⊎ (t ≡ 0x34) → ⊥) → StandsAs m 32 StatementKind p
  stands_statement x y = record { stands = s.stands.stands; kind = statement_kind (byte m p) s.stands.kind (λ e. x (read ∙ e)) (λ e. y (inl (read ∙ e))) (λ e. y (inr (read ∙ e))) }

module _ (m : List ℕ) (p : ℕ) (c : Option ℕ) (w out : List ℕ) (fill left : ℕ) (able : Able m w out fill) (s : ItemStands m p) {t : ℕ} (read : t ≡ byte m p) where
  pub passes_over : {b : Bool} → t ≡ 0x30 → b ≡ is_chosen c p → not b ≡ true → (ps : List ℕ) → RunsTo m w w out out fill left left c (p ∷ ps) ps (Ok fill)
  unfolding AbleAfter
  passes_over e told h ps = record {
    able = able;
    steps = omega arith;
    says = λ k ask es i. goes_on es (passed_over m p c ps k (state_with w out fill left es) (node_runs m p c (sym read ∙ e) ∙ sym told ∙ not_true _ h)) i;
  }

  pub runs_node : (w' out' : List ℕ) {left' block : ℕ} {b : Bool} {a : Result ℕ Refusal} → t ≡ 0x30 → b ≡ is_chosen c p → not b ≡ false → NodeBlock m p block → Executes m w w' out out' fill left left' node_context a (λ k. run_block k (declaration k 17) (block_at m 31 block)) → (ps : List ℕ) → RunsTo m w w' out out' fill left left' c (p ∷ ps) ps a
  unfolding run_items run_at_top run_places
  runs_node w' out' e told h n x ps = record {
    able = x.able;
    steps = x.steps;
    says = λ k ask es i. items_same (runs_here m p c ps k (state_with w out fill left es) (node_runs m p c (sym read ∙ e) ∙ sym told ∙ not_false _ h) n.tree) (then_items (x.says k ask es i));
  }

  pub runs_statement : (w' out' : List ℕ) {left' : ℕ} {a : Result ℕ Refusal} → (t ≡ 0x30 → ⊥) → ((t ≡ 0x32) ⊎ (t ≡ 0x34) → ⊥) → Executes m w w' out out' fill left left' top_context a (begun 17 p (statement_at m 32 p)) → (ps : List ℕ) → RunsTo m w w' out out' fill left left' c (p ∷ ps) ps a
  unfolding run_items run_places
  runs_statement w' out' x y e ps = record {
    able = e.able;
    steps = e.steps;
    says = λ k ask es i.
        let st : State = state_with w out fill left es in
        let here = runs_here m p c ps k st (other_runs m p c (λ h. x (read ∙ h))) (statement_item (stands_statement m p s read x y)) in
        let itself = alone k (statement_at m 32 p) p top_context st (statement_place_lem m 32 p) in
        items_same (here ∙ ap (λ (o : Outcome State). o >>= λ st'. run_places m c ps k st') itself) (then_items (e.says k ask es i));
  }

  -- a definition does nothing
  pub passes_definition : (t ≡ 0x32) ⊎ (t ≡ 0x34) → (ps : List ℕ) → RunsTo m w w out out fill left left c (p ∷ ps) ps (Ok fill)
  unfolding AbleAfter run_places run_items
  passes_definition tag ps =
      let i = is_definition_lem s read tag in
      record { able = able; steps = omega arith; says = λ k ask es stage. goes_on es (runs_here m p c ps k (state_with w out fill left es) (other_runs m p c (not_node i)) (definition_there m p s i).tree) stage }
    where
      not_node : IsDefinition m p → byte m p ≡ 0x30 → ⊥
      not_node (inl e) h = let z : ◌≡◌ {A = ℕ} 0x32 0x30 = sym e ∙ h in omega arith
      not_node (inr e) h = let z : ◌≡◌ {A = ℕ} 0x34 0x30 = sym e ∙ h in omega arith

-- ---- run_items

module _ {m w₀ w w' out₀ out out' : List ℕ} {f₀ l₀ f l l' : ℕ} {c : Option ℕ} {before between after : List ℕ} where
  -- one run after the other
  and_then : {a : Result ℕ Refusal} → RunsTo m w₀ w out₀ out f₀ l₀ l c before between (Ok f) → RunsTo m w w' out out' f l l' c between after a → RunsTo m w₀ w' out₀ out' f₀ l₀ l' c before after a
  and_then {a} x y = record { able = y.able; steps = let i = x.steps in let j = y.steps in omega arith; says = λ k ask es i. go (x.says k ask es i) }
    where
      go : {k : Known} {ask : Question} {o : Outcome State} → ItemsEnd m w out l c between k ask o (Ok f) → ItemsEnd m w' out' l' c after k ask o a
      go (goes_on es e i) = items_same e (y.says _ _ es i)

-- up to the item at p all have run
pub record Along (m w₀ w out₀ out : List ℕ) (l₀ l f : ℕ) (c : Option ℕ) (p : ℕ) : Type 0 where
  pub memory : length w ≡ length w₀
  pub output : length out ≡ length out₀
  pub items : ItemsFrom m p
  pub runs : RunsTo m w₀ w out₀ out 0 l₀ l c (item_places m) (fields_in m p (length m)) (Ok f)

pub items_begin : (m w out : List ℕ) (left : ℕ) (c : Option ℕ) {p : ℕ} → Able m w out 0 → check m ≡ no_fault → p ≡ end_of m 0 → Along m w w out out left left 0 c p
unfolding item_places AbleAfter
items_begin m w out left c able sound e = record {
  memory = refl;
  output = refl;
  items = items_first m sound e;
  runs = rw e (record { able = able; steps = omega arith; says = λ k ask es i. goes_on es refl i });
}

module _ {m w₀ w out₀ out : List ℕ} {l₀ l f : ℕ} {c : Option ℕ} {p : ℕ} (so : Along m w₀ w out₀ out l₀ l f c p) where
  pub still_able : Able m w out f
  still_able = unfold AbleAfter in so.runs.able

  module _ (w' out' : List ℕ) {l' : ℕ} {a : Result ℕ Refusal} (here : p < length m) (x : (ps : List ℕ) → RunsTo m w w' out out' f l l' c (p ∷ ps) ps a) where
    this_one : RunsTo m w₀ w' out₀ out' 0 l₀ l' c (item_places m) (fields_in m (end_of m p) (length m)) a
    this_one = and_then so.runs (rw (field_first m p (length m) here) (x (fields_in m (end_of m p) (length m))))

    pub items_go_on : {g q : ℕ} → length w' ≡ length w → length out' ≡ length out → a ≡ Ok g → q ≡ end_of m p → Along m w₀ w' out₀ out' l₀ l' g c q
    items_go_on mem o told ahead = record { memory = mem ∙ so.memory; output = o ∙ so.output; items = items_after so.items here ahead; runs = rw ahead (rw told at this_one) }

    pub items_refuse : {why : Refusal} → a ≡ Err why → RunsTo m w₀ w' out₀ out' 0 l₀ l' c (item_places m) [] a
    unfolding AbleAfter
    items_refuse {why} told = rw told (record { able = tt; steps = this_one.steps; says = λ k ask es i. go (rw told at (this_one.says k ask es i)) })
      where
        go : {k : Known} {ask : Question} {o : Outcome State} → ItemsEnd m w' out' l' c (fields_in m (end_of m p) (length m)) k ask o (Err why) → ItemsEnd m w' out' l' c [] k ask o (Err why)
        go (refused_so e) = refused_so e

  pub items_done : length m ≤ p → RunsTo m w₀ w out₀ out 0 l₀ l c (item_places m) [] (Ok f)
  items_done h = rw (no_fields m p (length m) h) at so.runs

-- the walk has come to the item at p
pub come_to : {m w₀ w out₀ out : List ℕ} {l₀ l f : ℕ} {c : Option ℕ} {at p : ℕ} → Along m w₀ w out₀ out l₀ l f c at → at ≡ p → Along m w₀ w out₀ out l₀ l f c p
come_to {m} {w₀} {w} {out₀} {out} {l₀} {l} {f} {c} so here = subst (Along m w₀ w out₀ out l₀ l f c) here so

-- ---- The first item, and none left

items_read : (m : List ℕ) (qs : List ℕ) → items_from (read_each (read_field m 32) qs) ≡ items_at m qs
unfolding items_from items_at item_at read_each
items_read m [] = refl
items_read m (q ∷ qs) = ap (λ (is : List Item). item_at m q ∷ is) (items_read m qs)

chosen_found : (o : Option ℕ) → chosen_of (found_of o) ≡ o
unfolding chosen_of found_of
chosen_found none = refl
chosen_found (some q) = refl

none_left : (m : List ℕ) (c : Option ℕ) (k : Known) (st : State) → run_places m c [] k st ≡ done st
unfolding run_places running items_at run_items
none_left m c k st = refl

-- the steps and the entries of a state
state_steps : (w out : List ℕ) (f left : ℕ) (es : List Entry) → (state_with w out f left es).steps_left ≡ left
unfolding state_of
state_steps w out f left es = refl

state_written : (w out : List ℕ) (f left : ℕ) (es : List Entry) → Written out f (onto es []) → Written out f (entries_in_order (state_with w out f left es))
unfolding state_of entries_in_order
state_written w out f left es h = h

note_left : (w out : List ℕ) (f left : ℕ) (es : List Entry) (ask : Question) {n : ℕ} → n ≡ note_for ask es → n ≡ note_for ask (state_with w out f left es).entries
unfolding state_of
note_left w out f left es ask e = e

-- nothing is asked about in a memory whose words are 0
pub blank_noted : {w : List ℕ} → Blank w → Noted w nothing_asked []
unfolding asked_of nothing_asked note_for
blank_noted b = record {
  asked = λ i. record {
    type = b.words asked_type (omega arith) (omega arith) i;
    title = b.words asked_title (omega arith) (omega arith) i;
    name = b.words asked_name (omega arith) (omega arith) i;
    label = b.words asked_label (omega arith) (omega arith) i % 256;
  };
  note = b.words note_word (omega arith) (omega arith);
}

pub prepared_able : {types : Types} {m w out : List ℕ} (s : Constant → Bool) → Prepares types m w s → Able m w out 0
prepared_able s p = record { set = p.set; fine = p.fine; filled = omega arith }

-- ---- run_prepared

pub gathered_able : {m w w₁ out : List ℕ} {g : Result Unit Refusal} → Able m w out 0 → GathersTo m w w₁ (item_places m) [] g → g ≡ Ok tt → Able m w₁ out 0
gathered_able {m} {w} {w₁} {out} able x told = go (rw told at x)
  where
    go : GathersTo m w w₁ (item_places m) [] (Ok tt) → Able m w₁ out 0
    go (known_so only says) = record { set = only.set; fine = only.fine able.fine; filled = able.filled }

module _ (types : Types) (m device w out : List ℕ) (left : ℕ) (sound : check m ≡ no_fault) (s : Constant → Bool) (ask : Question) (ready : Prepares types m w s) (noted : Noted w ask []) where
  abbrev knowing : List Definition → Known
  knowing ds = known_with s types (manifest_of m).strings ds

  -- what the definition gathers
  abbrev gathering : Outcome (List Definition)
  gathering = gather_definitions (is_built_in types (manifest_of m).strings) [] (items_at m (item_places m))

  -- and what it does then
  abbrev running_with : List Definition → Outcome State
  running_with ds = run_items (knowing ds) (items_for (manifest_of m).strings device (manifest_of m).items) (start left (length out))

  run_follows : run_manifest s types (manifest_of m) device left (length out) ≡ (gathering >>= running_with)
  unfolding run_manifest item_places
  run_follows = ap (λ (is : List Item). gather_definitions (is_built_in types (manifest_of m).strings) [] is >>= running_with) (manifest_opens m sound).items

  -- a name is taken
  pub gathering_refused : (w' : List ℕ) {g : Result Unit Refusal} {why : Refusal} → GathersTo m w w' (item_places m) [] g → g ≡ Err why → RunsManifest types s ask m device w' out out left left (Err why)
  unfolding known_with ◌>>=◌
  gathering_refused w' {why = why} x told = record { steps = omega arith; ends = specs.refused_so (run_follows ∙ go (rw told at x)) }
    where
      go : GathersTo m w w' (item_places m) [] (Err why) → (gathering >>= running_with) ≡ refused_by why
      go (taken_so refuses) = ap (λ (o : Outcome (List Definition)). o >>= running_with) (refuses (knowing []) ready.known)

  -- the definitions are known in w₁
  module _ (w₁ : List ℕ) {g : Result Unit Refusal} (x : GathersTo m w w₁ (item_places m) [] g) (told : g ≡ Ok tt) where
    record KnownThen : Type 0 where
      only : OnlyNames m w w₁
      definitions : List Definition
      gathered : gathering ≡ done definitions
      known : KnownIn m w₁ (knowing definitions)

    known_then : KnownThen
    unfolding known_with with_definitions gather_definitions items_at
    known_then = go (rw told at x)
      where
        go : GathersTo m w w₁ (item_places m) [] (Ok tt) → KnownThen
        go (known_so only says) = let y = says (knowing []) ready.known in record { only = only; definitions = y.definitions; gathered = y.left; known = y.known }

    first_stage : Stage m w₁ out 0 (knowing known_then.definitions) ask []
    first_stage = record {
      ready = ready_first m w₁ out known_then.known (index_kept w w₁ [] known_then.only.rest (index_none w ready.index));
      title = unfold known_with in title_kept w w₁ known_then.only.rest ∙ ready.title;
      noted = noted_same (λ j l. words_kept w w₁ known_then.only.rest j) noted;
    }

    first_state : state_with w₁ out 0 left [] ≡ start left (length out)
    first_state = let all : room_in (length out) - 0 ≡ room_in (length out) = omega arith in ap (state_of w₁ [] left) all ∙ known_then.only.state [] left (room_in (length out)) ∙ ready.state left (length out)

    whole_run : {n : CodeOption ℕ} → n ≡ found_of (node_for m device) → run_manifest s types (manifest_of m) device left (length out) ≡ run_places m (chosen_of n) (item_places m) (knowing known_then.definitions) (state_with w₁ out 0 left [])
    unfolding run_places
    whole_run e = run_follows ∙ bind_done running_with known_then.gathered ∙ rw (items_for_lem m device sound, items_read m (running m (node_for m device) (item_places m)), e, chosen_found (node_for m device), first_state) refl

    pub manifest_runs : (w' out' : List ℕ) {left' : ℕ} {n : CodeOption ℕ} {a : Result ℕ Refusal} → n ≡ found_of (node_for m device) → RunsTo m w₁ w' out out' 0 left left' (chosen_of n) (item_places m) [] a → RunsManifest types s ask m device w' out out' left left' a
    manifest_runs w' out' {left'} {n} e y = record { steps = y.steps; ends = go y.able (whole_run e) (y.says (knowing known_then.definitions) ask [] first_stage) }
      where
        go : {k : Known} {a : Result ℕ Refusal} {o o' : Outcome State} → AbleAfter m w' out' a → o' ≡ o → ItemsEnd m w' out' left' (chosen_of n) [] k ask o a → RunEnds w' out' left' ask o' a
        go able same (refused_so h) = specs.refused_so (same ∙ h)
        go {k} able same (goes_on {f = f} es h i) =
            let st : State = state_with w' out' f left' es in
            specs.done_so st (same ∙ h ∙ none_left m (chosen_of n) k st) (state_steps w' out' f left' es) (state_written w' out' f left' es i.ready.catalog) (unfold AbleAfter in able.filled) (note_left w' out' f left' es ask i.noted.note)
