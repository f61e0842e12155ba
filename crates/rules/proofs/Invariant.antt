-- What holds of the state of every accepted run: one invariant, followed through the definition of a run line by line. The steps left are at most
-- the limit; the bytes of the entries and the room left are the room at the start; type and title are once in the catalog and a name once in an
-- entry; and, under the premise `Given` (see Fits.antt), every value, mark, label set and entry is in its range. Assumes nothing.
use mathlib.Core.Path.{◌≡◌}
use mathlib.Core.Bool.{Bool, true, false, ◌&&◌, ◌||◌}
use mathlib.Core.List.{List, ◌∷◌}
use mathlib.Core.Option.{Option, none, some}
use Prim.Native.Nat.{ℕ, zero, suc, ◌+◌, ◌-◌, ◌≤◌}
use native.Mathlib.Omega.{arith}
use borrow.Author.Tests.{ltb-false}
use lib.Dec.{eqb, ltb}
use lib.ListN.{length, length-append}
use Rattle.labels.specs.declared.Labels.{Labels}
use Rattle.labels.specs.Sets.{◌∪◌, Words64}
use Rattle.labels.proofs.Laws.{words_none, words_union}
use Rattle.values.specs.declared.Labelled.{Labelled}
use Rattle.values.specs.declared.Reason.TheVariants.{StepLimit}
use Rattle.rules.specs.Outcome.{refused, done}
use Rattle.rules.specs.Tree.{Constant, Expression, AttributeField, Statement, Block, Branches, Parameter, Parent, ClassDefinition, Item}
use Rattle.rules.specs.State.{Scope, same_scope, body_scope, DeclaredClass, Cell, no_cell, value_into, mark_into, freed, Entry, State, Context, Known, is_declared, take_step, assign, trail_with, tested, mark_declared, free, with_entry}
use Rattle.rules.specs.Evaluate.{any, is_entry, evaluate}
use Rattle.rules.specs.Catalog.{entry_bytes, catalog_bytes}
use Rattle.rules.specs.Run.{assigns_in, assigns_any, declares_in, declares_any, path_and_trail, with_path_and_trail, in_branch, stored, store, Given as GivenValue, is_given, evaluate_all, default_of, given_or, parameter_values, store_all, store_title, attributes_under, entry_from, add_entry, add_resource, after_test, Declaration, of_type, of_class, included, Declare, statement_place, run, run_block, branch_patterns, placed_under, in_class, in_body, parent_first, enter_class, declaration, run_at_top, top_context, node_context, run_items}
use Rattle.rules.proofs.Lists.{Perhaps, not_there, there, Each, none_left, also, found}
use Rattle.rules.specs.Patterns.{tried_labels}
use Rattle.rules.proofs.Patterns.{every_none, every_constant, every_default, EveryBranch, branch_holds, tried_labels_fit}
use Rattle.rules.proofs.Outcome.{All, all_refused, all_done, all_bind, all_any, all_if, all_passed, all_found, all_at}
use Rattle.rules.proofs.ReadBack.{FitsAttribute, FitsEntry}
use Rattle.rules.proofs.Fits.{FitsName, FitsConstant, FitsExpression, FitsAttributeField, FitsStatement, fits_assignment, fits_conditional, fits_choice, fits_resource, fits_defined, fits_class, fits_include, fits_unreadable_statement, FitsBlock, fits_end, fits_next, FitsBranches, fits_no_branch, fits_branch, fits_default_branch, FitsParameter, FitsParent, FitsClassDefinition, FitsDefinition, FitsItem, fits_statement_item, fits_node, fits_definition_item, type_found, class_found}
use Rattle.rules.proofs.Ranges.{Ranged, string_fits, constant_fits, CellFits, CellsFit, evaluate_fits}
use Rattle.rules.proofs.Unique.{UniqueEntries, UniqueNames, unique, has_key, key_of, named_once_lem, unique_under}

-- limit: the steps allowed; room: the bytes that entries may take
module _ (Given : Type 0) (limit room : ℕ) where
  pub record Sound (st : State) : Type 0 where
    pub steps : st.steps_left ≤ limit
    pub bytes : st.room + length (catalog_bytes st.entries) ≡ room
    pub once : UniqueEntries st.entries
    pub names_once : Each (λ (e : Entry). UniqueNames e.attributes) st.entries
    pub cells : CellsFit Given st.cells
    pub trail : Given → Words64 st.trail
    pub entries : Each (λ (e : Entry). Given → FitsEntry e) st.entries

  -- ---- Changes of the state

  step_sound : (p : ℕ) (st : State) → Sound st → All Sound (take_step p st)
  unfolding take_step
  step_sound p st s = go st.steps_left s.steps
    where
      go : (n : ℕ) → n ≤ limit → All Sound (elim n [
        | zero ↦ refused StepLimit p
        | suc m ↦ done (record { cells = st.cells; used = st.used; classes = st.classes; trail = st.trail; entries = st.entries; steps_left = m; room = st.room })
      ])
      go zero h = all_refused
      go (suc m) h = let less : m ≤ limit = omega arith in all_done (record { steps = less; bytes = s.bytes; once = s.once; names_once = s.names_once; cells = s.cells; trail = s.trail; entries = s.entries })

  value_into_fits : (b : Bool) {x : Labelled} {c : Cell} → Ranged Given x → CellFits Given c → CellFits Given (value_into b x c)
  unfolding value_into
  value_into_fits true f h = record { value = there f; mark = h.mark }
  value_into_fits false f h = h

  mark_into_fits : (b : Bool) (k : Labels) (c : Cell) → (Given → Words64 k) → CellFits Given c → CellFits Given (mark_into b k c)
  unfolding mark_into
  mark_into_fits true k c f h = record { value = h.value; mark = λ y. words_union k c.mark (f y) (h.mark y) }
  mark_into_fits false k c f h = h

  pub no_cell_fits : CellFits Given no_cell
  unfolding no_cell
  no_cell_fits = record { value = not_there; mark = λ y. words_none }

  freed_fits : (b : Bool) {c : Cell} → CellFits Given c → CellFits Given (freed b c)
  unfolding freed
  freed_fits true h = no_cell_fits
  freed_fits false h = h

  assign_sound : (p : ℕ) (s : Scope) (n : ℕ) (x : Labelled) (st : State) → Ranged Given x → Sound st → All Sound (assign p s n x st)
  unfolding assign
  assign_sound p s n x st f h = all_any _ λ _. all_any _ λ _. all_done (record {
    steps = h.steps;
    bytes = h.bytes;
    once = h.once;
    names_once = h.names_once;
    trail = h.trail;
    entries = h.entries;
    cells = λ t m. value_into_fits (same_scope t s && eqb m n) f (h.cells t m);
  })

  trail_fits : (b : Bool) (k t : Labels) → (Given → Words64 k) → (Given → Words64 t) → Given → Words64 (trail_with b k t)
  unfolding trail_with
  trail_fits true k t f h = λ y. words_union k t (f y) (h y)
  trail_fits false k t f h = h

  tested_sound : (s : Scope) (names : ℕ → Bool) (declares : Bool) (k : Labels) (st : State) → (Given → Words64 k) → Sound st → Sound (tested s names declares k st)
  unfolding tested
  tested_sound s names declares k st f h = record {
    steps = h.steps;
    bytes = h.bytes;
    once = h.once;
    names_once = h.names_once;
    entries = h.entries;
    cells = λ t m. mark_into_fits (same_scope t s && names m) k (st.cells t m) f (h.cells t m);
    trail = trail_fits declares k st.trail f h.trail;
  }

  declared_sound : (q : ℕ) (d : DeclaredClass) (st : State) → Sound st → Sound (mark_declared q d st)
  unfolding mark_declared
  declared_sound q d st h = record { steps = h.steps; bytes = h.bytes; once = h.once; names_once = h.names_once; cells = h.cells; trail = h.trail; entries = h.entries }

  free_sound : (s : Scope) (st : State) → Sound st → Sound (free s st)
  unfolding free
  free_sound s st h = record {
    steps = h.steps;
    bytes = h.bytes;
    once = h.once;
    names_once = h.names_once;
    trail = h.trail;
    entries = h.entries;
    cells = λ t m. freed_fits (same_scope t s) (h.cells t m);
  }

  -- an entry of a new key, that there is room for (23)
  entry_sound : (p : ℕ) (e : Entry) (st : State)
      → any (has_key (key_of e)) st.entries ≡ false → UniqueNames e.attributes → (Given → FitsEntry e) → Sound st → All Sound (add_entry p e st)
  unfolding add_entry with_entry catalog_bytes
  entry_sound p e st new names f h = all_bind (all_passed (ltb st.room (length (entry_bytes e))) _ _) λ _ t.
      let enough : length (entry_bytes e) ≤ st.room = ltb-false st.room (length (entry_bytes e)) t in
      let size : length (catalog_bytes (e ∷ st.entries)) ≡ length (entry_bytes e) + length (catalog_bytes st.entries) = length-append (entry_bytes e) (catalog_bytes st.entries) in
      let start : st.room + length (catalog_bytes st.entries) ≡ room = h.bytes in
      let sum : (st.room - length (entry_bytes e)) + length (catalog_bytes (e ∷ st.entries)) ≡ room = omega arith in
      all_done (record {
        steps = h.steps;
        cells = h.cells;
        trail = h.trail;
        bytes = sum;
        once = unique new h.once;
        names_once = also names h.names_once;
        entries = also f h.entries;
      })

  -- ---- Attributes and parameters

  pub record GivenFits (g : GivenValue) : Type 0 where
    pub name : FitsName Given g.name
    pub content : Ranged Given g.content

  abbrev pub PathFits : Context → Type 0
  PathFits c = Given → Words64 c.path

  path_and_trail_fit : (c : Context) (st : State) (k : Labels) → PathFits c → Sound st → (Given → Words64 k) → Given → Words64 (path_and_trail c st ∪ k)
  path_and_trail_fit c st k w h f = λ y. words_union (path_and_trail c st) k (words_union c.path st.trail (w y) (h.trail y)) (f y)

  with_path_and_trail_fit : (c : Context) (st : State) (k : Labels) → PathFits c → Sound st → (Given → Words64 k) → Given → Words64 (with_path_and_trail c st k)
  unfolding with_path_and_trail
  with_path_and_trail_fit = path_and_trail_fit

  branch_path_fits : (k : Labels) (c : Context) → (Given → Words64 k) → PathFits c → PathFits (in_branch k c)
  unfolding in_branch
  branch_path_fits k c f w = λ y. words_union k c.path (f y) (w y)

  store_sound : (c : Context) (p n : ℕ) (x : Labelled) (st : State) → Ranged Given x → PathFits c → Sound st → All Sound (store c p n x st)
  unfolding store stored
  store_sound c p n x st f w h =
      assign_sound p c.scope n (stored c st x) st (λ y. record { value = (f y).value; labels = path_and_trail_fit c st x.labels w h (λ z. (f z).labels) y }) h

  store_all_sound : (c : Context) {gs : List GivenValue} (st : State) → Each GivenFits gs → PathFits c → Sound st → All Sound (store_all c gs st)
  unfolding store_all
  store_all_sound c st none_left w h = all_done h
  store_all_sound c st (also {x = g} f fs) w h = all_bind (store_sound c g.place g.name g.content st f.content w h) λ st' h'. store_all_sound c st' fs w h'

  title_sound : (o : Option ℕ) (c : Context) (p : ℕ) (x : Labelled) (st : State) → Ranged Given x → PathFits c → Sound st → All Sound (store_title o c p x st)
  unfolding store_title
  title_sound none c p x st f w h = all_done h
  title_sound (some n) c p x st f w h = store_sound c p n x st f w h

  value_fits : (k : Known) (c : Context) (st : State) {e : Expression} → FitsExpression Given e → Sound st → All (Ranged Given) (evaluate k c st e)
  value_fits k c st f h = evaluate_fits Given k c st h.cells h.entries f

  given_fits : (k : Known) (c : Context) (st : State) {ats : List AttributeField} → Each (FitsAttributeField Given) ats → Sound st → All (Each GivenFits) (evaluate_all k c st ats)
  unfolding evaluate_all
  given_fits k c st none_left h = all_done none_left
  given_fits k c st (also f fs) h =
      all_bind (value_fits k c st f.expression h) λ x g. all_bind (given_fits k c st fs h) λ gs gf.
      all_done (also (record { name = f.name; content = g }) gf)

  default_fits : {o : Option Constant} → Perhaps (FitsConstant Given) o → Perhaps (Ranged Given) (default_of o)
  unfolding default_of
  default_fits not_there = not_there
  default_fits (there f) = there (constant_fits Given f)

  given_or_fits : {o : Option GivenValue} {d : Option Labelled} → Perhaps GivenFits o → Perhaps (Ranged Given) d → Perhaps (Ranged Given) (given_or o d)
  unfolding given_or
  given_or_fits not_there g = g
  given_or_fits (there f) g = there f.content

  parameters_fit : {qs : List Parameter} {gs : List GivenValue} → Each (FitsParameter Given) qs → Each GivenFits gs → All (Each GivenFits) (parameter_values qs gs)
  unfolding parameter_values
  parameters_fit none_left g = all_done none_left
  parameters_fit (also {x = q} f fs) g =
      all_bind (all_found _ _ (given_or_fits (found (is_given q.name) g) (default_fits f.default))) λ x h. all_bind (parameters_fit fs g) λ vs hs.
      all_done (also (record { name = f.name; content = h }) hs)

  -- ---- Resources of built-in types

  attributes_fit : (k : Labels) (c : Context) (st : State) {gs : List GivenValue} → (Given → Words64 k) → PathFits c → Sound st → Each GivenFits gs
      → Given → Each FitsAttribute (attributes_under k c st gs)
  unfolding attributes_under stored
  attributes_fit k c st l w h none_left y = none_left
  attributes_fit k c st l w h (also {x = g} f fs) y =
      let set : Words64 (path_and_trail c st ∪ g.content.labels) = path_and_trail_fit c st g.content.labels w h (λ z. (f.content z).labels) y in
      also (record { name = f.name y; content = record { value = (f.content y).value; labels = words_union k (path_and_trail c st ∪ g.content.labels) (l y) set } })
      (attributes_fit k c st l w h fs y)

  resource_sound : (k : Known) (p t m : ℕ) (l : Labels) (o : ℕ → Labels) {gs : List GivenValue} (c : Context) (st : State)
      → FitsName Given t → FitsName Given m → (Given → Words64 l) → Each GivenFits gs → PathFits c → Sound st → All Sound (add_resource k p t m l o gs c st)
  unfolding add_resource entry_from
  resource_sound k p t m l o {gs} c st tf mf lf gf w h =
      let set : Given → Words64 (with_path_and_trail c st l) = with_path_and_trail_fit c st l w h lf in
      all_any _ λ _. all_bind (all_passed (any (is_entry t m) st.entries) _ _) λ _ new. all_bind (named_once_lem gs) λ _ names.
      entry_sound p (entry_from t m l o c st gs) st new (unique_under (with_path_and_trail c st l) c st names)
      (λ y. record { type = tf y; title = mf y; labels = set y; attributes = attributes_fit (with_path_and_trail c st l) c st set w h gf y }) h

  -- ---- Statements

  pub data DeclarationFits : Declaration → Type 0 where
    type_fits : {p t : ℕ} {x : Labelled} {gs : List GivenValue} → Ranged Given x → Each GivenFits gs → DeclarationFits (of_type p t x gs)
    class_fits : {p q : ℕ} {gs : List GivenValue} → Each GivenFits gs → DeclarationFits (of_class p q gs)
    included_fits : {p q : ℕ} → DeclarationFits (included p q)

  -- what is asked of a declaration one level below
  pub record Keeps (declare : Declare) : Type 0 where
    pub sound : {d : Declaration} → DeclarationFits d → (c : Context) (st : State) → PathFits c → Sound st → All Sound (declare d c st)

  after_test_sound : (p : ℕ) (c : Context) (names : ℕ → Bool) (declares : Bool) (k : Labels) (st : State) → (Given → Words64 k) → Sound st → All Sound (after_test p c names declares k st)
  unfolding after_test
  after_test_sound p c names declares k st f h = all_any _ λ _. all_done (tested_sound c.scope names declares k st f h)

  module _ (k : Known) (declare : Declare) (below : Keeps declare) where
    mutual
      unfolding run

      run_sound : {s : Statement} → FitsStatement Given s → (c : Context) (st : State) → PathFits c → Sound st → All Sound (run k declare s c st)
      run_sound (fits_assignment {p = p} {n = n} _ e) c st w h = all_bind (value_fits k c st e h) λ x f. store_sound c p n x st f w h
      run_sound (fits_conditional {p = p} {a = a} {b = b} e fa fb) c st w h =
          all_bind (value_fits k c st e h) λ x f. all_any _ λ t.
          let l : Given → Words64 (with_path_and_trail c st x.labels) = with_path_and_trail_fit c st x.labels w h (λ y. (f y).labels) in
          let w' : PathFits (in_branch (with_path_and_trail c st x.labels) c) = branch_path_fits (with_path_and_trail c st x.labels) c l w in
          all_bind (after_test_sound p c (λ n. assigns_in a n || assigns_in b n) (declares_in a || declares_in b) (with_path_and_trail c st x.labels) st l h) λ st' h'.
          all_if t (block_sound fa (in_branch (with_path_and_trail c st x.labels) c) st' w' h') (block_sound fb (in_branch (with_path_and_trail c st x.labels) c) st' w' h')
      run_sound (fits_choice {p = p} {bs = bs} e fb) c st w h =
          all_bind (value_fits k c st e h) λ x f. all_any _ λ _.
          let set : Labels = x.labels ∪ tried_labels (branch_patterns k declare bs) x.value in
          let l : Given → Words64 (with_path_and_trail c st set) =
          with_path_and_trail_fit c st set w h (λ y. words_union x.labels (tried_labels (branch_patterns k declare bs) x.value) (f y).labels (tried_labels_fit (branch_patterns k declare bs) x.value)) in
          let w' : PathFits (in_branch (with_path_and_trail c st set) c) = branch_path_fits (with_path_and_trail c st set) c l w in
          all_bind (after_test_sound p c (assigns_any bs) (declares_any bs) (with_path_and_trail c st set) st l h) λ st' h'.
          branch_holds (branches_sound fb (in_branch (with_path_and_trail c st set) c) st' w' h') x.value h'
      run_sound (fits_resource {p = p} {t = t} tf e fs) c st w h =
          all_bind (value_fits k c st e h) λ x f. all_bind (all_at _ (string_fits Given x.value (λ y. (f y).value))) λ m mf.
          all_bind (given_fits k c st fs h) λ gs gf. resource_sound k p t m x.labels _ c st tf mf (λ y. (f y).labels) gf w h
      run_sound (fits_defined tf e fs) c st w h =
          all_bind (value_fits k c st e h) λ x f. all_any _ λ m. all_bind (given_fits k c st fs h) λ gs gf. below.sound (type_fits f gf) c st w h
      run_sound (fits_class _ fs) c st w h = all_bind (given_fits k c st fs h) λ gs gf. below.sound (class_fits gf) c st w h
      run_sound (fits_include {q = q} _) c st w h = all_if (is_declared q st) (all_done h) (below.sound included_fits c st w h)
      run_sound fits_unreadable_statement c st w h = all_refused

      block_sound : {b : Block} → FitsBlock Given b → (c : Context) (st : State) → PathFits c → Sound st → All Sound (run_block k declare b c st)
      block_sound fits_end c st w h = all_done h
      block_sound (fits_next {s = s} f fs) c st w h =
          all_bind (step_sound (statement_place s) st h) λ st₁ h₁. all_bind (run_sound f c st₁ w h₁) λ st₂ h₂. block_sound fs c st₂ w h₂

      branches_sound : {bs : Branches} → FitsBranches Given bs → (c : Context) (st : State) → PathFits c → Sound st → EveryBranch Sound c st (branch_patterns k declare bs)
      branches_sound fits_no_branch c st w h = every_none
      branches_sound (fits_branch _ f fs) c st w h = every_constant (block_sound f c st w h) (branches_sound fs c st w h)
      branches_sound (fits_default_branch f fs) c st w h = every_default (block_sound f c st w h) (branches_sound fs c st w h)

    -- ---- Declarations

    parent_sound : {o : Option Parent} → Perhaps (FitsParent Given) o → (c : Context) (st : State) → PathFits c → Sound st → All Sound (parent_first k declare o c st)
    unfolding parent_first
    parent_sound not_there c st w h = all_done h
    parent_sound (there {x = q} f) c st w h = all_if (is_declared q.name st) (all_done h) (all_bind (step_sound q.place st h) λ st' h'. below.sound included_fits c st' w h')

    enter_sound : {d : ClassDefinition} (ds : List Constant) {vs : List GivenValue} → FitsClassDefinition Given d → Each GivenFits vs → (c : Context) (st : State) → PathFits c → Sound st
        → All Sound (enter_class k declare d ds vs c st)
    unfolding enter_class in_class
    enter_sound {d} ds f g c st w h =
        let above : DeclaredClass = placed_under d.parent c st in
        all_any _ λ _. all_bind (store_all_sound (in_class d.name above c) (mark_declared d.name above st) g w (declared_sound d.name above st h)) λ st' h'.
        block_sound f.body (in_class d.name above c) st' w h'

  -- a level, given the one below it
  level_sound : (k : Known) → Each (FitsDefinition Given) k.definitions → (n : ℕ) → Keeps (declaration k n)
      → {d : Declaration} → DeclarationFits d → (c : Context) (st : State) → PathFits c → Sound st → All Sound (declaration k (suc n) d c st)
  unfolding declaration in_body
  level_sound k defs n below (type_fits {p = p} {t = t} {x = x} f g) c st w h =
      all_bind (all_found _ _ (type_found t defs)) λ d df. all_any _ λ _. all_bind (parameters_fit df.parameters g) λ vs vf. all_any _ λ _.
      all_bind (title_sound k.title (in_body n c) p x st f w h) λ st₁ h₁. all_any _ λ _. all_bind (store_all_sound (in_body n c) st₁ vf w h₁) λ st₂ h₂.
      all_bind (block_sound k (declaration k n) below df.body (in_body n c) st₂ w h₂) λ st₃ h₃. all_done (free_sound (body_scope n) st₃ h₃)
  level_sound k defs n below (class_fits {p = p} {q = q} g) c st w h =
      all_bind (all_found _ _ (class_found q defs)) λ d df. all_any _ λ _. all_any _ λ _. all_bind (parameters_fit df.parameters g) λ vs vf. all_any _ λ _.
      all_bind (parent_sound k (declaration k n) below df.parent c st w h) λ st₁ h₁. all_any _ λ _. enter_sound k (declaration k n) below _ df vf c st₁ w h₁
  level_sound k defs n below (included_fits {p = p} {q = q}) c st w h =
      all_bind (all_found _ _ (class_found q defs)) λ d df. all_bind (parameters_fit df.parameters none_left) λ vs vf.
      all_bind (parent_sound k (declaration k n) below df.parent c st w h) λ st₁ h₁. all_if (is_declared q st₁) (all_done h₁) (enter_sound k (declaration k n) below _ df vf c st₁ w h₁)

  declaration_sound : (k : Known) → Each (FitsDefinition Given) k.definitions → (n : ℕ) → Keeps (declaration k n)
  unfolding declaration
  declaration_sound k defs zero = record { sound = λ f c st w h. all_refused }
  declaration_sound k defs (suc n) = record { sound = λ f c st w h. level_sound k defs n (declaration_sound k defs n) f c st w h }

  -- ---- Items

  top_sound : (k : Known) → Each (FitsDefinition Given) k.definitions → {b : Block} → FitsBlock Given b → (c : Context) (st : State) → PathFits c → Sound st → All Sound (run_at_top k b c st)
  unfolding run_at_top
  top_sound k defs f c st w h = block_sound k (declaration k 17) (declaration_sound k defs 17) f c st w h

  pub items_sound : (k : Known) → Each (FitsDefinition Given) k.definitions → {is : List Item} → Each (FitsItem Given) is → (st : State) → Sound st → All Sound (run_items k is st)
  unfolding run_items top_context node_context
  items_sound k defs none_left st h = all_done h
  items_sound k defs (also (fits_statement_item f) fs) st h = all_bind (top_sound k defs (fits_next f fits_end) top_context st (λ y. words_none) h) λ st' h'. items_sound k defs fs st' h'
  items_sound k defs (also (fits_node _ f) fs) st h = all_bind (top_sound k defs f node_context st (λ y. words_none) h) λ st' h'. items_sound k defs fs st' h'
  items_sound k defs (also (fits_definition_item f) fs) st h = items_sound k defs fs st h
