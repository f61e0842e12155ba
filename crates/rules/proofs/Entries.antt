-- What holds of every entry of the catalog: nothing changes an entry once it is there, and only a resource of a built-in type adds one. So what each
-- such resource adds holds of all entries of every state that a run passes. Assumes nothing.
use Prim.Native.Nat.{ℕ, zero, suc}
use mathlib.Core.Bool.{Bool}
use mathlib.Core.List.{List, [], ◌∷◌}
use mathlib.Core.Option.{Option, none, some}
use Rattle.labels.specs.declared.Labels.{Labels}
use Rattle.values.specs.declared.Labelled.{Labelled}
use Rattle.rules.specs.Tree.{Constant, Expression, AttributeField, Statement, assignment, conditional, choice, built_in_resource, defined_resource, class_with_attributes, include, Block, end, next, Branches, no_branch, branch, default_branch, Parent, ClassDefinition, Item, statement, node, definition}
use Rattle.rules.specs.Tree
use Rattle.rules.specs.State.{Entry, State, Context, Known, is_declared, assign, tested, mark_declared, free}
use Rattle.rules.specs.Run.{store, Given, store_all, store_title, after_test, Declaration, of_type, of_class, included, Declare, run, run_block, branch_patterns, placed_under, in_class, in_body, parent_first, enter_class, declaration, run_at_top, top_context, node_context, run_items}
use Rattle.rules.specs.Types.{Types}
use Rattle.rules.specs.Compile.{start, run_manifest, final_state}
use Rattle.rules.proofs.Lists.{Each, none_left}
use Rattle.rules.proofs.Patterns.{every_none, every_constant, every_default, EveryBranch, branch_holds}
use Rattle.rules.proofs.Outcome.{All, all_refused, all_done, all_bind, all_any, all_if, all_step, with_steps}

module _ (P : Entry → Type 0) where
  abbrev pub Entries : State → Type 0
  Entries st = Each P st.entries

  -- what is asked of a resource of a built-in type
  pub record Adds : Type 0 where
    pub adds : (known : Known) (declare : Declare) (p type : ℕ) (e : Expression) (ats : List AttributeField) (here : Context) (st : State) → Entries st → All Entries (run known declare (built_in_resource p type e ats) here st)

  -- what is asked of a declaration one level below
  record Keeps (declare : Declare) : Type 0 where
    keeps : (asked : Declaration) (here : Context) (st : State) → Entries st → All Entries (declare asked here st)

  -- ---- Changes of the state

  store_entries : (here : Context) (p n : ℕ) (x : Labelled) (st : State) → Entries st → All Entries (store here p n x st)
  unfolding store assign
  store_entries here p n x st h = all_any _ λ _. all_any _ λ _. all_done h

  store_all_entries : (here : Context) (gs : List Given) (st : State) → Entries st → All Entries (store_all here gs st)
  unfolding store_all
  store_all_entries here [] st h = all_done h
  store_all_entries here (g ∷ gs) st h = all_bind (store_entries here g.place g.name g.content st h) λ st' h'. store_all_entries here gs st' h'

  title_entries : (name : Option ℕ) (here : Context) (p : ℕ) (x : Labelled) (st : State) → Entries st → All Entries (store_title name here p x st)
  unfolding store_title
  title_entries none here p x st h = all_done h
  title_entries (some n) here p x st h = store_entries here p n x st h

  test_entries : (p : ℕ) (here : Context) (names : ℕ → Bool) (declares : Bool) (k : Labels) (st : State) → Entries st → All Entries (after_test p here names declares k st)
  unfolding after_test tested
  test_entries p here names declares k st h = all_any _ λ _. all_done h

  -- ---- Statements and blocks

  module _ (adds : Adds) where
    module _ (known : Known) (declare : Declare) (below : Keeps declare) where
      mutual
        unfolding run

        run_entries : (s : Statement) (here : Context) (st : State) → Entries st → All Entries (run known declare s here st)
        run_entries (assignment p name e) here st h = all_any _ λ x. store_entries here p name x st h
        run_entries (conditional p e a b) here st h = all_any _ λ x. all_any _ λ z. all_bind (test_entries p here _ _ _ st h) λ st' h'. all_if z (block_entries a _ st' h') (block_entries b _ st' h')
        run_entries (choice p e bs) here st h = all_any _ λ x. all_any _ λ _. all_bind (test_entries p here _ _ _ st h) λ st' h'. branch_holds (branches_entries bs _ st' h') x.value h'
        run_entries (built_in_resource p type e ats) here st h = adds.adds known declare p type e ats here st h
        run_entries (defined_resource p type e ats) here st h = all_any _ λ x. all_any _ λ m. all_any _ λ gs. below.keeps _ here st h
        run_entries (class_with_attributes p q ats) here st h = all_any _ λ gs. below.keeps _ here st h
        run_entries (include p q) here st h = all_if (is_declared q st) (all_done h) (below.keeps _ here st h)
        run_entries (Statement.unreadable p) here st h = all_refused

        block_entries : (b : Block) (here : Context) (st : State) → Entries st → All Entries (run_block known declare b here st)
        block_entries end here st h = all_done h
        block_entries (next s b) here st h = all_step _ st _ λ m. all_bind (run_entries s here (with_steps m st) h) λ st' h'. block_entries b here st' h'

        branches_entries : (bs : Branches) (here : Context) (st : State) → Entries st → EveryBranch Entries here st (branch_patterns known declare bs)
        branches_entries no_branch here st h = every_none
        branches_entries (branch v b bs) here st h = every_constant (block_entries b here st h) (branches_entries bs here st h)
        branches_entries (default_branch b bs) here st h = every_default (block_entries b here st h) (branches_entries bs here st h)

      -- ---- Declarations

      parent_entries : (o : Option Parent) (here : Context) (st : State) → Entries st → All Entries (parent_first known declare o here st)
      unfolding parent_first
      parent_entries none here st h = all_done h
      parent_entries (some q) here st h = all_if (is_declared q.name st) (all_done h) (all_step _ st _ λ m. below.keeps _ here (with_steps m st) h)

      enter_entries : (class : ClassDefinition) (defaults : List Constant) (values : List Given) (here : Context) (st : State) → Entries st → All Entries (enter_class known declare class defaults values here st)
      unfolding enter_class mark_declared
      enter_entries class defaults values here st h = all_any _ λ _.
          all_bind (store_all_entries (in_class class.name (placed_under class.parent here st) here) values (mark_declared class.name (placed_under class.parent here st) st) h) λ st' h'.
          block_entries class.body (in_class class.name (placed_under class.parent here st) here) st' h'

    -- a level, given the one below it
    level_entries : (known : Known) (n : ℕ) → Keeps (declaration known n) → (asked : Declaration) (here : Context) (st : State) → Entries st → All Entries (declaration known (suc n) asked here st)
    unfolding declaration free
    level_entries known n below (of_type p name title gs) here st h =
        all_any _ λ type. all_any _ λ _. all_any _ λ values. all_any _ λ _.
        all_bind (title_entries known.title (in_body n here) p title st h) λ st₁ h₁. all_any _ λ _.
        all_bind (store_all_entries (in_body n here) values st₁ h₁) λ st₂ h₂.
        all_bind (block_entries known (declaration known n) below type.body (in_body n here) st₂ h₂) λ st₃ h₃. all_done h₃
    level_entries known n below (of_class p name gs) here st h =
        all_any _ λ class. all_any _ λ _. all_any _ λ _. all_any _ λ values. all_any _ λ _.
        all_bind (parent_entries known (declaration known n) below class.parent here st h) λ st₁ h₁. all_any _ λ _.
        enter_entries known (declaration known n) below class _ values here st₁ h₁
    level_entries known n below (included p name) here st h =
        all_any _ λ class. all_any _ λ values.
        all_bind (parent_entries known (declaration known n) below class.parent here st h) λ st₁ h₁.
        all_if (is_declared name st₁) (all_done h₁) (enter_entries known (declaration known n) below class _ values here st₁ h₁)

    declaration_entries : (known : Known) (n : ℕ) → Keeps (declaration known n)
    unfolding declaration
    declaration_entries known zero = record { keeps = λ asked here st h. all_refused }
    declaration_entries known (suc n) = record { keeps = λ asked here st h. level_entries known n (declaration_entries known n) asked here st h }

    -- ---- Items

    top_entries : (known : Known) (b : Block) (here : Context) (st : State) → Entries st → All Entries (run_at_top known b here st)
    unfolding run_at_top
    top_entries known b here st h = block_entries known (declaration known 17) (declaration_entries known 17) b here st h

    items_entries : (known : Known) (items : List Item) (st : State) → Entries st → All Entries (run_items known items st)
    unfolding run_items
    items_entries known [] st h = all_done h
    items_entries known (statement s ∷ items) st h = all_bind (top_entries known (next s end) top_context st h) λ st' h'. items_entries known items st' h'
    items_entries known (node devices block ∷ items) st h = all_bind (top_entries known block node_context st h) λ st' h'. items_entries known items st' h'
    items_entries known (definition d ∷ items) st h = items_entries known items st h

    -- THE LAW: what each resource adds holds of all entries at the end of every accepted run
    pub final_entries : (types : Types) (m device : List ℕ) (limit output memory : ℕ) → All Entries (final_state types m device limit output memory)
    unfolding final_state run_manifest start
    final_entries types m device limit output memory = all_any _ λ _. all_any _ λ _. all_any _ λ _. all_any _ λ _. all_any _ λ _. items_entries _ _ (start limit output) none_left
