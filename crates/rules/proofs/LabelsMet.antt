-- Where the labels of a set come from: from constants that the compile came to. What holds of the set without labels, of unions, and of the set of each
-- constant that is not struck out holds of every set of every state that a run passes; one invariant, followed through the definition of a run. So a
-- compile in which all constants of a label are struck out ends without that label, or is refused; and one that ends with the label has a lowest place of
-- a constant that may have brought it. Assumes nothing.
use Prim.Native.Nat.{ℕ, zero, suc, ◌<◌}
use mathlib.Core.Path.{◌≡◌, refl, sym, ◌∙◌}
use mathlib.Core.Bool.{Bool, true, false, ◌||◌, ◌&&◌, beq, true≢false}
use mathlib.Core.List.{List, [], ◌∷◌}
use mathlib.Core.Option.{Option, none, some}
use borrow.Author.Tests.{lt-ltb}
use lib.Dec.{eqb, ltb}
use lib.ListN.{length}
use lib.IntN.{ℤ}
use Rattle.labels.specs.declared.Labels.{Labels}
use Rattle.labels.specs.Sets.{no_labels, one_label, ◌∪◌, has}
use Rattle.labels.proofs.Laws.{has_none_lem, has_one, has_union}
use Rattle.values.specs.declared.Value.{Value}
use Rattle.values.specs.declared.Labelled.{Labelled}
use Rattle.rules.specs.Outcome.{Outcome, refused, done, ◌>>=◌, Result, at, joining}
use Rattle.rules.specs.Arithmetic.{integer_in, boolean_in, same_value}
use Rattle.rules.specs.Tree.{Constant, Operator, plus, minus, divide, greater, equal, and, or, Expression, Arms, place_of, AttributeField, Statement, Block, Branches, Parameter, Parent, ClassDefinition, Item, Manifest}
use Rattle.rules.specs.Read.{manifest_of}
use Rattle.rules.specs.Patterns.{Patterns, no_pattern, constant_pattern, default_pattern, tried, labels_of, tried_labels}
use Rattle.rules.specs.State.{Scope, top_scope, class_scope, body_scope, same_scope, DeclaredClass, Cell, Cells, no_cell, value_into, mark_into, freed, Attribute, Entry, State, Context, Known, scopes_tried, is_declared, assign, trail_with, tested, mark_declared, free, with_entry}
use Rattle.rules.specs.Evaluate.{first_with, is_entry, is_attribute, or_else, read_in, read_attribute, integers, booleans, equality, operate, of_constant, come_to, come_to_all, select, evaluate, arm_patterns}
use Rattle.rules.specs.Run.{assigns_in, assigns_any, declares_in, declares_any, path_and_trail, with_path_and_trail, in_branch, stored, store, Given as GivenValue, is_given, evaluate_all, default_of, given_or, parameter_values, taken_default, taken_defaults, store_all, store_title, attributes_under, marks_for, entry_from, add_entry, add_resource, after_test, Declaration, of_type, of_class, included, Declare, run, run_block, branch_patterns, placed_under, in_class, in_body, parent_first, enter_class, declaration, run_at_top, top_context, node_context, run_items}
use Rattle.rules.specs.Check.{check}
use Rattle.rules.specs.Types.{Types}
use Rattle.rules.specs.Compile.{is_built_in, known_with, none_struck_out, start, run_manifest, checked, final_state}
use Rattle.rules.specs.EditRule.{IsBytes}
use Rattle.rules.specs.Why.{without_limits, is_refused, comes_to_one, lowest_place}
use Rattle.rules.proofs.Lists.{Perhaps, not_there, there, perhaps_get, each_first, each_left, each_right, each_append, Each, none_left, also, found, neither, left_fails, eqb_sym}
use Rattle.rules.proofs.Patterns.{Every, every_none, every_constant, every_default, chosen_holds, EveryBranch, branch_holds}
use Rattle.rules.proofs.Outcome.{All, all_refused, all_done, all_bind, all_any, all_map, all_if, all_passed, all_found, all_get, all_itself, all_step, with_steps}
use Rattle.rules.proofs.Gathering.{gathered_each}
use Rattle.rules.proofs.Fits.{ConstantRead, InExpression, fits_constant, fits_variable, fits_top_variable, fits_class_variable, fits_operation, fits_negation, fits_attribute_read, fits_selector, fits_unreadable, InArms, fits_no_arm, fits_arm, fits_default_arm, InAttributeField, InStatement, fits_assignment, fits_conditional, fits_choice, fits_resource, fits_defined, fits_class, fits_include, fits_unreadable_statement, InBlock, fits_end, fits_next, InBranches, fits_no_branch, fits_branch, fits_default_branch, InParameter, InDefinition, InItem, fits_statement_item, fits_node, fits_definition_item, in_definition, type_found, class_found, manifest_read}
use Rattle.rules.proofs.Laws.{items_for_each}
use Rattle.rules.proofs.Strikes.{labelled_below, struck_same, Lowest, lowest_place_lem}
use Rattle.std.specs.Prelude.{Ok, Err}
use Rattle.rules.specs.Verdicts.{Verdict, no_fault}

-- ---- Patterns

-- P holds of each constant of some patterns, and so of those that are tried
data Constants (P : Constant → Type 0) {A : Type 0} : Patterns A → Type 0 where
  constants_none : Constants P no_pattern
  constants_one : {v : Constant} {a : A} {ps : Patterns A} → P v → Constants P ps → Constants P (constant_pattern v a ps)
  constants_default : {a : A} {ps : Patterns A} → Constants P ps → Constants P (default_pattern a ps)

tried_each : {P : Constant → Type 0} {A : Type 0} {ps : Patterns A} (x : Value) → Constants P ps → Each P (tried ps x)
unfolding tried
tried_each x constants_none = none_left
tried_each {P} {A} x (constants_one {v = v} {ps = ps} p h) = also p (go (same_value x v.value) (tried_each x h))
  where
    go : (t : Bool) → Each P (tried ps x) → Each P (elim t [ true ↦ [] | false ↦ tried ps x ])
    go true r = none_left
    go false r = r
tried_each x (constants_default h) = tried_each x h

-- ---- What holds of every set

-- Q is what is asked of a set, and `struck` says which constants are struck out; `Of` is what is known of each constant of the tree (see Fits.antt)
module _ (Given : Type 0) (Of : Constant → Type 0) (struck : Constant → Bool) (Q : Labels → Type 0) where
  -- the sets that a run makes have it
  pub record Joins : Type 0 where
    pub none : Q no_labels
    pub union : (a b : Labels) → Q a → Q b → Q (a ∪ b)
    pub one : (v : Constant) → Of v → struck v ≡ false → Q (one_label v.label)

  abbrev pub Has : Labelled → Type 0
  Has x = Q x.labels

  -- the sets of a state
  pub record CellHas (c : Cell) : Type 0 where
    pub value : Perhaps Has c.value
    pub mark : Q c.mark

  pub record EntryHas (e : Entry) : Type 0 where
    pub labels : Q e.labels
    pub attributes : Each (λ (a : Attribute). Q a.content.labels) e.attributes

  pub record StateHas (st : State) : Type 0 where
    pub cells : (s : Scope) (n : ℕ) → CellHas (st.cells s n)
    pub trail : Q st.trail
    pub entries : Each EntryHas st.entries

  record GivenHas (g : GivenValue) : Type 0 where
    content : Q g.content.labels

  -- a constant that the run came to
  abbrev Met : Constant → Type 0
  Met v = Q (one_label v.label)

  -- the constants that what is known strikes out
  abbrev Strikes : Known → Type 0
  Strikes k = (v : Constant) → k.struck_out v ≡ struck v

  module _ (joins : Joins) where
    -- ---- Constants

    come_to_has : (k : Known) → Strikes k → {v : Constant} → Of v → All (λ (u : Unit {0}). Met v) (come_to k v)
    unfolding come_to
    come_to_has k same {v} f = all_map (all_passed (k.struck_out v) _ _) λ _ passed. joins.one v f (sym (same v) ∙ passed)

    come_to_all_has : (k : Known) → Strikes k → {vs : List Constant} → Each Of vs → All (λ (u : Unit {0}). Each Met vs) (come_to_all k vs)
    unfolding come_to_all
    come_to_all_has k same none_left = all_done none_left
    come_to_all_has k same (also f fs) = all_bind (come_to_has k same f) λ _ p. all_map (come_to_all_has k same fs) λ _ ps. also p ps

    labels_of_has : {vs : List Constant} → Each Met vs → Q (labels_of vs)
    unfolding labels_of
    labels_of_has none_left = joins.none
    labels_of_has (also {x = v} {xs = vs} p ps) = joins.union (one_label v.label) (labels_of vs) p (labels_of_has ps)

    -- the patterns tried
    tried_has : (k : Known) → Strikes k → {A : Type 0} {ps : Patterns A} (x : Value) → Constants Of ps → All (λ (u : Unit {0}). Q (tried_labels ps x)) (come_to_all k (tried ps x))
    unfolding tried_labels
    tried_has k same x h = all_map (come_to_all_has k same (tried_each x h)) λ _ ms. labels_of_has ms

    -- ---- Expressions

    joining_has : (k : Labels) {m : Outcome Labelled} → Q k → All Has m → All Has (joining k m)
    unfolding joining
    joining_has k q h = all_bind h λ x f. all_done (joins.union k x.labels q f)

    -- an operand, then the rest under its set
    operand_has : {m : Outcome Labelled} {f : Labelled → Outcome Labelled} → All Has m → ((x : Labelled) → All Has (f x)) → All Has (m >>= λ x. joining x.labels (f x))
    operand_has h k = all_bind h λ x q. joining_has x.labels q (k x)

    integers_have : (f : ℤ → ℤ → Result Value) (p l r : ℕ) (x : Value) {right : Outcome Labelled} → All Has right → All Has (integers f p l r x right)
    unfolding integers
    integers_have f p l r x h = all_any (at l (integer_in x)) λ i. operand_has h λ v. all_any (at r (integer_in v.value)) λ j. all_any (at p (f i j)) λ u. all_done joins.none

    booleans_have : (d : Bool) (l r : ℕ) (x : Value) {right : Outcome Labelled} → All Has right → All Has (booleans d l r x right)
    unfolding booleans
    booleans_have d l r x h = all_any (at l (boolean_in x)) λ i. all_if (beq i d) (all_done joins.none) (operand_has h λ v. all_any (at r (boolean_in v.value)) λ j. all_done joins.none)

    operate_has : (o : Operator) (p l r : ℕ) (x : Value) {right : Outcome Labelled} → All Has right → All Has (operate o p l r x right)
    unfolding operate equality
    operate_has plus p l r x h = integers_have _ p l r x h
    operate_has minus p l r x h = integers_have _ p l r x h
    operate_has divide p l r x h = integers_have _ p l r x h
    operate_has greater p l r x h = integers_have _ p l r x h
    operate_has equal p l r x h = operand_has h λ v. all_done joins.none
    operate_has and p l r x h = booleans_have false l r x h
    operate_has or p l r x h = booleans_have true l r x h

    or_else_has : {o : Option Labelled} {m : Outcome Labelled} → Perhaps Has o → All Has m → All Has (or_else o m)
    unfolding or_else
    or_else_has not_there h = h
    or_else_has (there q) h = all_done q

    read_has : (p : ℕ) (cells : Cells) (n : ℕ) (ss : List Scope) → ((s : Scope) (m : ℕ) → CellHas (cells s m)) → All Has (read_in p cells n ss)
    unfolding read_in
    read_has p cells n [] f = all_refused
    read_has p cells n (s ∷ ss) f = joining_has (cells s n).mark (f s n).mark (or_else_has (f s n).value (read_has p cells n ss f))

    attribute_read_has : (p t m n : ℕ) (es : List Entry) → Each EntryHas es → All Has (read_attribute p t m n es)
    unfolding read_attribute
    attribute_read_has p t m n es f = all_bind (all_found _ _ (found (is_entry t m) f)) λ e g. all_bind (all_found _ _ (found (is_attribute n) g.attributes)) λ a q. all_done q

    select_has : (k : Known) → Strikes k → {ps : Patterns (Outcome Labelled)} → Constants Of ps → Every (All Has) ps → (p : ℕ) (x : Value) → All Has (select k ps p x)
    unfolding select
    select_has k same {ps} g h p x = all_bind (tried_has k same x g) λ _ q. joining_has (tried_labels ps x) q (chosen_holds (All Has) h x all_refused)

    module _ (k : Known) (same : Strikes k) (c : Context) (st : State) (h : StateHas st) where
      arm_constants : {s : Arms} → InArms Given Of s → Constants Of (arm_patterns k c st s)
      unfolding arm_patterns
      arm_constants fits_no_arm = constants_none
      arm_constants (fits_arm w f g) = constants_one w (arm_constants g)
      arm_constants (fits_default_arm f g) = constants_default (arm_constants g)

      mutual
        unfolding evaluate of_constant

        evaluate_has : {e : Expression} → InExpression Given Of e → All Has (evaluate k c st e)
        evaluate_has (fits_constant v) = all_bind (come_to_has k same v) λ _ q. all_done q
        evaluate_has (fits_variable {p = p} {n = n} f) = read_has p st.cells n (scopes_tried c st) h.cells
        evaluate_has (fits_top_variable {p = p} {n = n} f) = read_has p st.cells n (top_scope ∷ []) h.cells
        evaluate_has (fits_class_variable {p = p} {q = q} {n = n} f g) = all_any _ λ _. read_has p st.cells n (class_scope q ∷ []) h.cells
        evaluate_has (fits_operation {p = p} {o = o} {a = a} {b = b} f g) = operand_has (evaluate_has f) λ x. operate_has o p (place_of a) (place_of b) x.value (evaluate_has g)
        evaluate_has (fits_negation f) = operand_has (evaluate_has f) λ x. all_any _ λ b. all_done joins.none
        evaluate_has (fits_attribute_read {p = p} {t = t} {n = n} f g e) = operand_has (evaluate_has e) λ x. all_any _ λ m. all_any _ λ _. attribute_read_has p t m n st.entries h.entries
        evaluate_has (fits_selector {p = p} f g) = operand_has (evaluate_has f) λ x. select_has k same (arm_constants g) (arms_have g) p x.value
        evaluate_has fits_unreadable = all_refused

        arms_have : {s : Arms} → InArms Given Of s → Every (All Has) (arm_patterns k c st s)
        arms_have fits_no_arm = every_none
        arms_have (fits_arm w f g) = every_constant (evaluate_has f) (arms_have g)
        arms_have (fits_default_arm f g) = every_default (evaluate_has f) (arms_have g)

      given_has : {ats : List AttributeField} → Each (InAttributeField Given Of) ats → All (Each GivenHas) (evaluate_all k c st ats)
      unfolding evaluate_all
      given_has none_left = all_done none_left
      given_has (also f fs) = all_bind (evaluate_has f.expression) λ x q. all_bind (given_has fs) λ gs qs. all_done (also (record { content = q }) qs)

    -- ---- Changes of the state

    abbrev PathHas : Context → Type 0
    PathHas c = Q c.path

    value_into_has : (b : Bool) (x : Labelled) {c : Cell} → Has x → CellHas c → CellHas (value_into b x c)
    unfolding value_into
    value_into_has true x q h = record { value = there q; mark = h.mark }
    value_into_has false x q h = h

    mark_into_has : (b : Bool) (k : Labels) (c : Cell) → Q k → CellHas c → CellHas (mark_into b k c)
    unfolding mark_into
    mark_into_has true k c q h = record { value = h.value; mark = joins.union k c.mark q h.mark }
    mark_into_has false k c q h = h

    no_cell_has : CellHas no_cell
    unfolding no_cell
    no_cell_has = record { value = not_there; mark = joins.none }

    freed_has : (b : Bool) {c : Cell} → CellHas c → CellHas (freed b c)
    unfolding freed
    freed_has true h = no_cell_has
    freed_has false h = h

    steps_have : (n : ℕ) (st : State) → StateHas st → StateHas (with_steps n st)
    steps_have n st h = record { cells = h.cells; trail = h.trail; entries = h.entries }

    path_and_trail_has : (c : Context) (st : State) → PathHas c → StateHas st → Q (path_and_trail c st)
    path_and_trail_has c st w h = joins.union c.path st.trail w h.trail

    with_path_and_trail_has : (c : Context) (st : State) (k : Labels) → PathHas c → StateHas st → Q k → Q (with_path_and_trail c st k)
    unfolding with_path_and_trail
    with_path_and_trail_has c st k w h q = joins.union (path_and_trail c st) k (path_and_trail_has c st w h) q

    branch_path_has : (k : Labels) (c : Context) → Q k → PathHas c → PathHas (in_branch k c)
    unfolding in_branch
    branch_path_has k c q w = joins.union k c.path q w

    store_has : (c : Context) (p n : ℕ) (x : Labelled) (st : State) → Has x → PathHas c → StateHas st → All StateHas (store c p n x st)
    unfolding store stored assign
    store_has c p n x st q w h = all_any _ λ _. all_any _ λ _. all_done (record {
      cells = λ s m. value_into_has (same_scope s c.scope && eqb m n) (stored c st x) (joins.union (path_and_trail c st) x.labels (path_and_trail_has c st w h) q) (h.cells s m);
      trail = h.trail;
      entries = h.entries;
    })

    store_all_has : (c : Context) {gs : List GivenValue} (st : State) → Each GivenHas gs → PathHas c → StateHas st → All StateHas (store_all c gs st)
    unfolding store_all
    store_all_has c st none_left w h = all_done h
    store_all_has c st (also {x = g} q qs) w h = all_bind (store_has c g.place g.name g.content st q.content w h) λ st' h'. store_all_has c st' qs w h'

    title_has : (o : Option ℕ) (c : Context) (p : ℕ) (x : Labelled) (st : State) → Has x → PathHas c → StateHas st → All StateHas (store_title o c p x st)
    unfolding store_title
    title_has none c p x st q w h = all_done h
    title_has (some n) c p x st q w h = store_has c p n x st q w h

    trail_has : (b : Bool) (k t : Labels) → Q k → Q t → Q (trail_with b k t)
    unfolding trail_with
    trail_has true k t q h = joins.union k t q h
    trail_has false k t q h = h

    test_has : (p : ℕ) (c : Context) (names : ℕ → Bool) (declares : Bool) (k : Labels) (st : State) → Q k → StateHas st → All StateHas (after_test p c names declares k st)
    unfolding after_test tested
    test_has p c names declares k st q h = all_any _ λ _. all_done (record {
      cells = λ s m. mark_into_has (same_scope s c.scope && names m) k (st.cells s m) q (h.cells s m);
      trail = trail_has declares k st.trail q h.trail;
      entries = h.entries;
    })

    declared_has : (q : ℕ) (d : DeclaredClass) (st : State) → StateHas st → StateHas (mark_declared q d st)
    unfolding mark_declared
    declared_has q d st h = record { cells = h.cells; trail = h.trail; entries = h.entries }

    free_has : (s : Scope) (st : State) → StateHas st → StateHas (free s st)
    unfolding free
    free_has s st h = record { cells = λ t m. freed_has (same_scope t s) (h.cells t m); trail = h.trail; entries = h.entries }

    -- ---- Resources of built-in types

    attributes_have : (k : Labels) (c : Context) (st : State) {gs : List GivenValue} → Q k → PathHas c → StateHas st → Each GivenHas gs → Each (λ (a : Attribute). Q a.content.labels) (attributes_under k c st gs)
    unfolding attributes_under stored
    attributes_have k c st q w h none_left = none_left
    attributes_have k c st q w h (also {x = g} f fs) =
        also (joins.union k (path_and_trail c st ∪ g.content.labels) q (joins.union (path_and_trail c st) g.content.labels (path_and_trail_has c st w h) f.content)) (attributes_have k c st q w h fs)

    resource_has : (k : Known) (p t m : ℕ) (l : Labels) (marks : ℕ → Labels) {gs : List GivenValue} (c : Context) (st : State) → Q l → Each GivenHas gs → PathHas c → StateHas st → All StateHas (add_resource k p t m l marks gs c st)
    unfolding add_resource add_entry with_entry entry_from
    resource_has k p t m l marks c st q g w h =
        let set : Q (with_path_and_trail c st l) = with_path_and_trail_has c st l w h q in
        all_any _ λ _. all_any _ λ _. all_any _ λ _. all_any _ λ _. all_done (record {
          cells = h.cells;
          trail = h.trail;
          entries = also (record { labels = set; attributes = attributes_have (with_path_and_trail c st l) c st set w h g }) h.entries;
        })

    -- ---- Parameters: a default is assigned only after the run came to it

    default_taken : {o : Option GivenValue} (d : Option Constant) → Perhaps GivenHas o → Perhaps (λ (x : Labelled). Each Met (taken_default o d) → Has x) (given_or o (default_of d))
    unfolding given_or default_of taken_default of_constant
    default_taken none not_there = not_there
    default_taken (some v) not_there = there (λ ms. each_first ms)
    default_taken none (there f) = there (λ ms. f.content)
    default_taken (some v) (there f) = there (λ ms. f.content)

    parameters_have : (qs : List Parameter) {gs : List GivenValue} → Each GivenHas gs → All (λ (vs : List GivenValue). Each Met (taken_defaults qs gs) → Each GivenHas vs) (parameter_values qs gs)
    unfolding parameter_values taken_defaults
    parameters_have [] g = all_done λ ms. none_left
    parameters_have (q ∷ qs) {gs} g =
        let first : List Constant = taken_default (first_with (is_given q.name) gs) q.default in
        let others : List Constant = taken_defaults qs gs in
        all_bind (all_found _ _ (default_taken q.default (found (is_given q.name) g))) λ x f. all_bind (parameters_have qs g) λ vs fs.
        all_done λ ms. also (record { content = f (each_left first others ms) }) (fs (each_right first others ms))

    taken_fits : (o : Option GivenValue) {d : Option Constant} → Perhaps Of d → Each Of (taken_default o d)
    unfolding taken_default
    taken_fits none not_there = none_left
    taken_fits none (there f) = also f none_left
    taken_fits (some g) not_there = none_left
    taken_fits (some g) (there f) = none_left

    defaults_fit : {qs : List Parameter} (gs : List GivenValue) → Each (InParameter Given Of) qs → Each Of (taken_defaults qs gs)
    unfolding taken_defaults
    defaults_fit gs none_left = none_left
    defaults_fit gs (also {x = q} f fs) = each_append (taken_fits (first_with (is_given q.name) gs) f.default) (defaults_fit gs fs)

    -- ---- Statements and blocks

    data DeclarationHas : Declaration → Type 0 where
      type_has : {p t : ℕ} {x : Labelled} {gs : List GivenValue} → Has x → Each GivenHas gs → DeclarationHas (of_type p t x gs)
      class_has : {p q : ℕ} {gs : List GivenValue} → Each GivenHas gs → DeclarationHas (of_class p q gs)
      included_has : {p q : ℕ} → DeclarationHas (included p q)

    -- what is asked of a declaration one level below
    record Keeps (declare : Declare) : Type 0 where
      keeps : {d : Declaration} → DeclarationHas d → (c : Context) (st : State) → PathHas c → StateHas st → All StateHas (declare d c st)

    module _ (k : Known) (same : Strikes k) (declare : Declare) (below : Keeps declare) where
      branch_constants : {bs : Branches} → InBranches Given Of bs → Constants Of (branch_patterns k declare bs)
      unfolding branch_patterns
      branch_constants fits_no_branch = constants_none
      branch_constants (fits_branch v f fs) = constants_one v (branch_constants fs)
      branch_constants (fits_default_branch f fs) = constants_default (branch_constants fs)

      mutual
        unfolding run

        run_has : {s : Statement} → InStatement Given Of s → (c : Context) (st : State) → PathHas c → StateHas st → All StateHas (run k declare s c st)
        run_has (fits_assignment {p = p} {n = n} _ e) c st w h = all_bind (evaluate_has k same c st h e) λ x q. store_has c p n x st q w h
        run_has (fits_conditional {p = p} {a = a} {b = b} e fa fb) c st w h =
            all_bind (evaluate_has k same c st h e) λ x q. all_any _ λ t.
            let set : Labels = with_path_and_trail c st x.labels in
            let r : Q set = with_path_and_trail_has c st x.labels w h q in
            let w' : PathHas (in_branch set c) = branch_path_has set c r w in
            all_bind (test_has p c (λ n. assigns_in a n || assigns_in b n) (declares_in a || declares_in b) set st r h) λ st' h'.
            all_if t (block_has fa (in_branch set c) st' w' h') (block_has fb (in_branch set c) st' w' h')
        run_has (fits_choice {p = p} {bs = bs} e fb) c st w h =
            all_bind (evaluate_has k same c st h e) λ x q. all_bind (tried_has k same x.value (branch_constants fb)) λ _ t.
            let tested : Labels = x.labels ∪ tried_labels (branch_patterns k declare bs) x.value in
            let set : Labels = with_path_and_trail c st tested in
            let r : Q set = with_path_and_trail_has c st tested w h (joins.union x.labels (tried_labels (branch_patterns k declare bs) x.value) q t) in
            let w' : PathHas (in_branch set c) = branch_path_has set c r w in
            all_bind (test_has p c (assigns_any bs) (declares_any bs) set st r h) λ st' h'.
            branch_holds (branches_have fb (in_branch set c) st' w' h') x.value h'
        run_has (fits_resource {p = p} {t = t} {ats = ats} _ e fs) c st w h =
            all_bind (evaluate_has k same c st h e) λ x q. all_any _ λ m. all_bind (given_has k same c st h fs) λ gs g. resource_has k p t m x.labels (marks_for k c st ats) c st q g w h
        run_has (fits_defined _ e fs) c st w h = all_bind (evaluate_has k same c st h e) λ x q. all_any _ λ m. all_bind (given_has k same c st h fs) λ gs g. below.keeps (type_has q g) c st w h
        run_has (fits_class _ fs) c st w h = all_bind (given_has k same c st h fs) λ gs g. below.keeps (class_has g) c st w h
        run_has (fits_include {q = q} _) c st w h = all_if (is_declared q st) (all_done h) (below.keeps included_has c st w h)
        run_has fits_unreadable_statement c st w h = all_refused

        block_has : {b : Block} → InBlock Given Of b → (c : Context) (st : State) → PathHas c → StateHas st → All StateHas (run_block k declare b c st)
        block_has fits_end c st w h = all_done h
        block_has (fits_next f fs) c st w h = all_step _ st _ λ n. all_bind (run_has f c (with_steps n st) w (steps_have n st h)) λ st' h'. block_has fs c st' w h'

        branches_have : {bs : Branches} → InBranches Given Of bs → (c : Context) (st : State) → PathHas c → StateHas st → EveryBranch StateHas c st (branch_patterns k declare bs)
        branches_have fits_no_branch c st w h = every_none
        branches_have (fits_branch _ f fs) c st w h = every_constant (block_has f c st w h) (branches_have fs c st w h)
        branches_have (fits_default_branch f fs) c st w h = every_default (block_has f c st w h) (branches_have fs c st w h)

      -- ---- Declarations

      parent_has : (o : Option Parent) (c : Context) (st : State) → PathHas c → StateHas st → All StateHas (parent_first k declare o c st)
      unfolding parent_first
      parent_has none c st w h = all_done h
      parent_has (some q) c st w h = all_if (is_declared q.name st) (all_done h) (all_step _ st _ λ n. below.keeps included_has c (with_steps n st) w (steps_have n st h))

      enter_has : (d : ClassDefinition) {defaults : List Constant} {vs : List GivenValue} → InBlock Given Of d.body → Each Of defaults → (Each Met defaults → Each GivenHas vs) → (c : Context) (st : State) → PathHas c → StateHas st
          → All StateHas (enter_class k declare d defaults vs c st)
      unfolding enter_class in_class
      enter_has d f fs g c st w h =
          let above : DeclaredClass = placed_under d.parent c st in
          all_bind (come_to_all_has k same fs) λ _ ms.
          all_bind (store_all_has (in_class d.name above c) (mark_declared d.name above st) (g ms) w (declared_has d.name above st h)) λ st' h'.
          block_has f (in_class d.name above c) st' w h'

    -- a level, given the one below it
    level_has : (k : Known) → Strikes k → Each (InDefinition Given Of) k.definitions → (n : ℕ) → Keeps (declaration k n)
        → {d : Declaration} → DeclarationHas d → (c : Context) (st : State) → PathHas c → StateHas st → All StateHas (declaration k (suc n) d c st)
    unfolding declaration in_body
    level_has k same defs n below (type_has {p = p} {t = t} {x = x} {gs = gs} q g) c st w h =
        all_bind (all_found _ _ (type_found t defs)) λ d f. all_any _ λ _. all_bind (parameters_have d.parameters g) λ vs v. all_any _ λ _.
        all_bind (title_has k.title (in_body n c) p x st q w h) λ st₁ h₁. all_bind (come_to_all_has k same (defaults_fit gs f.parameters)) λ _ ms.
        all_bind (store_all_has (in_body n c) st₁ (v ms) w h₁) λ st₂ h₂.
        all_bind (block_has k same (declaration k n) below f.body (in_body n c) st₂ w h₂) λ st₃ h₃. all_done (free_has (body_scope n) st₃ h₃)
    level_has k same defs n below (class_has {p = p} {q = q} {gs = gs} g) c st w h =
        all_bind (all_found _ _ (class_found q defs)) λ d f. all_any _ λ _. all_any _ λ _. all_bind (parameters_have d.parameters g) λ vs v. all_any _ λ _.
        all_bind (parent_has k same (declaration k n) below d.parent c st w h) λ st₁ h₁. all_any _ λ _.
        enter_has k same (declaration k n) below d f.body (defaults_fit gs f.parameters) v c st₁ w h₁
    level_has k same defs n below (included_has {p = p} {q = q}) c st w h =
        all_bind (all_found _ _ (class_found q defs)) λ d f. all_bind (parameters_have d.parameters none_left) λ vs v.
        all_bind (parent_has k same (declaration k n) below d.parent c st w h) λ st₁ h₁.
        all_if (is_declared q st₁) (all_done h₁) (enter_has k same (declaration k n) below d f.body (defaults_fit [] f.parameters) v c st₁ w h₁)

    declaration_has : (k : Known) → Strikes k → Each (InDefinition Given Of) k.definitions → (n : ℕ) → Keeps (declaration k n)
    unfolding declaration
    declaration_has k same defs zero = record { keeps = λ f c st w h. all_refused }
    declaration_has k same defs (suc n) = record { keeps = λ f c st w h. level_has k same defs n (declaration_has k same defs n) f c st w h }

    -- ---- Items

    top_has : (k : Known) → Strikes k → Each (InDefinition Given Of) k.definitions → {b : Block} → InBlock Given Of b → (c : Context) (st : State) → PathHas c → StateHas st → All StateHas (run_at_top k b c st)
    unfolding run_at_top
    top_has k same defs f c st w h = block_has k same (declaration k 17) (declaration_has k same defs 17) f c st w h

    items_have : (k : Known) → Strikes k → Each (InDefinition Given Of) k.definitions → {is : List Item} → Each (InItem Given Of) is → (st : State) → StateHas st → All StateHas (run_items k is st)
    unfolding run_items top_context node_context
    items_have k same defs none_left st h = all_done h
    items_have k same defs (also (fits_statement_item f) fs) st h = all_bind (top_has k same defs (fits_next f fits_end) top_context st joins.none h) λ st' h'. items_have k same defs fs st' h'
    items_have k same defs (also (fits_node _ f) fs) st h = all_bind (top_has k same defs f node_context st joins.none h) λ st' h'. items_have k same defs fs st' h'
    items_have k same defs (also (fits_definition_item f) fs) st h = items_have k same defs fs st h

    start_has : (limit output : ℕ) → StateHas (start limit output)
    unfolding start
    start_has limit output = record { cells = λ s n. no_cell_has; trail = joins.none; entries = none_left }

    pub manifest_has : (types : Types) (manifest : Manifest) (device : List ℕ) (limit output : ℕ) → Each (InItem Given Of) manifest.items → All StateHas (run_manifest struck types manifest device limit output)
    unfolding run_manifest known_with
    manifest_has types manifest device limit output f = all_bind (gathered_each (λ d. in_definition Given Of) (is_built_in types manifest.strings) f none_left) λ ds defs.
        items_have (known_with struck types manifest.strings ds) (λ v. refl) defs (items_for_each manifest.strings device f) (start limit output) (start_has limit output)

-- ---- A label whose constants are struck out

one_result : {A : Type 0} {a b : A} → ◌≡◌ {A = Outcome A} (done a) (done b) → a ≡ b
one_result {A} {a} e = all_get {P = λ (x : A). a ≡ x} (all_done refl) e

-- an accepted compile: the check before it found no fault, and the run of the manifest ended so
pub record Accepted (types : Types) (m device : List ℕ) (limit output : ℕ) (st : State) : Type 0 where
  pub sound : check m ≡ no_fault
  pub run : run_manifest none_struck_out types (manifest_of m) device limit output ≡ done st

sound_passed : (v : Verdict) → All (λ (u : Unit {0}). v ≡ no_fault) (checked v)
unfolding checked
sound_passed (Ok tt) = all_done refl
sound_passed (Err f) = all_refused

pub accepted : (types : Types) (m device : List ℕ) (limit output memory : ℕ) {st : State} → final_state types m device limit output memory ≡ done st → Accepted types m device limit output st
unfolding final_state
accepted types m device limit output memory ended =
    all_get {P = Accepted types m device limit output} (all_any _ λ _. all_any _ λ _. all_any _ λ _. all_bind (sound_passed (check m)) λ _ sound. all_map (all_itself (run_manifest none_struck_out types (manifest_of m) device limit output)) λ st e. record { sound = sound; run = e }) ended

-- the constants of a label: in a manifest without fault all of them stand before its end
abbrev pub labelled_in : (m : List ℕ) (label : ℕ) → Constant → Bool
labelled_in m l = labelled_below l (length m)

abbrev pub Lacks : ℕ → Labels → Type 0
Lacks l k = has k l ≡ false

-- the sets of a compile that comes to no constant of a label lack it
lacks_joins : (m : List ℕ) (l : ℕ) → IsBytes m → check m ≡ no_fault → l < 256 → Joins (IsBytes m) (ConstantRead m) (labelled_in m l) (Lacks l)
unfolding labelled_below
lacks_joins m l bytes sound small = record {
  none = has_none_lem l;
  union = λ a b p q. has_union a b l ∙ neither (has a l) (has b l) p q;
  one = λ v c unlike. has_one v.label l (c.fits bytes).label small ∙ eqb_sym l v.label ∙ left_fails (eqb v.label l) (ltb v.place (length m)) (lt-ltb v.place (length m) (c.place sound)) unlike;
}

-- THE FIRST LAW: a compile in which all constants of a label are struck out ends without the label in any set, or is refused
pub labels_met : (types : Types) (m device : List ℕ) (limit output l : ℕ) → IsBytes m → check m ≡ no_fault → l < 256
    → All (StateHas (IsBytes m) (ConstantRead m) (labelled_in m l) (Lacks l)) (run_manifest (labelled_in m l) types (manifest_of m) device limit output)
labels_met types m device limit output l bytes sound small =
    manifest_has (IsBytes m) (ConstantRead m) (labelled_in m l) (Lacks l) (lacks_joins m l bytes sound small) types (manifest_of m) device limit output (manifest_read m)

module _ (types : Types) (m device : List ℕ) (l : ℕ) (bytes : IsBytes m) (small : l < 256) (memory : ℕ) {st : State} (ended : final_state types m device without_limits without_limits memory ≡ done st) where
  compile : Accepted types m device without_limits without_limits st
  compile = accepted types m device without_limits without_limits memory ended

  -- if a run with these constants struck out is accepted, it ends as without (proofs/Strikes.antt), so that the compile has the label in no set
  struck_lacks : (st' : State) → run_manifest (labelled_in m l) types (manifest_of m) device without_limits without_limits ≡ done st' → StateHas (IsBytes m) (ConstantRead m) (labelled_in m l) (Lacks l) st
  struck_lacks st' e =
      let same : st' ≡ st = one_result (sym (struck_same (labelled_in m l) types (manifest_of m) device without_limits without_limits e) ∙ compile.run) in
      rw (sym same) (all_get (labels_met types m device without_limits without_limits l bytes compile.sound small) e)

  module _ (type title name : ℕ) {e : Entry} {a : Attribute} (f : first_with (is_entry type title) st.entries ≡ some e) (g : first_with (is_attribute name) e.attributes ≡ some a) (held : has a.content.labels l ≡ true) where
    -- THE SECOND LAW: an accepted compile comes to a constant of each label in an attribute's set
    pub label_met : comes_to_one types m device (labelled_in m l) ≡ true
    unfolding comes_to_one is_refused
    label_met = go (run_manifest (labelled_in m l) types (manifest_of m) device without_limits without_limits) refl
      where
        go : (o : Outcome State) → run_manifest (labelled_in m l) types (manifest_of m) device without_limits without_limits ≡ o → is_refused o ≡ true
        go (refused r p) struck = refl
        go (done st') struck =
            let entry : EntryHas (IsBytes m) (ConstantRead m) (labelled_in m l) (Lacks l) e = perhaps_get (found (is_entry type title) (struck_lacks st' struck).entries) f in
            absurd (true≢false (sym held ∙ perhaps_get (found (is_attribute name) entry.attributes) g))

    -- THE THIRD LAW: so there is a lowest place of such a constant
    pub place_met : Lowest types m device l (lowest_place types m device l)
    place_met = lowest_place_lem types m device l compile.run label_met
