-- Declarations, items and whole runs of two manifests with one tree.
use Prim.Native.Nat.{ℕ, zero, suc}
use mathlib.Core.Path.{◌≡◌, refl, ap}
use mathlib.Core.Logic.{inr}
use mathlib.Core.Bool.{Bool, true, false, ◌||◌}
use mathlib.Core.List.{List, []}
use mathlib.Core.Option.{Option, none, some}
use lib.Dec.{eqb}
use Rattle.values.specs.declared.Labelled.{Labelled}
use Rattle.values.specs.declared.Reason.{Reason}
use Rattle.rules.specs.Outcome.{done, ◌>>=◌, refuse_if}
use Rattle.rules.specs.Tree.{Constant, Block, Parameter, Parent, TypeDefinition, ClassDefinition, Definition, Devices, Item}
use Rattle.rules.specs.State.{Scope, body_scope, Cell, State, Context, Known, is_declared, freed, no_cell, mark_declared, free}
use Rattle.rules.specs.Evaluate.{any, first_with, find_type, find_class, come_to_all}
use Rattle.rules.specs.Run.{Given, is_given, named_once, parameters_known, default_of, given_or, parameter_values, taken_defaults, store, store_all, store_title, placed_under, in_body, parent_first, enter_class, Declaration, Declare, run_block, declaration, run_at_top, top_context, node_context, run_items}
use Rattle.rules.specs.Compile.{without_nodes, with_node, is_node, names, is_default_node, items_for, start}
use Rattle.rules.proofs.Same.{Edit, Pairwise, none_paired, paired, Optional, both_none, both_some, SameConstant, SameBlock, same_end, same_next, SameParameter, same_parameter, SameParent, same_parent, SameType, same_type, SameClassDefinition, same_class_definition, SameDefinition, same_type_definition, same_class_definitions, SameItem, same_statement_item, same_node, same_definition_item}
use Rattle.rules.proofs.Outcome.{all_done, all_any, all_if, Two, left_refused, both_done, two_bind, two_any, two_if, two_or, two_step}
use Rattle.rules.proofs.Unique.{unique_none}
use Rattle.rules.proofs.Evaluation.{SameLabelled, same_constant_lem, SameCell, low_cell, empty_both}
use Rattle.rules.proofs.Quiet.{QuietDeclare, quiet, no_growth, store_quiet, enter_quiet, declaration_quiet}
use Rattle.rules.proofs.Lockstep.{Low, low, Related, related_low, related_high, QuietRun, go_on, SameGiven, same_given, SameGivens, store_low, declared_in, SameDeclaration, same_of_type, same_of_class, same_included, SameDeclare, block_related}

module _ (D : Edit) where
  -- ---- Definitions

  optional_if : {A : Type 0} {R : A → A → Type 0} (b : Bool) (x y : A) {o o' : Option A} → R x y → Optional R o o' → Optional R (elim b [ true ↦ some x | false ↦ o ]) (elim b [ true ↦ some y | false ↦ o' ])
  optional_if true x y h g = both_some h
  optional_if false x y h g = g

  type_same : {ds ds' : List Definition} (n : ℕ) → Pairwise (SameDefinition D) ds ds' → Optional (SameType D) (find_type n ds) (find_type n ds')
  unfolding find_type
  type_same n none_paired = both_none
  type_same n (paired (same_type_definition (same_type {n = m} ps b)) r) = optional_if (eqb m n) _ _ (same_type ps b) (type_same n r)
  type_same n (paired (same_class_definitions h) r) = type_same n r

  class_same : {ds ds' : List Definition} (n : ℕ) → Pairwise (SameDefinition D) ds ds' → Optional (SameClassDefinition D) (find_class n ds) (find_class n ds')
  unfolding find_class
  class_same n none_paired = both_none
  class_same n (paired (same_type_definition h) r) = class_same n r
  class_same n (paired (same_class_definitions (same_class_definition {n = m} u ps b)) r) = optional_if (eqb m n) _ _ (same_class_definition u ps b) (class_same n r)

  -- ---- Parameters

  given_same : {gs gs' : List Given} (n : ℕ) → SameGivens D gs gs' → Optional (SameGiven D) (first_with (is_given n) gs) (first_with (is_given n) gs')
  unfolding first_with is_given
  given_same n none_paired = both_none
  given_same n (paired (same_given {n = m} h) r) = optional_if (eqb m n) _ _ (same_given h) (given_same n r)

  default_same : {o o' : Option Constant} → Optional (SameConstant D) o o' → Optional (SameLabelled D) (default_of o) (default_of o')
  unfolding default_of
  default_same both_none = both_none
  default_same (both_some h) = both_some (same_constant_lem D h)

  given_or_same : {o o' : Option Given} {d d' : Option Labelled} → Optional (SameGiven D) o o' → Optional (SameLabelled D) d d' → Optional (SameLabelled D) (given_or o d) (given_or o' d')
  unfolding given_or
  given_or_same both_none h = h
  given_or_same (both_some (same_given g)) h = both_some g

  values_same : {qs qs' : List Parameter} {gs gs' : List Given} → Pairwise (SameParameter D) qs qs' → SameGivens D gs gs' → Two (SameGivens D) (parameter_values qs gs) (parameter_values qs' gs')
  unfolding parameter_values
  values_same none_paired g = both_done none_paired
  values_same (paired (same_parameter {n = n} d) r) g = two_or _ _ _ _ (given_or_same (given_same n g) (default_same d)) λ x y w. two_bind (values_same r g) λ vs vs' h. both_done (paired (same_given w) h)

  store_related : (c : Context) (p q n : ℕ) {x y : Labelled} → SameLabelled D x y → {st st' : State} → Related D st st' → Two (Related D) (store c p n x st) (store c q n y st')
  store_related c p q n w h = go_on D (λ st g. store_quiet D c p n _ st) (λ st g. store_quiet D c q n _ st) (λ st st' l. store_low D c p q n w l) h

  store_all_related : (c : Context) {gs gs' : List Given} → SameGivens D gs gs' → {st st' : State} → Related D st st' → Two (Related D) (store_all c gs st) (store_all c gs' st')
  unfolding store_all
  store_all_related c none_paired h = both_done h
  store_all_related c (paired (same_given {p = p} {q = q} {n = n} w) r) h = two_bind (store_related c p q n w h) λ st st' g. store_all_related c r g

  store_title_related : (o : Option ℕ) (c : Context) (p q : ℕ) {x y : Labelled} → SameLabelled D x y → {st st' : State} → Related D st st' → Two (Related D) (store_title o c p x st) (store_title o c q y st')
  unfolding store_title
  store_title_related none c p q w h = both_done h
  store_title_related (some n) c p q w h = store_related c p q n w h

  -- ---- Changes of the state

  freed_same : (b : Bool) {c d : Cell} → SameCell D c d → SameCell D (freed b c) (freed b d)
  unfolding freed no_cell
  freed_same true r = low_cell both_none
  freed_same false r = r

  free_related : (s : Scope) {st st' : State} → Related D st st' → Related D (free s st) (free s st')
  unfolding free
  free_related s (related_low (low hc hk u u')) = related_low (low (λ t n. freed_same _ (hc t n)) hk u u')
  free_related s (related_high h h' r u u') = related_high h h' r u u'

  -- ---- A level, given the one below

  again_quiet : (k : Known) (declare : Declare) (quietly : QuietDeclare D declare) (n : ℕ) (d : ClassDefinition) (ds : List Constant) (vs : List Given) (c : Context) → QuietRun D (λ st. elim (is_declared n st) [ true ↦ done st | false ↦ enter_class k declare d ds vs c st ])
  again_quiet k declare quietly n d ds vs c st h = all_if (is_declared n st) (all_done (quiet D no_growth λ g. g)) (enter_quiet D k declare quietly d ds vs c st (inr h))

  module _ (k k' : Known) (declare declare' : Declare) (quietly : QuietDeclare D declare) (quietly' : QuietDeclare D declare') (alike : SameDeclare D declare declare') where
    parent_low : {o o' : Option Parent} → Optional (SameParent D) o o' → (c : Context) {st st' : State} → Low D st st' → Two (Related D) (parent_first k declare o c st) (parent_first k' declare' o' c st')
    unfolding parent_first is_declared
    parent_low both_none c l = both_done (related_low l)
    parent_low (both_some (same_parent {n = n})) c (low {q = q} hc hk u u') = two_if (declared_in D q n) (both_done (related_low (low hc hk u u'))) (two_step _ _ _ _ _ _ λ m m'. alike _ _ same_included c _ _ (related_low (low hc hk u u')))

    enter_low : {d d' : ClassDefinition} → SameClassDefinition D d d' → (ds ds' : List Constant) {vs vs' : List Given} → SameGivens D vs vs' → (c : Context) {st st' : State} → Low D st st' → Two (Related D) (enter_class k declare d ds vs c st) (enter_class k' declare' d' ds' vs' c st')
    unfolding enter_class placed_under mark_declared
    enter_low (same_class_definition both_none ps b) ds ds' g c (low hc hk u u') = two_any _ _ λ _ _. two_bind (store_all_related _ g (related_low (low hc hk u u'))) λ st st' h. block_related D k k' declare declare' quietly quietly' alike b _ h
    enter_low (same_class_definition (both_some same_parent) ps b) ds ds' g c (low hc hk u u') = two_any _ _ λ _ _. two_bind (store_all_related _ g (related_low (low hc hk u u'))) λ st st' h. block_related D k k' declare declare' quietly quietly' alike b _ h

    -- looks again after the parent: a 29 or a parent does nothing more
    again_low : (n : ℕ) {d d' : ClassDefinition} → SameClassDefinition D d d' → (ds ds' : List Constant) {vs vs' : List Given} → SameGivens D vs vs' → (c : Context) {st st' : State} → Low D st st'
        → Two (Related D) (elim (is_declared n st) [ true ↦ done st | false ↦ enter_class k declare d ds vs c st ]) (elim (is_declared n st') [ true ↦ done st' | false ↦ enter_class k' declare' d' ds' vs' c st' ])
    unfolding is_declared
    again_low n h ds ds' g c (low {q = q} hc hk u u') = two_if (declared_in D q n) (both_done (related_low (low hc hk u u'))) (enter_low h ds ds' g c (low hc hk u u'))

    -- the three declarations, once the definition is found
    type_low : (n : ℕ) {d d' : TypeDefinition} → SameType D d d' → (o : Option ℕ) (p q : ℕ) {x y : Labelled} → SameLabelled D x y → {gs gs' : List Given} → SameGivens D gs gs' → (c : Context) {st st' : State} → Low D st st'
        → Two (Related D) (parameters_known d.parameters gs >>= λ _. parameter_values d.parameters gs >>= λ vs. named_once [] gs >>= λ _. store_title o (in_body n c) p x st >>= λ st₁. come_to_all k (taken_defaults d.parameters gs) >>= λ _. store_all (in_body n c) vs st₁ >>= λ st₂. run_block k declare d.body (in_body n c) st₂ >>= λ st₃. done (free (body_scope n) st₃))
        (parameters_known d'.parameters gs' >>= λ _. parameter_values d'.parameters gs' >>= λ vs. named_once [] gs' >>= λ _. store_title o (in_body n c) q y st' >>= λ st₁. come_to_all k' (taken_defaults d'.parameters gs') >>= λ _. store_all (in_body n c) vs st₁ >>= λ st₂. run_block k' declare' d'.body (in_body n c) st₂ >>= λ st₃. done (free (body_scope n) st₃))
    type_low n (same_type ps b) o p q w g c l = two_any _ _ λ _ _. two_bind (values_same ps g) λ vs vs' v. two_any _ _ λ _ _.
        two_bind (store_title_related o (in_body n c) p q w (related_low l)) λ st₁ st₁' h₁. two_any _ _ λ _ _. two_bind (store_all_related (in_body n c) v h₁) λ st₂ st₂' h₂.
        two_bind (block_related D k k' declare declare' quietly quietly' alike b (in_body n c) h₂) λ st₃ st₃' h₃. both_done (free_related (body_scope n) h₃)

    class_low : (n p q : ℕ) {d d' : ClassDefinition} → SameClassDefinition D d d' → {gs gs' : List Given} → SameGivens D gs gs' → (c : Context) {st st' : State} → Low D st st'
        → Two (Related D) (refuse_if (is_declared n st) Reason.DeclaredAgain p >>= λ _. parameters_known d.parameters gs >>= λ _. parameter_values d.parameters gs >>= λ vs. named_once [] gs >>= λ _. parent_first k declare d.parent c st >>= λ st₁. refuse_if (is_declared n st₁) Reason.DeclaredAgain p >>= λ _. enter_class k declare d (taken_defaults d.parameters gs) vs c st₁)
        (refuse_if (is_declared n st') Reason.DeclaredAgain q >>= λ _. parameters_known d'.parameters gs' >>= λ _. parameter_values d'.parameters gs' >>= λ vs. named_once [] gs' >>= λ _. parent_first k' declare' d'.parent c st' >>= λ st₁. refuse_if (is_declared n st₁) Reason.DeclaredAgain q >>= λ _. enter_class k' declare' d' (taken_defaults d'.parameters gs') vs c st₁)
    class_low n p q {d} {d'} (same_class_definition o ps b) {gs} {gs'} g c l = two_any _ _ λ _ _. two_any _ _ λ _ _. two_bind (values_same ps g) λ vs vs' v. two_any _ _ λ _ _.
        two_bind (parent_low o c l) λ st₁ st₁' h₁.
        go_on D (λ st h. all_any (refuse_if (is_declared n st) Reason.DeclaredAgain p) λ _. enter_quiet D k declare quietly d (taken_defaults d.parameters gs) vs c st (inr h)) (λ st h. all_any (refuse_if (is_declared n st) Reason.DeclaredAgain q) λ _. enter_quiet D k' declare' quietly' d' (taken_defaults d'.parameters gs') vs' c st (inr h)) (λ st st' l. two_any _ _ λ _ _. enter_low (same_class_definition o ps b) _ _ v c l) h₁

    include_low : (n : ℕ) {d d' : ClassDefinition} → SameClassDefinition D d d' → (c : Context) {st st' : State} → Low D st st'
        → Two (Related D) (parameter_values d.parameters [] >>= λ vs. parent_first k declare d.parent c st >>= λ st₁. elim (is_declared n st₁) [ true ↦ done st₁ | false ↦ enter_class k declare d (taken_defaults d.parameters []) vs c st₁ ])
        (parameter_values d'.parameters [] >>= λ vs. parent_first k' declare' d'.parent c st' >>= λ st₁. elim (is_declared n st₁) [ true ↦ done st₁ | false ↦ enter_class k' declare' d' (taken_defaults d'.parameters []) vs c st₁ ])
    include_low n {d} {d'} (same_class_definition o ps b) c l = two_bind (values_same ps none_paired) λ vs vs' v. two_bind (parent_low o c l) λ st₁ st₁' h₁.
        go_on D (again_quiet k declare quietly n d _ vs c) (again_quiet k' declare' quietly' n d' _ vs' c)
        (λ st st' l. again_low n (same_class_definition o ps b) _ _ v c l) h₁

  -- ---- The levels

  pub data SameKnown : Known → Known → Type 0 where
    same_known : {b b' : ℕ → Bool} {t : Option ℕ} {ds ds' : List Definition} {s s' : Constant → Bool} → Pairwise (SameDefinition D) ds ds'
        → SameKnown (record { built_in = b; title = t; definitions = ds; struck_out = s }) (record { built_in = b'; title = t; definitions = ds'; struck_out = s' })

  -- declarations from low states, and so from related ones
  at_all_levels : (k k' : Known) (n : ℕ) → ((d d' : Declaration) → SameDeclaration D d d' → (c : Context) (st st' : State) → Low D st st' → Two (Related D) (declaration k n d c st) (declaration k' n d' c st')) → SameDeclare D (declaration k n) (declaration k' n)
  at_all_levels k k' n f d d' r c st st' z = go_on D (λ st h. declaration_quiet D k n d c st (inr h)) (λ st h. declaration_quiet D k' n d' c st (inr h)) (λ st st' l. f d d' r c st st' l) z

  declaration_low : {k k' : Known} → SameKnown k k' → (n : ℕ) {d d' : Declaration} → SameDeclaration D d d' → (c : Context) {st st' : State} → Low D st st' → Two (Related D) (declaration k n d c st) (declaration k' n d' c st')
  unfolding declaration
  declaration_low h zero r c l = left_refused
  declaration_low {k} {k'} (same_known {t = o} ds) (suc n) (same_of_type {p = p} {q = q} {t = t} w g) c l = two_or _ _ _ _ (type_same t ds) λ d d' h. type_low k k' (declaration k n) (declaration k' n) (declaration_quiet D k n) (declaration_quiet D k' n) (at_all_levels k k' n λ d d' r c st st' l. declaration_low (same_known ds) n r c l) n h o p q w g c l
  declaration_low {k} {k'} (same_known ds) (suc n) (same_of_class {p = p} {q = q} {c = m} g) c l = two_or _ _ _ _ (class_same m ds) λ d d' h. class_low k k' (declaration k n) (declaration k' n) (declaration_quiet D k n) (declaration_quiet D k' n) (at_all_levels k k' n λ d d' r c st st' l. declaration_low (same_known ds) n r c l) m p q h g c l
  declaration_low {k} {k'} (same_known ds) (suc n) (same_included {c = m}) c l = two_or _ _ _ _ (class_same m ds) λ d d' h. include_low k k' (declaration k n) (declaration k' n) (declaration_quiet D k n) (declaration_quiet D k' n) (at_all_levels k k' n λ d d' r c st st' l. declaration_low (same_known ds) n r c l) m h c l

  declaration_related : {k k' : Known} → SameKnown k k' → (n : ℕ) → SameDeclare D (declaration k n) (declaration k' n)
  declaration_related {k} {k'} s n = at_all_levels k k' n λ d d' r c st st' l. declaration_low s n r c l

  -- ---- Items

  top_related : {k k' : Known} → SameKnown k k' → {b b' : Block} → SameBlock D b b' → (c : Context) {st st' : State} → Related D st st' → Two (Related D) (run_at_top k b c st) (run_at_top k' b' c st')
  unfolding run_at_top
  top_related {k} {k'} s r c h = block_related D k k' _ _ (declaration_quiet D k 17) (declaration_quiet D k' 17) (declaration_related s 17) r c h

  pub items_related : {k k' : Known} → SameKnown k k' → {is is' : List Item} → Pairwise (SameItem D) is is' → {st st' : State} → Related D st st' → Two (Related D) (run_items k is st) (run_items k' is' st')
  unfolding run_items
  items_related s none_paired h = both_done h
  items_related s (paired (same_statement_item x) r) h = two_bind (top_related s (same_next x same_end) top_context h) λ st st' g. items_related s r g
  items_related s (paired (same_node b) r) h = two_bind (top_related s b node_context h) λ st st' g. items_related s r g
  items_related s (paired (same_definition_item d) r) h = items_related s r h

  -- ---- The node that runs

  without_same : {is is' : List Item} → Pairwise (SameItem D) is is' → Pairwise (SameItem D) (without_nodes is) (without_nodes is')
  unfolding without_nodes
  without_same none_paired = none_paired
  without_same (paired (same_statement_item x) r) = paired (same_statement_item x) (without_same r)
  without_same (paired (same_node b) r) = without_same r
  without_same (paired (same_definition_item d) r) = paired (same_definition_item d) (without_same r)

  pairwise_if : (b : Bool) {xs xs' ys ys' : List Item} → Pairwise (SameItem D) xs xs' → Pairwise (SameItem D) ys ys' → Pairwise (SameItem D) (elim b [ true ↦ xs | false ↦ ys ]) (elim b [ true ↦ xs' | false ↦ ys' ])
  pairwise_if true h g = h
  pairwise_if false h g = g

  with_same : (f : Devices → Bool) {is is' : List Item} → Pairwise (SameItem D) is is' → Pairwise (SameItem D) (with_node f is) (with_node f is')
  unfolding with_node
  with_same f none_paired = none_paired
  with_same f (paired (same_statement_item x) r) = paired (same_statement_item x) (with_same f r)
  with_same f (paired (same_node {ds = ds} b) r) = pairwise_if (f ds) (paired (same_node b) (without_same r)) (with_same f r)
  with_same f (paired (same_definition_item d) r) = paired (same_definition_item d) (with_same f r)

  any_node_same : (f : Devices → Bool) {is is' : List Item} → Pairwise (SameItem D) is is' → any (is_node f) is ≡ any (is_node f) is'
  unfolding any is_node
  any_node_same f none_paired = refl
  any_node_same f (paired (same_statement_item x) r) = any_node_same f r
  any_node_same f (paired (same_node {ds = ds} b) r) = ap (λ (z : Bool). f ds || z) (any_node_same f r)
  any_node_same f (paired (same_definition_item d) r) = any_node_same f r

  pairwise_if_same : (b b' : Bool) {xs xs' ys ys' : List Item} → b ≡ b' → Pairwise (SameItem D) xs xs' → Pairwise (SameItem D) ys ys' → Pairwise (SameItem D) (elim b [ true ↦ xs | false ↦ ys ]) (elim b' [ true ↦ xs' | false ↦ ys' ])
  pairwise_if_same b b' {xs} {xs'} {ys} {ys'} e h g = rw e (pairwise_if b' h g)

  pub items_for_same : (ss : List (List ℕ)) (device : List ℕ) {is is' : List Item} → Pairwise (SameItem D) is is' → Pairwise (SameItem D) (items_for ss device is) (items_for ss device is')
  unfolding items_for
  items_for_same ss device r = pairwise_if_same _ _ (any_node_same (names ss device) r) (with_same (names ss device) r) (with_same is_default_node r)

  -- ---- Two whole runs

  pub start_related : (limit output limit' output' : ℕ) → Related D (start limit output) (start limit' output')
  unfolding start no_cell
  start_related limit output limit' output' = related_low (low (λ s n. low_cell both_none) empty_both unique_none unique_none)
