-- One run under a high path or a high trail: it adds high entries only, and a high trail stays high.
use Prim.Native.Nat.{ℕ, zero, suc}
use mathlib.Core.Path.{◌≡◌}
use mathlib.Core.Logic.{◌⊎◌, inl, inr}
use mathlib.Core.Bool.{Bool, true, false}
use mathlib.Core.List.{List, [], ◌∷◌}
use mathlib.Core.Option.{Option, none, some}
use Rattle.labels.specs.declared.Labels.{Labels}
use Rattle.labels.specs.Sets.{◌∪◌}
use Rattle.values.specs.declared.Value.{Value}
use Rattle.values.specs.declared.Labelled.{Labelled}
use Rattle.rules.specs.Outcome.{Outcome, ◌>>=◌}
use Rattle.rules.specs.Tree.{Constant, Statement, assignment, conditional, choice, built_in_resource, defined_resource, class_with_attributes, include, Block, end, next, Branches, no_branch, branch, default_branch, Parent, ClassDefinition}
use Rattle.rules.specs.Tree
use Rattle.rules.specs.Patterns.{chosen}
use Rattle.rules.specs.State.{Entry, State, Context, Known, is_declared, assign, trail_with, tested, mark_declared, free, with_entry}
use Rattle.rules.specs.Evaluate.{any}
use Rattle.rules.specs.Run.{with_path_and_trail, in_branch, store, Given, store_all, store_title, attributes_under, entry_from, add_entry, add_resource, after_test, Declaration, of_type, of_class, included, Declare, do_nothing, run, run_block, branch_patterns, placed_under, in_class, in_body, parent_first, enter_class, declaration}
use Rattle.rules.proofs.Same.{Edit, High, high_left, high_right}
use Rattle.rules.proofs.Patterns.{every_none, every_constant, every_default, EveryBranch, branch_holds}
use Rattle.rules.proofs.Outcome.{All, all_refused, all_done, all_bind, all_any, all_then, all_map, all_if, all_passed, all_step, with_steps}
use Rattle.rules.proofs.Lists.{Each, none_left, also}
use Rattle.rules.proofs.Unique.{UniqueEntries, unique, key_of, has_key}
use Rattle.rules.proofs.Evaluation.{HighAttribute, HighEntry, SameCatalog, entry_left, entry_right}

module _ (D : Edit) where
  -- ---- A catalog that has grown by high entries only

  pub data Growth (c : List Entry) : List Entry → Type 0 where
    no_growth : Growth c c
    grown : {e : Entry} {d : List Entry} → HighEntry D e → any (has_key (key_of e)) d ≡ false → Growth c d → Growth c (e ∷ d)

  growth_trans : {a b c : List Entry} → Growth a b → Growth b c → Growth a c
  growth_trans x no_growth = x
  growth_trans x (grown h f y) = grown h f (growth_trans x y)

  pub growth_left : {c c' d : List Entry} → Growth c c' → SameCatalog D c d → SameCatalog D c' d
  growth_left no_growth r = r
  growth_left (grown h f x) r = entry_left h (growth_left x r)

  pub growth_right : {c d d' : List Entry} → Growth d d' → SameCatalog D c d → SameCatalog D c d'
  growth_right no_growth r = r
  growth_right (grown h f x) r = entry_right h (growth_right x r)

  pub growth_unique : {c c' : List Entry} → Growth c c' → UniqueEntries c → UniqueEntries c'
  growth_unique no_growth u = u
  growth_unique (grown h f x) u = unique f (growth_unique x u)

  -- ---- From a catalog and a trail to a state: only high entries, and a high trail stays high

  pub record Quiet (es : List Entry) (t : Labels) (st : State) : Type 0 where
    pub growth : Growth es st.entries
    pub stays : High D t → High D st.trail

  pub quiet : {es : List Entry} {t : Labels} {st : State} → Growth es st.entries → (High D t → High D st.trail) → Quiet es t st
  quiet g s = record { growth = g; stays = s }

  pub quiet_trans : {es : List Entry} {t : Labels} {st st' : State} → Quiet es t st → Quiet st.entries st.trail st' → Quiet es t st'
  quiet_trans q q' = quiet (growth_trans q.growth q'.growth) λ h. q'.stays (q.stays h)

  abbrev pub QuietFrom : State → State → Type 0
  QuietFrom st st' = Quiet st.entries st.trail st'

  -- the path or the trail is high
  abbrev pub Under : Labels → Labels → Type 0
  Under p t = High D p ⊎ High D t

  pub under : {p t : Labels} → Under p t → High D (p ∪ t)
  under (inl h) = high_left D _ h
  under (inr h) = high_right D _ h

  pub still_under : {es : List Entry} {p t : Labels} {st : State} → Quiet es t st → Under p t → Under p st.trail
  still_under q (inl h) = inl h
  still_under q (inr h) = inr (q.stays h)

  pub trail_stays : (b : Bool) (k t : Labels) → High D t → High D (trail_with b k t)
  unfolding trail_with
  trail_stays true k t h = high_right D _ h
  trail_stays false k t h = h

  -- ---- The changes of the state

  assign_quiet : (p : ℕ) (c : Context) (n : ℕ) (x : Labelled) (st : State) → All (QuietFrom st) (assign p c.scope n x st)
  unfolding assign
  assign_quiet p c n x st = all_any _ λ _. all_any _ λ _. all_done (quiet no_growth λ h. h)

  pub store_quiet : (c : Context) (p n : ℕ) (x : Labelled) (st : State) → All (QuietFrom st) (store c p n x st)
  unfolding store
  store_quiet c p n x st = assign_quiet p c n _ st

  pub store_all_quiet : (c : Context) (gs : List Given) (st : State) → All (QuietFrom st) (store_all c gs st)
  unfolding store_all
  store_all_quiet c [] st = all_done (quiet no_growth λ h. h)
  store_all_quiet c (g ∷ gs) st = all_bind (store_quiet c g.place g.name g.content st) λ st' q. all_map (store_all_quiet c gs st') λ st'' q'. quiet_trans q q'

  pub store_title_quiet : (o : Option ℕ) (c : Context) (p : ℕ) (x : Labelled) (st : State) → All (QuietFrom st) (store_title o c p x st)
  unfolding store_title
  store_title_quiet none c p x st = all_done (quiet no_growth λ h. h)
  store_title_quiet (some n) c p x st = store_quiet c p n x st

  -- a high set on the resource makes all its attributes high
  pub attributes_high : {k : Labels} (c : Context) (st : State) (gs : List Given) → High D k → Each (HighAttribute D) (attributes_under k c st gs)
  unfolding attributes_under
  attributes_high c st [] h = none_left
  attributes_high c st (g ∷ gs) h = also (high_left D _ h) (attributes_high c st gs h)

  pub entry_high : (t m : ℕ) (k : Labels) (o : ℕ → Labels) (c : Context) (st : State) (gs : List Given) → High D (with_path_and_trail c st k) → HighEntry D (entry_from t m k o c st gs)
  unfolding entry_from
  entry_high t m k o c st gs h = record { own = h; all = attributes_high c st gs h }

  pub stored_high : (k : Labels) (c : Context) (st : State) → Under c.path st.trail → High D (with_path_and_trail c st k)
  unfolding with_path_and_trail
  stored_high k c st h = high_left D _ (under h)

  add_entry_quiet : (p : ℕ) (e : Entry) (st : State) → HighEntry D e → any (has_key (key_of e)) st.entries ≡ false → All (QuietFrom st) (add_entry p e st)
  unfolding add_entry with_entry
  add_entry_quiet p e st h f = all_any _ λ _. all_done (quiet (grown h f no_growth) λ g. g)

  pub add_resource_quiet : (k : Known) (p t m : ℕ) (s : Labels) (o : ℕ → Labels) (gs : List Given) (c : Context) (st : State) → High D (with_path_and_trail c st s) → All (QuietFrom st) (add_resource k p t m s o gs c st)
  unfolding add_resource entry_from
  add_resource_quiet k p t m s o gs c st h = all_any _ λ _. all_bind (all_passed _ _ _) λ _ f. all_any _ λ _. add_entry_quiet p _ st (entry_high t m s o c st gs h) f

  -- ---- Statements and blocks, if declarations are quiet

  abbrev pub QuietDeclare : Declare → Type 0
  QuietDeclare declare = (d : Declaration) (c : Context) (st : State) → Under c.path st.trail → All (QuietFrom st) (declare d c st)

  -- a branch, after the marks and the trail
  after_test_quiet : (p : ℕ) (c : Context) (names : ℕ → Bool) (i : Bool) (s : Labels) (st : State) (f : State → Outcome State) → All (QuietFrom (tested c.scope names i s st)) (f (tested c.scope names i s st)) → All (QuietFrom st) (after_test p c names i s st >>= f)
  unfolding after_test tested
  after_test_quiet p c names i s st f h = all_then _ _ f (all_map h λ st' q. quiet q.growth λ g. q.stays (trail_stays i s st.trail g))

  module _ (k : Known) (declare : Declare) (quietly : QuietDeclare declare) where
    mutual
      unfolding run in_branch tested

      pub run_quiet : (s : Statement) (c : Context) (st : State) → Under c.path st.trail → All (QuietFrom st) (run k declare s c st)
      run_quiet (assignment p n e) c st h = all_any _ λ x. store_quiet c p n x st
      run_quiet (conditional p e a b) c st h = all_any _ λ x. all_any _ λ t. after_test_quiet p c _ _ _ st _ (all_if t (block_quiet a _ _ (inl (high_left D _ (stored_high x.labels c st h)))) (block_quiet b _ _ (inl (high_left D _ (stored_high x.labels c st h)))))
      run_quiet (choice p e bs) c st h = all_any _ λ x. all_any _ λ _. after_test_quiet p c _ _ _ st _ (branch_holds (branches_quiet bs _ _ (inl (high_left D _ (stored_high _ c st h)))) x.value (quiet no_growth λ g. g))
      run_quiet (built_in_resource p t e fs) c st h = all_any _ λ x. all_any _ λ m. all_any _ λ gs. add_resource_quiet k p t m x.labels _ gs c st (stored_high _ c st h)
      run_quiet (defined_resource p t e fs) c st h = all_any _ λ x. all_any _ λ m. all_any _ λ gs. quietly _ c st h
      run_quiet (class_with_attributes p q fs) c st h = all_any _ λ gs. quietly _ c st h
      run_quiet (include p q) c st h = all_if (is_declared q st) (all_done (quiet no_growth λ g. g)) (quietly _ c st h)
      run_quiet (Statement.unreadable p) c st h = all_refused

      pub block_quiet : (b : Block) (c : Context) (st : State) → Under c.path st.trail → All (QuietFrom st) (run_block k declare b c st)
      block_quiet end c st h = all_done (quiet no_growth λ g. g)
      block_quiet (next s b) c st h = all_step _ st _ λ n. all_bind (run_quiet s c (with_steps n st) h) λ st' q. all_map (block_quiet b c st' (still_under q h)) λ st'' q'. quiet_trans q q'

      branches_quiet : (bs : Branches) (c : Context) (st : State) → Under c.path st.trail → EveryBranch (QuietFrom st) c st (branch_patterns k declare bs)
      branches_quiet no_branch c st h = every_none
      branches_quiet (branch v b bs) c st h = every_constant (block_quiet b c st h) (branches_quiet bs c st h)
      branches_quiet (default_branch b bs) c st h = every_default (block_quiet b c st h) (branches_quiet bs c st h)

    -- the branch chosen
    pub branch_quiet : (bs : Branches) (x : Value) (c : Context) (st : State) → Under c.path st.trail → All (QuietFrom st) (chosen (branch_patterns k declare bs) x do_nothing c st)
    branch_quiet bs x c st h = branch_holds (branches_quiet bs c st h) x (quiet no_growth λ g. g)

    -- ---- A level

    pub parent_quiet : (o : Option Parent) (c : Context) (st : State) → Under c.path st.trail → All (QuietFrom st) (parent_first k declare o c st)
    unfolding parent_first
    parent_quiet none c st h = all_done (quiet no_growth λ g. g)
    parent_quiet (some q) c st h = all_if (is_declared q.name st) (all_done (quiet no_growth λ g. g)) (all_step _ st _ λ n. quietly _ c (with_steps n st) h)

    pub enter_quiet : (d : ClassDefinition) (ds : List Constant) (vs : List Given) (c : Context) (st : State) → Under c.path st.trail → All (QuietFrom st) (enter_class k declare d ds vs c st)
    unfolding enter_class mark_declared in_class
    enter_quiet d ds vs c st h = all_any _ λ _. all_bind (store_all_quiet _ vs (mark_declared d.name (placed_under d.parent c st) st)) λ st' q. all_map (block_quiet d.body _ st' (still_under q h)) λ st'' q'. quiet_trans q q'

  -- ---- The levels

  pub declaration_quiet : (k : Known) (n : ℕ) → QuietDeclare (declaration k n)
  unfolding declaration free in_body
  declaration_quiet k zero d c st h = all_refused
  declaration_quiet k (suc n) (of_type p t x gs) c st h = all_any _ λ d. all_any _ λ _. all_any _ λ vs. all_any _ λ _.
      all_bind (store_title_quiet k.title (in_body n c) p x st) λ st₁ q₁. all_any _ λ _.
      all_bind (store_all_quiet (in_body n c) vs st₁) λ st₂ q₂.
      all_bind (block_quiet k (declaration k n) (declaration_quiet k n) d.body (in_body n c) st₂ (still_under q₂ (still_under q₁ h))) λ st₃ q₃.
      let q = quiet_trans q₁ (quiet_trans q₂ q₃) in
      all_done (quiet q.growth q.stays)
  declaration_quiet k (suc n) (of_class p q gs) c st h = all_any _ λ d. all_any _ λ _. all_any _ λ _. all_any _ λ vs. all_any _ λ _.
      all_bind (parent_quiet k (declaration k n) (declaration_quiet k n) d.parent c st h) λ st₁ q₁. all_any _ λ _.
      all_map (enter_quiet k (declaration k n) (declaration_quiet k n) d _ vs c st₁ (still_under q₁ h)) λ st₂ q₂. quiet_trans q₁ q₂
  declaration_quiet k (suc n) (included p q) c st h = all_any _ λ d. all_any _ λ vs.
      all_bind (parent_quiet k (declaration k n) (declaration_quiet k n) d.parent c st h) λ st₁ q₁.
      all_if (is_declared q st₁) (all_done q₁) (all_map (enter_quiet k (declaration k n) (declaration_quiet k n) d _ vs c st₁ (still_under q₁ h)) λ st₂ q₂. quiet_trans q₁ q₂)
