-- One run under a high path, of code without declarations whose assigned names are marked high: declared classes and trail stay, and
-- cells change only where their mark is high.
use Prim.Native.Nat.{ℕ}
use mathlib.Core.Path.{◌≡◌, refl}
use mathlib.Core.Bool.{Bool, true, false, ◌||◌, ◌&&◌, true≢false}
use mathlib.Core.List.{List}
use mathlib.Core.Option.{Option}
use lib.Dec.{eqb}
use Rattle.labels.specs.declared.Labels.{Labels}
use Rattle.values.specs.declared.Value.{Value}
use Rattle.values.specs.declared.Labelled.{Labelled}
use Rattle.rules.specs.Tree.{Statement, assignment, conditional, choice, built_in_resource, defined_resource, class_with_attributes, include, Block, end, next, Branches, no_branch, branch, default_branch}
use Rattle.rules.specs.Tree
use Rattle.rules.specs.Patterns.{chosen}
use Rattle.rules.specs.State.{Scope, same_scope, DeclaredClass, Cell, Cells, Entry, State, Context, Known, value_into, mark_into, assign, trail_with, tested, with_entry}
use Rattle.rules.specs.Run.{assigns, assigns_in, assigns_any, declares, declares_in, declares_any, in_branch, store, add_entry, add_resource, after_test, Declare, do_nothing, run, run_block, branch_patterns}
use Rattle.rules.proofs.Same.{Edit, High, high_right}
use Rattle.rules.proofs.Patterns.{every_none, every_constant, every_default, EveryBranch, branch_holds}
use Rattle.rules.proofs.Outcome.{All, all_refused, all_done, all_bind, all_any, all_then, all_map, all_if, all_step, with_steps}
use Rattle.rules.proofs.Lists.{either_left, either_right, or_true_left, or_true_right, both_left, both_right, scope_only}

abbrev pub mk : Cells → ℕ → (ℕ → Option DeclaredClass) → Labels → List Entry → ℕ → ℕ → State
mk c u q t es n r = record { cells = c; used = u; classes = q; trail = t; entries = es; steps_left = n; room = r }

module _ (D : Edit) where
  -- ---- Cells that have changed only where the mark is high

  pub data Keeps : Cell → Cell → Type 0 where
    kept_cell : {c : Cell} → Keeps c c
    marked_cell : {c d : Cell} → High D c.mark → High D d.mark → Keeps c d

  pub keeps_high : {c d : Cell} → Keeps c d → High D c.mark → High D d.mark
  keeps_high kept_cell h = h
  keeps_high (marked_cell h g) _ = g

  keeps_trans : {c d e : Cell} → Keeps c d → Keeps d e → Keeps c e
  keeps_trans kept_cell k = k
  keeps_trans (marked_cell h g) k = marked_cell h (keeps_high k g)

  keeps_value : (b : Bool) (x : Labelled) (c : Cell) → (b ≡ true → High D c.mark) → Keeps c (value_into b x c)
  unfolding value_into
  keeps_value true x c h = marked_cell (h refl) (h refl)
  keeps_value false x c h = kept_cell

  keeps_mark : (b : Bool) (k : Labels) (c : Cell) → (b ≡ true → High D c.mark) → Keeps c (mark_into b k c)
  unfolding mark_into
  keeps_mark true k c h = marked_cell (h refl) (high_right D _ (h refl))
  keeps_mark false k c h = kept_cell

  -- from cells c, declared classes q and trail t to a state with the same q and t
  pub data Frame (c : Cells) (q : ℕ → Option DeclaredClass) (t : Labels) : State → Type 0 where
    frame : {d : Cells} {u n r : ℕ} {es : List Entry} → ((s : Scope) (m : ℕ) → Keeps (c s m) (d s m)) → Frame c q t (mk d u q t es n r)

  frame_trans : {c : Cells} {q : ℕ → Option DeclaredClass} {t : Labels} {st st' : State} → Frame c q t st → Frame st.cells st.classes st.trail st' → Frame c q t st'
  frame_trans (frame k) (frame k') = frame λ s m. keeps_trans (k s m) (k' s m)

  abbrev pub FrameFrom : State → State → Type 0
  FrameFrom st st' = Frame st.cells st.classes st.trail st'

  -- the names are marked high in scope s
  abbrev pub Marked : Scope → (ℕ → Bool) → Cells → Type 0
  Marked s names c = (n : ℕ) → names n ≡ true → High D (c s n).mark

  marked_at : (s : Scope) (names : ℕ → Bool) (c : Cells) → Marked s names c → (t : Scope) (n : ℕ) → (same_scope t s && names n) ≡ true → High D (c t n).mark
  marked_at s names c h t n e = rw (scope_only t s (both_left (same_scope t s) (names n) e)) (h n (both_right (same_scope t s) (names n) e))

  frame_marked : (s : Scope) (names : ℕ → Bool) {c : Cells} {q : ℕ → Option DeclaredClass} {t : Labels} {st : State} → Frame c q t st → Marked s names c → Marked s names st.cells
  frame_marked s names (frame k) m n e = keeps_high (k s n) (m n e)

  tested_frame : (s : Scope) (names : ℕ → Bool) (i : Bool) (k : Labels) (st : State) → i ≡ false → Marked s names st.cells → FrameFrom st (tested s names i k st)
  unfolding tested trail_with
  tested_frame s names true k st e m = absurd (true≢false e)
  tested_frame s names false k st e m = frame λ t n. keeps_mark _ k _ (marked_at s names st.cells m t n)

  store_frame : (c : Context) (p n : ℕ) (x : Labelled) (st : State) → Marked c.scope (λ m. eqb m n) st.cells → All (FrameFrom st) (store c p n x st)
  unfolding store assign
  store_frame c p n x st m = all_any _ λ _. all_any _ λ _. all_done (frame λ t l. keeps_value _ _ _ (marked_at c.scope (λ l. eqb l n) st.cells m t l))

  module _ (k : Known) (declare : Declare) where
    mutual
      unfolding run assigns declares in_branch after_test add_resource add_entry with_entry

      pub run_frame : (s : Statement) (c : Context) (st : State) → High D c.path → declares s ≡ false → Marked c.scope (assigns s) st.cells → All (FrameFrom st) (run k declare s c st)
      run_frame (assignment p n e) c st h i m = all_any _ λ x. store_frame c p n x st m
      run_frame (conditional p e a b) c st h i m = all_any _ λ x. all_any _ λ t.
          all_then _ _ _
          (let f = tested_frame c.scope (assigns (conditional p e a b)) (declares_in a || declares_in b) _ st i m in
          let m' = frame_marked c.scope (assigns (conditional p e a b)) f m in
          all_if t
          (all_map (block_frame a _ _ (high_right D _ h) (either_left (declares_in a) (declares_in b) i) (λ n e. m' n (or_true_left (assigns_in a n) (assigns_in b n) e))) λ st' g. frame_trans f g)
          (all_map (block_frame b _ _ (high_right D _ h) (either_right (declares_in a) (declares_in b) i) (λ n e. m' n (or_true_right (assigns_in a n) (assigns_in b n) e))) λ st' g. frame_trans f g))
      run_frame (choice p e bs) c st h i m = all_any _ λ x. all_any _ λ _.
          all_then _ _ _
          (let f = tested_frame c.scope (assigns_any bs) (declares_any bs) _ st i m in
          all_map (branch_holds (branches_frame bs _ _ (high_right D _ h) i (frame_marked c.scope (assigns_any bs) f m)) x.value (frame λ s n. kept_cell)) λ st' g. frame_trans f g)
      run_frame (built_in_resource p t e fs) c st h i m = all_any _ λ x. all_any _ λ l. all_any _ λ gs. all_any _ λ _. all_any _ λ _. all_any _ λ _. all_any _ λ _. all_done (frame λ s n. kept_cell)
      run_frame (defined_resource p t e fs) c st h i m = absurd (true≢false i)
      run_frame (class_with_attributes p q fs) c st h i m = absurd (true≢false i)
      run_frame (include p q) c st h i m = absurd (true≢false i)
      run_frame (Statement.unreadable p) c st h i m = all_refused

      pub block_frame : (b : Block) (c : Context) (st : State) → High D c.path → declares_in b ≡ false → Marked c.scope (assigns_in b) st.cells → All (FrameFrom st) (run_block k declare b c st)
      block_frame end c st h i m = all_done (frame λ s n. kept_cell)
      block_frame (next s b) c st h i m = all_step _ st _ λ l.
          all_bind (run_frame s c (with_steps l st) h (either_left (declares s) (declares_in b) i) (λ n e. m n (or_true_left (assigns s n) (assigns_in b n) e))) λ st' f.
          all_map (block_frame b c st' h (either_right (declares s) (declares_in b) i) (frame_marked c.scope (assigns_in b) f (λ n e. m n (or_true_right (assigns s n) (assigns_in b n) e)))) λ st'' g. frame_trans f g

      branches_frame : (bs : Branches) (c : Context) (st : State) → High D c.path → declares_any bs ≡ false → Marked c.scope (assigns_any bs) st.cells → EveryBranch (FrameFrom st) c st (branch_patterns k declare bs)
      branches_frame no_branch c st h i m = every_none
      branches_frame (branch v b bs) c st h i m = every_constant
          (block_frame b c st h (either_left (declares_in b) (declares_any bs) i) (λ n e. m n (or_true_left (assigns_in b n) (assigns_any bs n) e)))
          (branches_frame bs c st h (either_right (declares_in b) (declares_any bs) i) (λ n e. m n (or_true_right (assigns_in b n) (assigns_any bs n) e)))
      branches_frame (default_branch b bs) c st h i m = every_default
          (block_frame b c st h (either_left (declares_in b) (declares_any bs) i) (λ n e. m n (or_true_left (assigns_in b n) (assigns_any bs n) e)))
          (branches_frame bs c st h (either_right (declares_in b) (declares_any bs) i) (λ n e. m n (or_true_right (assigns_in b n) (assigns_any bs n) e)))

    -- the branch chosen
    pub branch_frame : (bs : Branches) (x : Value) (c : Context) (st : State) → High D c.path → declares_any bs ≡ false → Marked c.scope (assigns_any bs) st.cells → All (FrameFrom st) (chosen (branch_patterns k declare bs) x do_nothing c st)
    branch_frame bs x c st h i m = branch_holds (branches_frame bs c st h i m) x (frame λ s n. kept_cell)
