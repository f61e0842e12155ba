-- Marks of the names of a condition: marking them one after the other, in any order and however often, is what the definition does at once.
use mathlib.Core.Path.{◌≡◌, refl, sym, ap, ◌∙◌, fun_ext}
use mathlib.Core.Bool.{Bool, true, false, not, ◌&&◌, ◌||◌}
use mathlib.Core.List.{List, [], ◌∷◌, ◌++◌}
use Prim.Native.Nat.{ℕ, zero, suc, ◌+◌, ◌*◌, ◌/◌, ◌%◌, ◌≤◌, ◌<◌, max}
use native.Mathlib.Nat.{le-max_left, max-le, max-eq_right, add_assoc, add-zero}
use native.Mathlib.Omega.{arith}
use lib.Bits.{bit_or, or_step, or_zero_l}
use lib.Dec.{eqb, ltb}
use borrow.Author.Tests.{eqb-true, eqb-false, eq-eqb, ne_eqb, ltb-true, ltb-false, lt-ltb, le-ltb}
use Rattle.labels.specs.declared.Labels.{Labels}
use Rattle.labels.specs.Sets.{◌∪◌}
use Rattle.values.specs.declared.Reason.TheVariants.{CellLimit}
use Rattle.rules.specs.Outcome.{Outcome, refused, done, ◌>>=◌, refuse_if}
use Rattle.rules.specs.State.{Scope, same_scope, Cell, Cells, mark_into, count, new_cells, State, Context, cells_for, one_if, tested, trail_with}
use Rattle.rules.specs.Run.{after_test}
use Rattle.rules.proofs.Lists.{scope_same, or_true_right}
use Rattle.cells.specs.Memory.{marked_one, mark_one, mark_all, listed, trailed}
use Rattle.cells.proofs.Search.{count_none, count_new, count_split}

-- ---- A set joined twice

or_again : (n a b : ℕ) → a ≤ n → bit_or a (bit_or a b) ≡ bit_or a b
or_again zero a b h = let z : a ≡ 0 = omega arith in rw (z, or_zero_l b, or_zero_l b) refl
or_again (suc n) a b h =
    let x : ℕ = a % 2 in
    let m : ℕ = max (a % 2) (b % 2) in
    let c : ℕ = bit_or a b in
    let whole : c ≡ bit_or (a / 2) (b / 2) * 2 + m = or_step a b in
    let small : m ≤ 1 = max-le (omega arith) (omega arith) in
    let high : c / 2 ≡ bit_or (a / 2) (b / 2) = omega arith in
    let low : c % 2 ≡ m = omega arith in
    let again : bit_or (a / 2) (bit_or (a / 2) (b / 2)) ≡ bit_or (a / 2) (b / 2) = or_again n (a / 2) (b / 2) (omega arith) in
    let top : max x m ≡ m = max-eq_right (le-max_left (a % 2) (b % 2)) in
    or_step a c ∙ rw (high, low, again, top) (sym whole)

pub union_again : (k m : Labels) → k ∪ (k ∪ m) ≡ k ∪ m
unfolding ◌∪◌
union_again k m =
    rw (
      or_again k.w0 k.w0 m.w0 (omega arith),
      or_again k.w1 k.w1 m.w1 (omega arith),
      or_again k.w2 k.w2 m.w2 (omega arith),
      or_again k.w3 k.w3 m.w3 (omega arith),
    ) refl

mark_twice : (k : Labels) (x y : Bool) (c : Cell) → mark_into y k (mark_into x k c) ≡ mark_into (x || y) k c
unfolding mark_into
mark_twice k true true c = rw (union_again k c.mark) refl
mark_twice k true false c = refl
mark_twice k false y c = refl

mark_exists : (k : Labels) (x : Bool) (c : Cell) → (mark_into x k c).exists ≡ (x || c.exists)
unfolding mark_into
mark_exists k true c = refl
mark_exists k false c = refl

-- ---- Two tests of one set, in one scope

-- a state with other cells
abbrev with_cells : State → Cells → ℕ → State
with_cells st c u = record { cells = c; used = u; classes = st.classes; trail = st.trail; entries = st.entries; steps_left = st.steps_left; room = st.room }

module _ (p : ℕ) (s : Scope) (k : Labels) where
  -- what `after_test` does in a scope
  unfoldable pub test_all : (ℕ → Bool) → State → Outcome State
  test_all f st = cells_for st.used (new_cells f (st.cells s)) p >>= λ _. done (tested s f false k st)

  module _ (f g : ℕ → Bool) (st : State) where
    abbrev both : ℕ → Bool
    both m = f m || g m

    -- the new cells of both are those of the first and, after it, those of the second
    new_both : new_cells f (st.cells s) + new_cells g ((tested s f false k st).cells s) ≡ new_cells both (st.cells s)
    unfolding new_cells tested
    new_both = count_split 1024 (λ m. f m && not (st.cells s m).exists) (λ m. g m && not ((tested s f false k st).cells s m).exists) (λ m. (f m || g m) && not (st.cells s m).exists) (λ m. whole m) (λ m. apart m)
      where
        after : (m : ℕ) → ((tested s f false k st).cells s m).exists ≡ (f m || (st.cells s m).exists)
        after m = mark_exists k (same_scope s s && f m) (st.cells s m) ∙ rw (scope_same s) refl

        whole_go : (a b e : Bool) → ((a || b) && not e) ≡ ((a && not e) || (b && not (a || e)))
        whole_go true b true = sym (and_false b)
          where
            and_false : (b : Bool) → (b && false) ≡ false
            and_false true = refl
            and_false false = refl
        whole_go true b false = refl
        whole_go false b e = refl

        whole : (m : ℕ) → ((f m || g m) && not (st.cells s m).exists) ≡ ((f m && not (st.cells s m).exists) || (g m && not ((tested s f false k st).cells s m).exists))
        whole m = whole_go (f m) (g m) (st.cells s m).exists ∙ ap (λ (e : Bool). (f m && not (st.cells s m).exists) || (g m && not e)) (sym (after m))

        apart_go : (a b e : Bool) → ((a && not e) && (b && not (a || e))) ≡ false
        apart_go true true true = refl
        apart_go true true false = refl
        apart_go true false true = refl
        apart_go true false false = refl
        apart_go false b e = refl

        apart : (m : ℕ) → ((f m && not (st.cells s m).exists) && (g m && not ((tested s f false k st).cells s m).exists)) ≡ false
        apart m = ap (λ (e : Bool). (f m && not (st.cells s m).exists) && (g m && not e)) (after m) ∙ apart_go (f m) (g m) (st.cells s m).exists

    state_both : tested s g false k (tested s f false k st) ≡ tested s both false k st
    unfolding tested trail_with
    state_both =
        let cells : ◌≡◌ {A = Cells} (λ t m. mark_into (same_scope t s && g m) k (mark_into (same_scope t s && f m) k (st.cells t m))) (λ t m. mark_into (same_scope t s && both m) k (st.cells t m)) =
        fun_ext (λ t. fun_ext (λ m. mark_twice k (same_scope t s && f m) (same_scope t s && g m) (st.cells t m) ∙ ap (λ (b : Bool). mark_into b k (st.cells t m)) (spread (same_scope t s) (f m) (g m)))) in
        let used : st.used + new_cells f (st.cells s) + new_cells g ((tested s f false k st).cells s) ≡ st.used + new_cells both (st.cells s) =
        add_assoc st.used (new_cells f (st.cells s)) (new_cells g ((tested s f false k st).cells s)) ∙ ap (λ (n : ℕ). st.used + n) new_both in
        ap (λ (c : Cells). with_cells st c (st.used + new_cells f (st.cells s) + new_cells g ((tested s f false k st).cells s))) cells ∙ ap (with_cells st (λ t m. mark_into (same_scope t s && both m) k (st.cells t m))) used
      where
        spread : (x a b : Bool) → ((x && a) || (x && b)) ≡ (x && (a || b))
        spread true a b = refl
        spread false a b = refl

    used_after : (tested s f false k st).used ≡ st.used + new_cells f (st.cells s)
    unfolding tested
    used_after = refl

    -- marking those of f and then those of g
    pub test_then : (test_all f st >>= test_all g) ≡ test_all both st
    unfolding test_all cells_for ◌>>=◌ refuse_if
    test_then = go (ltb 512 u) refl
      where
        u : ℕ
        u = st.used + new_cells f (st.cells s)

        v : ℕ
        v = new_cells g ((tested s f false k st).cells s)

        whole : u + v ≡ st.used + new_cells both (st.cells s)
        whole = add_assoc st.used (new_cells f (st.cells s)) v ∙ ap (λ (n : ℕ). st.used + n) new_both

        go : (b : Bool) → ltb 512 u ≡ b
            → (refuse_if b CellLimit p >>= (λ _. done (tested s f false k st)) >>= test_all g) ≡ (refuse_if (ltb 512 (st.used + new_cells both (st.cells s))) CellLimit p >>= λ _. done (tested s both false k st))
        go true e = let more : 512 < u = ltb-true 512 u e in rw (lt-ltb 512 (st.used + new_cells both (st.cells s)) (omega (arith, whole))) refl
        go false e = ap (λ (n : ℕ). refuse_if (ltb 512 n) CellLimit p >>= λ _. done (tested s g false k (tested s f false k st))) (ap (λ (n : ℕ). n + v) used_after ∙ whole) ∙ ap (λ (t : State). refuse_if (ltb 512 (st.used + new_cells both (st.cells s))) CellLimit p >>= λ _. done t) state_both

  -- one name
  new_one : (n : ℕ) (c : ℕ → Cell) → n < 1024 → new_cells (λ m. eqb m n) c ≡ one_if (not (c n).exists)
  unfolding new_cells one_if
  new_one n c h = go (c n).exists refl
    where
      own : (e : Bool) → (c n).exists ≡ e → (eqb n n && not (c n).exists) ≡ not e
      own e q = rw (eq-eqb n n refl, q) refl

      other : (l : ℕ) → (l ≡ n → ⊥) → (eqb l n && not (c l).exists) ≡ false
      other l ne = rw (ne_eqb l n ne) refl

      go : (e : Bool) → (c n).exists ≡ e → count 1024 (λ m. eqb m n && not (c m).exists) ≡ one_if (not e)
      go true q = count_none 1024 (λ m. eqb m n && not (c m).exists) (λ l b. each l (eqb l n) refl)
        where
          each : (l : ℕ) (t : Bool) → eqb l n ≡ t → (eqb l n && not (c l).exists) ≡ false
          each l true f = let z : l ≡ n = eqb-true l n f in rw z (own true q)
          each l false f = other l (eqb-false l n f)
      go false q = count_new 1024 (λ m. false) (λ m. eqb m n && not (c m).exists) n h refl (own false q) other ∙ ap suc (count_none 1024 (λ m. false) (λ l b. refl))

  pub one_test : (n : ℕ) (st : State) → n < 1024 → mark_one p s n k st ≡ test_all (λ m. eqb m n) st
  unfolding mark_one marked_one test_all tested trail_with
  one_test n st h = rw (sym (new_one n (st.cells s) h)) refl

  -- no name
  pub no_test : (st : State) → st.used ≤ 512 → done st ≡ test_all (λ m. false) st
  unfolding test_all tested trail_with new_cells cells_for ◌>>=◌ refuse_if mark_into
  no_test st h =
      let none : count 1024 (λ m. false && not (st.cells s m).exists) ≡ 0 = count_none 1024 (λ m. false) (λ l b. refl) in
      let cells : ◌≡◌ {A = Cells} st.cells (λ t m. mark_into (same_scope t s && false) k (st.cells t m)) = fun_ext (λ t. fun_ext (λ m. unmarked (same_scope t s) (st.cells t m))) in
      let within : ltb 512 (st.used + 0) ≡ false = le-ltb 512 (st.used + 0) (omega arith) in
      rw (none, within, add-zero) (ap (λ (c : Cells). done (with_cells st c st.used)) cells)
    where
      unmarked : (x : Bool) (c : Cell) → c ≡ mark_into (x && false) k c
      unmarked true c = refl
      unmarked false c = refl

  -- what follows a test need only agree where the cells were enough
  same_then : (f : ℕ → Bool) (st : State) (next next' : State → Outcome State) → ((st' : State) → st'.used ≤ 512 → next st' ≡ next' st') → (test_all f st >>= next) ≡ (test_all f st >>= next')
  unfolding test_all cells_for ◌>>=◌ refuse_if tested
  same_then f st next next' same = go (ltb 512 (st.used + new_cells f (st.cells s))) refl
    where
      go : (b : Bool) → ltb 512 (st.used + new_cells f (st.cells s)) ≡ b
          → (refuse_if b CellLimit p >>= (λ _. done (tested s f false k st)) >>= next) ≡ (refuse_if b CellLimit p >>= (λ _. done (tested s f false k st)) >>= next')
      go true e = refl
      go false e = same (tested s f false k st) (ltb-false 512 (st.used + new_cells f (st.cells s)) e)

  -- the names of a list
  list_test : (ns : List ℕ) (st : State) → ((m : ℕ) → listed ns m ≡ true → m < 1024) → st.used ≤ 512 → mark_all p s ns k st ≡ test_all (listed ns) st
  unfolding mark_all listed
  list_test [] st small room = no_test st room
  list_test (n ∷ ns) st small room =
      let first : n < 1024 = small n (rw (eq-eqb n n refl) refl) in
      ap (λ (o : Outcome State). o >>= mark_all p s ns k) (one_test n st first)
      ∙ same_then (λ m. eqb m n) st (mark_all p s ns k) (test_all (listed ns)) (λ st' room'. list_test ns st' (λ m e. small m (or_true_right (eqb m n) (listed ns m) e)) room')
      ∙ test_then (λ m. eqb m n) (listed ns) st

-- THE LAW: the names of the list are those that the condition's branches assign
pub marks_law : (p : ℕ) (c : Context) (f : ℕ → Bool) (ns : List ℕ) (k : Labels) (st : State) → ((m : ℕ) → f m ≡ listed ns m) → ((m : ℕ) → f m ≡ true → m < 1024)
    → st.used ≤ 512 → mark_all p c.scope ns k st ≡ after_test p c f false k st
unfolding after_test test_all
marks_law p c f ns k st members small room =
    let same : f ≡ listed ns = fun_ext members in
    list_test p c.scope k ns st (λ m e. small m (members m ∙ e)) room ∙ ap (λ (g : ℕ → Bool). test_all p c.scope k g st) (sym same)

-- lists one after the other
pub marks_append : (p : ℕ) (s : Scope) (ns ms : List ℕ) (k : Labels) (st : State) → mark_all p s (ns ++ ms) k st ≡ (mark_all p s ns k st >>= mark_all p s ms k)
unfolding mark_all ◌>>=◌
marks_append p s [] ms k st = refl
marks_append p s (n ∷ ns) ms k st = go (mark_one p s n k st) (λ st'. marks_append p s ns ms k st')
  where
    go : (o : Outcome State) → ((st' : State) → mark_all p s (ns ++ ms) k st' ≡ (mark_all p s ns k st' >>= mark_all p s ms k))
        → (o >>= mark_all p s (ns ++ ms) k) ≡ (o >>= mark_all p s ns k >>= mark_all p s ms k)
    go (refused r q) later = refl
    go (done st') later = later st'

-- a branch that holds a declaration joins the trail besides
pub test_declares : (p : ℕ) (c : Context) (f : ℕ → Bool) (k : Labels) (st : State) → after_test p c f true k st ≡ (after_test p c f false k st >>= λ st'. done (trailed k st'))
unfolding after_test cells_for ◌>>=◌ refuse_if tested trail_with trailed
test_declares p c f k st = go (ltb 512 (st.used + new_cells f (st.cells c.scope)))
  where
    go : (b : Bool)
        → (refuse_if b CellLimit p >>= λ _. done (tested c.scope f true k st)) ≡ (refuse_if b CellLimit p >>= (λ _. done (tested c.scope f false k st)) >>= λ st'. done (trailed k st'))
    go true = refl
    go false = refl
