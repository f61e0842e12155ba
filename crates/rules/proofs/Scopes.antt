-- Two laws of the scopes, for every state that a run passes: from any scope the walk upward ends within 1,026 scopes, so that trying more changes
-- no read; and the scope of a type's body is empty when the body is entered. One invariant, followed through the definition of a run.
use Prim.Native.Nat.{ℕ, zero, suc, ◌+◌, ◌≤◌, ◌<◌}
use native.Mathlib.Omega.{arith}
use mathlib.Core.Path.{◌≡◌, refl, sym, ap, ◌∙◌}
use mathlib.Core.Bool.{Bool, true, false, ◌&&◌, not, true≢false, false≢true}
use mathlib.Core.List.{List, [], ◌∷◌}
use mathlib.Core.Option.{Option, none, some}
use lib.Dec.{eqb}
use borrow.Author.Tests.{ne_eqb}
use Rattle.labels.specs.declared.Labels.{Labels}
use Rattle.values.specs.declared.Labelled.{Labelled}
use Rattle.rules.specs.Outcome.{done, ◌>>=◌}
use Rattle.rules.specs.Tree.{Constant, Statement, assignment, conditional, choice, built_in_resource, defined_resource, class_with_attributes, include, Block, end, next, Branches, no_branch, branch, default_branch, Parent, ClassDefinition, Definition, type_definition, class_definition, Devices, Item, statement, node, definition}
use Rattle.rules.specs.Tree
use Rattle.rules.specs.State.{Scope, top_scope, node_scope, class_scope, body_scope, same_scope, Base, top_base, node_base, base_scope, DeclaredClass, parent_of_class, parent_of, upward, Cell, no_cell, value_into, mark_into, freed, count, State, Context, Known, scopes_tried, is_declared, take_step, assign, tested, mark_declared, free, with_entry}
use Rattle.rules.specs.Evaluate.{find_class}
use Rattle.rules.specs.Run.{in_branch, store, Given, taken_defaults, store_all, store_title, add_entry, add_resource, after_test, Declaration, of_type, of_class, included, Declare, run, run_block, branch_patterns, placed_under, in_class, in_body, parent_first, enter_class, declaration, run_at_top, top_context, node_context, defined_name, run_items}
use Rattle.rules.specs.Compile.{start}
use Rattle.rules.proofs.Lists.{Perhaps, not_there, there, Each, none_left, also, eqb_true, eqb_same, both_left, both_right, both_true}
use Rattle.rules.proofs.Patterns.{every_none, every_constant, every_default, EveryBranch, branch_holds}
use Rattle.rules.proofs.Outcome.{All, all_refused, all_done, all_bind, all_any, all_map, all_both, all_if, all_passed, all_found, all_step, with_steps}
use Rattle.rules.proofs.Counting.{count_le, count_new}

-- ---- The walk upward

module _ (classes : ℕ → Option DeclaredClass) where
  -- from a scope the walk ends at top after at most so many scopes
  pub data Ends : (most : ℕ) → Scope → Type 0 where
    at_top : {k : ℕ} → Ends (suc k) top_scope
    at_node : {k : ℕ} → Ends (suc (suc k)) node_scope
    at_class : {k c : ℕ} {d : DeclaredClass} → classes c ≡ some d → Ends k d.parent → Ends (suc k) (class_scope c)

  ends_later : {k : ℕ} {s : Scope} (j : ℕ) → k ≤ j → Ends k s → Ends j s
  ends_later zero l at_top = absurd (omega (arith, l))
  ends_later (suc j) l at_top = at_top
  ends_later zero l at_node = absurd (omega (arith, l))
  ends_later (suc zero) l at_node = absurd (omega (arith, l))
  ends_later (suc (suc j)) l at_node = at_node
  ends_later zero l (at_class e r) = absurd (omega (arith, l))
  ends_later (suc j) l (at_class e r) = at_class e (ends_later j (omega (arith, l)) r)

  -- where it ends, more scopes are not tried
  above_class : {c : ℕ} {d : DeclaredClass} → classes c ≡ some d → (b : Base) → parent_of classes b (class_scope c) ≡ some d.parent
  unfolding parent_of parent_of_class
  above_class e b = ap parent_of_class e

  ends_there : (b : Base) {k : ℕ} {s : Scope} → Ends k s → (j : ℕ) → k ≤ j → upward j classes b s ≡ upward k classes b s
  unfolding upward parent_of
  ends_there b at_top zero l = absurd (omega (arith, l))
  ends_there b at_top (suc j) l = refl
  ends_there b at_node zero l = absurd (omega (arith, l))
  ends_there b at_node (suc zero) l = absurd (omega (arith, l))
  ends_there b at_node (suc (suc j)) l = refl
  ends_there b (at_class e r) zero l = absurd (omega (arith, l))
  ends_there b (at_class {k = k} {c = c} {d = d} e r) (suc j) l = rw (above_class e b) (ap (λ (ss : List Scope). class_scope c ∷ ss) (ends_there b r j (omega (arith, l))))

-- ---- The invariant. `vacant` says of which levels the body scopes are empty

pub record Tidy (vacant : ℕ → Bool) (st : State) : Type 0 where
  pub empty : (j : ℕ) → vacant j ≡ true → (n : ℕ) → st.cells (body_scope j) n ≡ no_cell
  -- the walk from a declared class ends after at most as many scopes as classes are declared, and node and top
  pub ends : (c : ℕ) → is_declared c st ≡ true → Ends st.classes (count 1024 (λ n. is_declared n st) + 2) (class_scope c)

-- a scope is none of those
pub record Outside (vacant : ℕ → Bool) (s : Scope) : Type 0 where
  pub other : (j : ℕ) → vacant j ≡ true → same_scope (body_scope j) s ≡ false

-- what a run makes of a tidy state: a tidy one, and a class that is declared stays so
pub record After (vacant : ℕ → Bool) (st st' : State) : Type 0 where
  pub tidy : Tidy vacant st'
  pub stays : (c : ℕ) → is_declared c st ≡ true → is_declared c st' ≡ true

-- ---- The first law

declared_some : (c : ℕ) (st : State) {d : DeclaredClass} → st.classes c ≡ some d → is_declared c st ≡ true
unfolding is_declared
declared_some c st e = ap (λ (o : Option DeclaredClass). elim o [ none ↦ false | some d ↦ true ]) e

base_ends : (classes : ℕ → Option DeclaredClass) (b : Base) → Ends classes 2 (base_scope b)
unfolding base_scope
base_ends classes top_base = at_top
base_ends classes node_base = at_node

module _ (classes : ℕ → Option DeclaredClass) (b : Base) where
  settled : {k : ℕ} {s : Scope} (i j : ℕ) → Ends classes k s → k ≤ i → k ≤ j → upward i classes b s ≡ upward j classes b s
  settled i j e l m = ends_there classes b e i l ∙ sym (ends_there classes b e j m)

  -- a class that is not declared has no scope above it, and a body its base
  class_alone : (i j : ℕ) (c : ℕ) → classes c ≡ none → 0 < i → 0 < j → upward i classes b (class_scope c) ≡ upward j classes b (class_scope c)
  unfolding upward parent_of parent_of_class
  class_alone zero j c e l m = absurd (omega (arith, l))
  class_alone (suc i) zero c e l m = absurd (omega (arith, m))
  class_alone (suc i) (suc j) c e l m = rw e refl

  body_settled : (i j n : ℕ) → 3 ≤ i → 3 ≤ j → upward i classes b (body_scope n) ≡ upward j classes b (body_scope n)
  unfolding upward parent_of
  body_settled zero j n l m = absurd (omega (arith, l))
  body_settled (suc i) zero n l m = absurd (omega (arith, m))
  body_settled (suc i) (suc j) n l m = ap (λ (ss : List Scope). body_scope n ∷ ss) (settled i j (base_ends classes b) (omega (arith, l)) (omega (arith, m)))

-- however many scopes more may be tried, the scopes tried are the same, and so is every read
pub more_scopes_change_nothing : {vacant : ℕ → Bool} (here : Context) (st : State) → Tidy vacant st → (most : ℕ) → 1026 ≤ most → upward most st.classes here.base here.scope ≡ scopes_tried here st
unfolding scopes_tried
more_scopes_change_nothing here st t most l = go here.scope
  where
    class : (c : ℕ) (o : Option DeclaredClass) → st.classes c ≡ o → upward most st.classes here.base (class_scope c) ≡ upward 1026 st.classes here.base (class_scope c)
    class c none e = class_alone st.classes here.base most 1026 c e (omega (arith, l)) (omega arith)
    class c (some d) e =
        let few : count 1024 (λ n. is_declared n st) ≤ 1024 = count_le 1024 (λ n. is_declared n st) in
        settled st.classes here.base most 1026 (t.ends c (declared_some c st e)) (omega (arith, few, l)) (omega (arith, few))

    go : (s : Scope) → upward most st.classes here.base s ≡ upward 1026 st.classes here.base s
    go top_scope = settled st.classes here.base most 1026 (at_top {k = 0}) (omega (arith, l)) (omega arith)
    go node_scope = settled st.classes here.base most 1026 (at_node {k = 0}) (omega (arith, l)) (omega arith)
    go (class_scope c) = class c (st.classes c) refl
    go (body_scope n) = body_settled st.classes here.base most 1026 n (omega (arith, l)) (omega arith)

-- ---- Changes of the state

value_outside : (a b : Bool) (x : Labelled) (c : Cell) → a ≡ false → value_into (a && b) x c ≡ c
unfolding value_into
value_outside true b x c h = absurd (true≢false h)
value_outside false b x c h = refl

mark_outside : (a b : Bool) (k : Labels) (c : Cell) → a ≡ false → mark_into (a && b) k c ≡ c
unfolding mark_into
mark_outside true b k c h = absurd (true≢false h)
mark_outside false b k c h = refl

freed_empty : (b : Bool) (c : Cell) → c ≡ no_cell → freed b c ≡ no_cell
unfolding freed
freed_empty true c h = refl
freed_empty false c h = h

-- a class that was not declared is marked so: walks that end pass it not
module _ (classes : ℕ → Option DeclaredClass) (q : ℕ) (d : DeclaredClass) (new : classes q ≡ none) where
  abbrev marked : ℕ → Option DeclaredClass
  marked n = elim (eqb n q) [ true ↦ some d | false ↦ classes n ]

  some_none : {o : DeclaredClass} → ◌≡◌ {A = Option DeclaredClass} (some o) none → ⊥
  some_none e = true≢false (ap (λ (o : Option DeclaredClass). elim o [ none ↦ false | some z ↦ true ]) e)

  other_class : (c : ℕ) {o : DeclaredClass} → classes c ≡ some o → marked c ≡ some o
  other_class c {o} e = go (eqb c q) refl
    where
      go : (b : Bool) → eqb c q ≡ b → elim b [ true ↦ some d | false ↦ classes c ] ≡ some o
      go true h = absurd (some_none (sym e ∙ ap classes (eqb_true c q h) ∙ new))
      go false h = e

  still_ends : {k : ℕ} {s : Scope} → Ends classes k s → Ends marked k s
  still_ends at_top = at_top
  still_ends at_node = at_node
  still_ends (at_class {c = c} e r) = at_class (other_class c e) (still_ends r)

module _ (vacant : ℕ → Bool) where
  unchanged : (st : State) → Tidy vacant st → After vacant st st
  unchanged st t = record { tidy = t; stays = λ c h. h }

  onward : {st st' st'' : State} → After vacant st st' → After vacant st' st'' → After vacant st st''
  onward a b = record { tidy = b.tidy; stays = λ c h. b.stays c (a.stays c h) }

  step_tidy : (n : ℕ) (st : State) → Tidy vacant st → After vacant st (with_steps n st)
  unfolding is_declared
  step_tidy n st t = record { tidy = record { empty = t.empty; ends = t.ends }; stays = λ c h. h }

  assign_tidy : (p : ℕ) (s : Scope) (n : ℕ) (x : Labelled) (st : State) → Outside vacant s → Tidy vacant st → All (After vacant st) (assign p s n x st)
  unfolding assign is_declared
  assign_tidy p s n x st o t = all_any _ λ _. all_any _ λ _. all_done (record {
    tidy = record { empty = λ j f m. value_outside (same_scope (body_scope j) s) (eqb m n) x (st.cells (body_scope j) m) (o.other j f) ∙ t.empty j f m; ends = t.ends };
    stays = λ c h. h;
  })

  test_tidy : (p : ℕ) (here : Context) (names : ℕ → Bool) (declares : Bool) (k : Labels) (st : State) → Outside vacant here.scope → Tidy vacant st → All (After vacant st) (after_test p here names declares k st)
  unfolding after_test tested is_declared
  test_tidy p here names declares k st o t = all_any _ λ _. all_done (record {
    tidy = record { empty = λ j f m. mark_outside (same_scope (body_scope j) here.scope) (names m) k (st.cells (body_scope j) m) (o.other j f) ∙ t.empty j f m; ends = t.ends };
    stays = λ c h. h;
  })

  resource_tidy : (known : Known) (p t m : ℕ) (l : Labels) (o : ℕ → Labels) (gs : List Given) (here : Context) (st : State) → Tidy vacant st → All (After vacant st) (add_resource known p t m l o gs here st)
  unfolding add_resource add_entry with_entry is_declared
  resource_tidy known p t m l o gs here st h = all_any _ λ _. all_any _ λ _. all_any _ λ _. all_any _ λ _. all_done (record { tidy = record { empty = h.empty; ends = h.ends }; stays = λ c z. z })

  store_all_tidy : (here : Context) (gs : List Given) (st : State) → Outside vacant here.scope → Tidy vacant st → All (After vacant st) (store_all here gs st)
  unfolding store_all store
  store_all_tidy here [] st o t = all_done (unchanged st t)
  store_all_tidy here (g ∷ gs) st o t = all_bind (assign_tidy _ here.scope _ _ st o t) λ st' a. all_map (store_all_tidy here gs st' o a.tidy) λ st'' b. onward a b

  title_tidy : (name : Option ℕ) (here : Context) (p : ℕ) (x : Labelled) (st : State) → Outside vacant here.scope → Tidy vacant st → All (After vacant st) (store_title name here p x st)
  unfolding store_title store
  title_tidy none here p x st o t = all_done (unchanged st t)
  title_tidy (some n) here p x st o t = assign_tidy p here.scope n _ st o t

  -- a class is marked declared: it was not, its name is one of 1,024, and the walk from its parent ends
  marked_tidy : (q : ℕ) (d : DeclaredClass) (st : State) → q < 1024 → is_declared q st ≡ false → Ends st.classes (count 1024 (λ n. is_declared n st) + 2) d.parent → Tidy vacant st → After vacant st (mark_declared q d st)
  unfolding mark_declared is_declared
  marked_tidy q d st small new above t = record {
    tidy = record { empty = t.empty; ends = λ c h. by_name c (eqb c q) refl h };
    stays = λ c h. stays c (eqb c q) refl h;
  }
    where
      none_yet : (o : Option DeclaredClass) → elim o [ none ↦ false | some z ↦ true ] ≡ false → o ≡ none
      none_yet none e = refl
      none_yet (some z) e = absurd (true≢false e)

      undeclared : st.classes q ≡ none
      undeclared = none_yet (st.classes q) new

      itself : marked st.classes q d undeclared q ≡ some d
      itself = ap (λ (b : Bool). elim b [ true ↦ some d | false ↦ st.classes q ]) (eqb_same q)

      test : Option DeclaredClass → Bool
      test o = elim o [ none ↦ false | some z ↦ true ]

      other : (c : ℕ) → eqb c q ≡ false → test (marked st.classes q d undeclared c) ≡ test (st.classes c)
      other c e = ap (λ (b : Bool). test (elim b [ true ↦ some d | false ↦ st.classes c ])) e

      one_more : count 1024 (λ n. test (marked st.classes q d undeclared n)) ≡ suc (count 1024 (λ n. test (st.classes n)))
      one_more = count_new 1024 (λ n. test (st.classes n)) (λ n. test (marked st.classes q d undeclared n)) q small new (ap test itself) (λ c ne. other c (ne_eqb c q ne))

      by_name : (c : ℕ) (b : Bool) → eqb c q ≡ b → test (marked st.classes q d undeclared c) ≡ true → Ends (marked st.classes q d undeclared) (count 1024 (λ n. test (marked st.classes q d undeclared n)) + 2) (class_scope c)
      by_name c true e h =
          rw (eqb_true c q e) (ends_later (marked st.classes q d undeclared) _ (omega (arith, one_more)) (at_class itself (still_ends st.classes q d undeclared above)))
      by_name c false e h =
          ends_later (marked st.classes q d undeclared) _ (omega (arith, one_more)) (still_ends st.classes q d undeclared (t.ends c (sym (other c e) ∙ h)))

      stays : (c : ℕ) (b : Bool) → eqb c q ≡ b → test (st.classes c) ≡ true → test (marked st.classes q d undeclared c) ≡ true
      stays c true e h = ap (λ (b : Bool). test (elim b [ true ↦ some d | false ↦ st.classes c ])) e
      stays c false e h = other c e ∙ h

pub now_declared : (q : ℕ) (d : DeclaredClass) (st : State) → is_declared q (mark_declared q d st) ≡ true
unfolding mark_declared is_declared
now_declared q d st = go (eqb q q) (eqb_same q)
  where
    go : (b : Bool) → b ≡ true → elim (elim b as (λ x. Option DeclaredClass) [ true ↦ some d | false ↦ st.classes q ]) [ none ↦ false | some z ↦ true ] ≡ true
    go true e = refl
    go false e = absurd (false≢true e)

-- ---- Statements and blocks, if declarations with n levels left are tidy

-- what is asked of them: where the scopes of all bodies that they may enter are empty, and no other scope of a body is the one they run in
pub record Orderly (n : ℕ) (declare : Declare) : Type 0 where
  pub orderly : (vacant : ℕ → Bool) → ((j : ℕ) → j < n → vacant j ≡ true) → (asked : Declaration) (here : Context) (st : State) → Outside vacant here.scope → Tidy vacant st → All (After vacant st) (declare asked here st)
  pub includes : (vacant : ℕ → Bool) → ((j : ℕ) → j < n → vacant j ≡ true) → (p q : ℕ) (here : Context) (st : State) → Outside vacant here.scope → Tidy vacant st → All (λ (st' : State). is_declared q st' ≡ true) (declare (included p q) here st)

module _ (known : Known) (n : ℕ) (declare : Declare) (below : Orderly n declare) (vacant : ℕ → Bool) (all : (j : ℕ) → j < n → vacant j ≡ true) where
  mutual
    unfolding run in_branch store

    run_tidy : (s : Statement) (here : Context) (st : State) → Outside vacant here.scope → Tidy vacant st → All (After vacant st) (run known declare s here st)
    run_tidy (assignment p name e) here st o t = all_any _ λ x. assign_tidy vacant p here.scope name _ st o t
    run_tidy (conditional p e a b) here st o t = all_any _ λ x. all_any _ λ z. all_bind (test_tidy vacant p here _ _ _ st o t) λ st' h.
        all_map (all_if z (block_tidy a _ st' o h.tidy) (block_tidy b _ st' o h.tidy)) λ st'' g. onward vacant h g
    run_tidy (choice p e bs) here st o t = all_any _ λ x. all_any _ λ _. all_bind (test_tidy vacant p here _ _ _ st o t) λ st' h. all_map (branch_holds (branches_tidy bs _ st' o h.tidy) _ (unchanged vacant st' h.tidy)) λ st'' g. onward vacant h g
    run_tidy (built_in_resource p type e ats) here st o t = all_any _ λ x. all_any _ λ m. all_any _ λ gs. resource_tidy vacant known p type m _ _ gs here st t
    run_tidy (defined_resource p type e ats) here st o t = all_any _ λ x. all_any _ λ m. all_any _ λ gs. below.orderly vacant all _ here st o t
    run_tidy (class_with_attributes p q ats) here st o t = all_any _ λ gs. below.orderly vacant all _ here st o t
    run_tidy (include p q) here st o t = all_if (is_declared q st) (all_done (unchanged vacant st t)) (below.orderly vacant all _ here st o t)
    run_tidy (Statement.unreadable p) here st o t = all_refused

    block_tidy : (b : Block) (here : Context) (st : State) → Outside vacant here.scope → Tidy vacant st → All (After vacant st) (run_block known declare b here st)
    block_tidy end here st o t = all_done (unchanged vacant st t)
    block_tidy (next s b) here st o t = all_step _ st _ λ m.
        all_bind (run_tidy s here (with_steps m st) o (step_tidy vacant m st t).tidy) λ st₂ h. all_map (block_tidy b here st₂ o h.tidy) λ st₃ g. onward vacant (step_tidy vacant m st t) (onward vacant h g)

    branches_tidy : (bs : Branches) (here : Context) (st : State) → Outside vacant here.scope → Tidy vacant st → EveryBranch (After vacant st) here st (branch_patterns known declare bs)
    branches_tidy no_branch here st o t = every_none
    branches_tidy (branch v b bs) here st o t = every_constant (block_tidy b here st o t) (branches_tidy bs here st o t)
    branches_tidy (default_branch b bs) here st o t = every_default (block_tidy b here st o t) (branches_tidy bs here st o t)

  -- ---- Classes

  -- a named parent is declared
  data ParentThere (st : State) : Option Parent → Type 0 where
    no_parent : ParentThere st none
    parent_there : {q : Parent} → is_declared q.name st ≡ true → ParentThere st (some q)

  parent_tidy : (o : Option Parent) (here : Context) (st : State) → Outside vacant here.scope → Tidy vacant st → All (λ (st' : State). After vacant st st' × ParentThere st' o) (parent_first known declare o here st)
  unfolding parent_first
  parent_tidy none here st o t = all_done (unchanged vacant st t, no_parent)
  parent_tidy (some q) here st o t = go (is_declared q.name st) refl
    where
      go : (b : Bool) → is_declared q.name st ≡ b
          → All (λ (st' : State). After vacant st st' × ParentThere st' (some q)) (elim b [ true ↦ done st | false ↦ take_step q.place st >>= λ st'. declare (included q.place q.name) here st' ])
      go true e = all_done (unchanged vacant st t, parent_there e)
      go false e = all_step _ st _ λ m.
          let step = step_tidy vacant m st t in
          all_map (all_both (below.orderly vacant all _ here (with_steps m st) o step.tidy) (below.includes vacant all _ _ here (with_steps m st) o step.tidy))
          λ st' h. (onward vacant step h.0, parent_there h.1)

  parent_ends : (o : Option Parent) (here : Context) (st : State) → ParentThere st o → Tidy vacant st → Ends st.classes (count 1024 (λ m. is_declared m st) + 2) (placed_under o here st).parent
  unfolding placed_under
  parent_ends none here st h t = ends_later st.classes _ (omega arith) (base_ends st.classes here.base)
  parent_ends (some q) here st (parent_there h) t = t.ends q.name h

  enter_tidy : (class : ClassDefinition) (defaults : List Constant) (values : List Given) (here : Context) (st : State) → class.name < 1024 → is_declared class.name st ≡ false → ParentThere st class.parent → Tidy vacant st
      → All (λ (st' : State). After vacant st st' × (is_declared class.name st' ≡ true)) (enter_class known declare class defaults values here st)
  unfolding enter_class in_class same_scope
  enter_tidy class defaults values here st small new parent t =
      let declared : DeclaredClass = placed_under class.parent here st in
      let inside : Context = in_class class.name declared here in
      let out : Outside vacant (class_scope class.name) = record { other = λ j f. refl } in
      let marked = marked_tidy vacant class.name declared st small new (parent_ends class.parent here st parent t) t in
      all_any _ λ _. all_bind (store_all_tidy vacant inside values (mark_declared class.name declared st) out marked.tidy) λ st₁ a.
      all_map (block_tidy class.body inside st₁ out a.tidy) λ st₂ b.
      (onward vacant marked (onward vacant a b), b.stays _ (a.stays _ (now_declared class.name declared st)))

-- ---- Levels

-- a definition whose name is one of 1,024: the check before running lets no other pass (5)
pub record Small (d : Definition) : Type 0 where
  pub name : defined_name d < 1024

record Found (name : ℕ) (class : ClassDefinition) : Type 0 where
  named : class.name ≡ name
  small : class.name < 1024

class_found : (name : ℕ) {ds : List Definition} → Each Small ds → Perhaps (Found name) (find_class name ds)
unfolding find_class defined_name
class_found name none_left = not_there
class_found name (also {x = type_definition d} h hs) = class_found name hs
class_found name (also {x = class_definition d} h hs) = go (eqb d.name name) refl (class_found name hs)
  where
    go : (b : Bool) → eqb d.name name ≡ b → {o : Option ClassDefinition} → Perhaps (Found name) o → Perhaps (Found name) (elim b [ true ↦ some d | false ↦ o ])
    go true e r = there (record { named = eqb_true d.name name e; small = h.name })
    go false e r = r

-- all but one level
abbrev without : ℕ → (ℕ → Bool) → ℕ → Bool
without n vacant j = vacant j && not (eqb j n)

module _ (vacant : ℕ → Bool) (n : ℕ) where
  fewer : (st : State) → Tidy vacant st → Tidy (without n vacant) st
  fewer st t = record { empty = λ j f m. t.empty j (both_left (vacant j) (not (eqb j n)) f) m; ends = t.ends }

  body_outside : Outside (without n vacant) (body_scope n)
  unfolding same_scope
  body_outside = record { other = λ j f. go (eqb j n) (both_right (vacant j) (not (eqb j n)) f) }
    where
      go : (b : Bool) → not b ≡ true → b ≡ false
      go true e = absurd (false≢true e)
      go false e = refl

  free_tidy : (st : State) → Tidy (without n vacant) st → Tidy vacant (free (body_scope n) st)
  unfolding free freed is_declared same_scope
  free_tidy st t = record { empty = λ j f m. go j f m (eqb j n) refl; ends = t.ends }
    where
      go : (j : ℕ) → vacant j ≡ true → (m : ℕ) (b : Bool) → eqb j n ≡ b → freed (eqb j n) (st.cells (body_scope j) m) ≡ no_cell
      go j f m true e = rw e refl
      go j f m false e = rw e (t.empty j (both_true (vacant j) (not (eqb j n)) f (ap not e)) m)

-- a level, given the one below it
module _ (known : Known) (small : Each Small known.definitions) (n : ℕ) (below : Orderly n (declaration known n)) (vacant : ℕ → Bool) (all : (j : ℕ) → j < suc n → vacant j ≡ true) where
  fewer_levels : (j : ℕ) → j < n → vacant j ≡ true
  fewer_levels j l = all j (omega (arith, l))

  but_this : (j : ℕ) → j < n → without n vacant j ≡ true
  but_this j l = both_true (vacant j) (not (eqb j n)) (fewer_levels j l) (ap not (ne_eqb j n (λ e. omega (arith, l, e))))

  -- THE SECOND LAW: the scope of a body is empty when it is entered
  pub body_empty : (st : State) → Tidy vacant st → (m : ℕ) → st.cells (body_scope n) m ≡ no_cell
  body_empty st t m = t.empty n (all n (omega arith)) m

  type_tidy : (p name : ℕ) (title : Labelled) (gs : List Given) (here : Context) (st : State) → Tidy vacant st → All (After vacant st) (declaration known (suc n) (of_type p name title gs) here st)
  unfolding declaration in_body free is_declared
  type_tidy p name title gs here st t =
      let less : Tidy (without n vacant) st = fewer vacant n st t in
      let out : Outside (without n vacant) (body_scope n) = body_outside vacant n in
      all_any _ λ d. all_any _ λ _. all_any _ λ values. all_any _ λ _.
      all_bind (title_tidy (without n vacant) known.title (in_body n here) p title st out less) λ st₁ a. all_any _ λ _.
      all_bind (store_all_tidy (without n vacant) (in_body n here) values st₁ out a.tidy) λ st₂ b.
      all_bind (block_tidy known n (declaration known n) below (without n vacant) but_this d.body (in_body n here) st₂ out b.tidy) λ st₃ c.
      all_done (record { tidy = free_tidy vacant n st₃ c.tidy; stays = λ q h. c.stays q (b.stays q (a.stays q h)) })

  class_tidy : (p name : ℕ) (gs : List Given) (here : Context) (st : State) → Outside vacant here.scope → Tidy vacant st → All (After vacant st) (declaration known (suc n) (of_class p name gs) here st)
  unfolding declaration
  class_tidy p name gs here st o t =
      all_bind (all_found _ _ (class_found name small)) λ class f. all_any _ λ _. all_any _ λ _. all_any _ λ values. all_any _ λ _.
      all_bind (parent_tidy known n (declaration known n) below vacant fewer_levels class.parent here st o t) λ st₁ h.
      all_bind (all_passed (is_declared name st₁) _ _) λ _ new.
      all_map (enter_tidy known n (declaration known n) below vacant fewer_levels class _ values here st₁ f.small (rw f.named new) h.1 h.0.tidy) λ st₂ g. onward vacant h.0 g.0

  include_tidy : (p name : ℕ) (here : Context) (st : State) → Outside vacant here.scope → Tidy vacant st
      → All (λ (st' : State). After vacant st st' × (is_declared name st' ≡ true)) (declaration known (suc n) (included p name) here st)
  unfolding declaration
  include_tidy p name here st o t =
      all_bind (all_found _ _ (class_found name small)) λ class f. all_any _ λ values.
      all_bind (parent_tidy known n (declaration known n) below vacant fewer_levels class.parent here st o t) λ st₁ h. go class values f st₁ h (is_declared name st₁) refl
    where
      go : (class : ClassDefinition) (values : List Given) → Found name class → (st₁ : State) → After vacant st st₁ × ParentThere known n (declaration known n) below vacant fewer_levels st₁ class.parent → (b : Bool) → is_declared name st₁ ≡ b
          → All (λ (st' : State). After vacant st st' × (is_declared name st' ≡ true)) (elim b [ true ↦ done st₁ | false ↦ enter_class known (declaration known n) class (taken_defaults class.parameters []) values here st₁ ])
      go class values f st₁ h true e = all_done (h.0, e)
      go class values f st₁ h false e =
          all_map (enter_tidy known n (declaration known n) below vacant fewer_levels class _ values here st₁ f.small (rw f.named e) h.1 h.0.tidy)
          λ st₂ g. (onward vacant h.0 g.0, rw f.named at g.1)

  level_tidy : (asked : Declaration) (here : Context) (st : State) → Outside vacant here.scope → Tidy vacant st → All (After vacant st) (declaration known (suc n) asked here st)
  level_tidy (of_type p name title gs) here st o t = type_tidy p name title gs here st t
  level_tidy (of_class p name gs) here st o t = class_tidy p name gs here st o t
  level_tidy (included p name) here st o t = all_map (include_tidy p name here st o t) λ st' h. h.0

pub declaration_orderly : (known : Known) → Each Small known.definitions → (n : ℕ) → Orderly n (declaration known n)
unfolding declaration
declaration_orderly known small zero = record { orderly = λ vacant all asked here st o t. all_refused; includes = λ vacant all p q here st o t. all_refused }
declaration_orderly known small (suc n) = record {
  orderly = λ vacant all asked here st o t. level_tidy known small n (declaration_orderly known small n) vacant all asked here st o t;
  includes = λ vacant all p q here st o t. all_map (include_tidy known small n (declaration_orderly known small n) vacant all p q here st o t) λ st' h. h.1;
}

-- ---- Items: at the top the scopes of all bodies are empty

abbrev pub everywhere : ℕ → Bool
everywhere j = true

pub data SmallItem : Item → Type 0 where
  small_statement : {s : Statement} → SmallItem (statement s)
  small_node : {ds : Devices} {b : Block} → SmallItem (node ds b)
  small_definition : {d : Definition} → Small d → SmallItem (definition d)

pub small_definition_lem : {d : Definition} → SmallItem (definition d) → Small d
small_definition_lem (small_definition h) = h

top_tidy : (known : Known) → Each Small known.definitions → (b : Block) (here : Context) (st : State) → Outside everywhere here.scope → Tidy everywhere st → All (After everywhere st) (run_at_top known b here st)
unfolding run_at_top
top_tidy known small b here st o t = block_tidy known 17 (declaration known 17) (declaration_orderly known small 17) everywhere (λ j l. refl) b here st o t

pub items_tidy : (known : Known) → Each Small known.definitions → {items : List Item} → Each SmallItem items → (st : State) → Tidy everywhere st → All (Tidy everywhere) (run_items known items st)
unfolding run_items top_context node_context same_scope
items_tidy known small none_left st t = all_done t
items_tidy known small (also small_statement is) st t = all_bind (top_tidy known small _ top_context st (record { other = λ j f. refl }) t) λ st' h. items_tidy known small is st' h.tidy
items_tidy known small (also small_node is) st t = all_bind (top_tidy known small _ node_context st (record { other = λ j f. refl }) t) λ st' h. items_tidy known small is st' h.tidy
items_tidy known small (also (small_definition h) is) st t = items_tidy known small is st t

pub start_tidy : (limit output_length : ℕ) → Tidy everywhere (start limit output_length)
unfolding start is_declared
start_tidy limit output_length = record { empty = λ j f m. refl; ends = λ c h. absurd (false≢true h) }
