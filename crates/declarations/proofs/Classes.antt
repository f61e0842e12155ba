-- One law for each way through the functions on classes.
use Prim.Native.Nat.{ℕ, ◌+◌, ◌<◌}
use mathlib.Core.Path.{◌≡◌, refl, sym, ap, ap₂, ◌∙◌}
use mathlib.Core.Bool.{Bool, true, false, ◌&&◌, false≢true}
use mathlib.Core.List.{List, []}
use mathlib.Core.Option.{Option, none, some}
use borrow.Author.Tests.{eq-eqb, ne_eqb}
use Rattle.values.specs.declared.Refusal.{Refusal}
use Rattle.values.specs.Refusals.{refusal_at}
use Rattle.values.specs.declared.Reason.TheVariants.{Unknown, DeclaredAgain}
use Rattle.wire.specs.Bytes.{byte, two, end_of, fields_in}
use Rattle.rules.specs.Outcome.{Outcome, done, ◌>>=◌, refuse_if, or_refuse}
use Rattle.rules.specs.Tree.{Parent, ClassDefinition, class_definition, definition}
use Rattle.rules.specs.State.{Base, base_scope, class_scope, DeclaredClass, Entry, State, Context, Known, is_declared, mark_declared, one_if}
use Rattle.rules.specs.Evaluate.{find_type, find_class, come_to_all}
use Rattle.rules.specs.Run.{Given, parameter_values, store_all, base_under, placed_under, in_class, taken_defaults}
use Rattle.places.specs.At.{item_at, parent_at, after_parent_at, parameters_at, block_at}
use Rattle.places.proofs.Items.{class_definition_opens, parent_given, parent_none, after_given, after_none}
use Rattle.cells.specs.Scopes.{scope_of}
use Rattle.cells.specs.Memory.{base_for, classes_of, state_of, Becomes}
use Rattle.cells.proofs.Scopes.{class_scope_lem, top_scope_lem, node_scope_lem}
use Rattle.memory.specs.declared.Context.{Context as Here}
use Rattle.memory.specs.Contexts.{context_of}
use Rattle.memory.specs.Names.{placed, at_node}
use Rattle.memory.proofs.Classes.{base_told}
use Rattle.evaluator.specs.Known.{DefinedAt, KnownIn}
use Rattle.statements.specs.Answers.{ran_as, Keeps}
use Rattle.attributes.specs.Table.{Gives}
use Rattle.parameters.specs.Checked.{check_given, AssignsAll}
use Rattle.parameters.proofs.Storing.{keeps_then}
use Rattle.declarations.specs.Standing.{definition_with}
use Rattle.declarations.specs.Classes.{check_class, FoundStands, refused_so, found_so, ChecksClass, Entered, start_class, ParentSmall, scope_under, base_with, started_as, BodyStands, StartsClass}
use Rattle.declarations.proofs.Standing.{FoundAt, class_stands, class_from, PartsAt}
use Rattle.declarations.proofs.Checks.{class_missing, class_there, ChecksGiven, Values, checked_done, checked_refused}
use Rattle.memory.specs.Words.{StrikesAs}
use Rattle.rules.proofs.Outcome.{bind_bind}
use Rattle.declarations.proofs.Types.{strikes_kept}
use Rattle.std.specs.Prelude.{Option as CodeOption, None, Result, Ok, Err}

-- ---- The parent and the base

-- first_parameter
module _ (m : List ℕ) (q : ℕ) {b : ℕ} (read : b ≡ byte m q) where
  pub after_parent_lem : {r : ℕ} → b ≡ 0x35 → r ≡ end_of m q → r ≡ after_parent_at m q
  after_parent_lem tag e = e ∙ sym (after_given m q (eq-eqb (byte m q) 0x35 (sym read ∙ tag)))

  pub after_name_lem : (b ≡ 0x35 → ⊥) → q ≡ after_parent_at m q
  after_name_lem other = sym (after_none m q (ne_eqb (byte m q) 0x35 (λ e. other (read ∙ e))))

  parent_there_lem : b ≡ 0x35 → parent_at m q ≡ some (record { place = q; name = two m (q + 3) })
  parent_there_lem tag = parent_given m q (eq-eqb (byte m q) 0x35 (sym read ∙ tag))

  no_parent_lem : (b ≡ 0x35 → ⊥) → parent_at m q ≡ none
  no_parent_lem other = parent_none m q (ne_eqb (byte m q) 0x35 (λ e. other (read ∙ e)))

  pub name_small : {n : ℕ} → ParentSmall m q → b ≡ 0x35 → n ≡ two m (q + 3) → n < 1024
  name_small small tag e = rw e (small (sym read ∙ tag))

  -- parent_scope
  pub scope_parent : {n : ℕ} (base : Base) → ParentSmall m q → b ≡ 0x35 → n ≡ two m (q + 3) → scope_of (2 + n) ≡ scope_under (parent_at m q) base
  unfolding scope_under
  scope_parent base small tag e = rw (parent_there_lem tag, e) (class_scope_lem (two m (q + 3)) (small (sym read ∙ tag)))

  pub scope_base : (node : Bool) → (b ≡ 0x35 → ⊥) → scope_of (one_if node) ≡ scope_under (parent_at m q) (base_for node)
  unfolding scope_under one_if base_for base_scope
  scope_base node other = rw (no_parent_lem other) (go node)
    where
      go : (node : Bool) → scope_of (one_if node) ≡ base_scope (base_for node)
      go true = node_scope_lem
      go false = top_scope_lem

  -- class_base
  pub base_own : (w : List ℕ) (node : Bool) → (b ≡ 0x35 → ⊥) → base_for node ≡ base_with (parent_at m q) (base_for node) (classes_of w)
  unfolding base_with
  base_own w node other = rw (no_parent_lem other) refl

  module _ (w : List ℕ) (node : Bool) {n : ℕ} {t : Bool} (tag : b ≡ 0x35) (e : n ≡ two m (q + 3)) (told : (es : List Entry) (s r : ℕ) → t ≡ is_declared n (state_of w es s r)) where
    base_parent : (c : Option DeclaredClass) → classes_of w n ≡ c → base_with (parent_at m q) (base_for node) (classes_of w) ≡ base_under (base_for node) c
    unfolding base_with
    base_parent c is = rw (parent_there_lem tag, sym e, is) refl

    pub base_declared : {u : Bool} → t ≡ true → u ≡ at_node (classes_of w n) → base_for u ≡ base_with (parent_at m q) (base_for node) (classes_of w)
    unfolding is_declared state_of base_under
    base_declared {u} is base = go (classes_of w n) refl (sym (told [] 0 0) ∙ is)
      where
        go : (c : Option DeclaredClass) → classes_of w n ≡ c → elim c [ none ↦ false | some d ↦ true ] ≡ true → base_for u ≡ base_with (parent_at m q) (base_for node) (classes_of w)
        go none is h = absurd (false≢true h)
        go (some d) is h = ap base_for base ∙ base_told (classes_of w n) d is ∙ sym (base_parent (some d) is)

    pub base_undeclared : t ≡ false → base_for node ≡ base_with (parent_at m q) (base_for node) (classes_of w)
    unfolding is_declared state_of base_under
    base_undeclared is = go (classes_of w n) refl (sym (told [] 0 0) ∙ is)
      where
        go : (c : Option DeclaredClass) → classes_of w n ≡ c → elim c [ none ↦ false | some d ↦ true ] ≡ false → base_for node ≡ base_with (parent_at m q) (base_for node) (classes_of w)
        go none is h = sym (base_parent none is)
        go (some d) is h = absurd (false≢true (sym h))

-- ---- The checks

-- is_again
module _ (w : List ℕ) (q : ℕ) {asked : Bool} where
  pub again_asked : {t : Bool} → asked ≡ true → ((es : List Entry) (n r : ℕ) → t ≡ is_declared q (state_of w es n r)) → (es : List Entry) (n r : ℕ) → t ≡ (asked && is_declared q (state_of w es n r))
  again_asked is told es n r = rw is (told es n r)

  pub again_not : asked ≡ false → (es : List Entry) (n r : ℕ) → false ≡ (asked && is_declared q (state_of w es n r))
  again_not is es n r = rw is refl

-- check_class
module _ (m t w : List ℕ) (again : Bool) (p q first end : ℕ) where
  pub class_unknown : {f : CodeOption ℕ} {why : Refusal} → f ≡ definition_with m w q 0x34 → f ≡ None → why ≡ refusal_at Unknown p → ChecksClass m t w again p q first end (Err why)
  unfolding check_class or_refuse ◌>>=◌ FoundStands
  class_unknown {why = why} told is at_place = record {
    stands = tt;
    says = λ k es s r gs known gives alike.
        let none_there : find_class q k.definitions ≡ none = class_missing m w q told is (known.definitions q) in
        refused_so {why = why} (rw (at_place, none_there) refl);
  }

  module _ {d : ℕ} {b : Bool} (found : FoundAt m w q 0x34 d) (asked : (es : List Entry) (n r : ℕ) → b ≡ (again && is_declared q (state_of w es n r))) where
    -- the definition is the one that the code found
    class_found : (k : Known) {x : ClassDefinition} → KnownIn m w k → item_at m d ≡ definition (class_definition x) → find_class q k.definitions ≡ some x
    class_found k known tree =
        let at : DefinedAt m d (find_type q k.definitions) (find_class q k.definitions) = rw found.place (known.definitions q) in
        class_there found.positive found.tag tree at

    pub class_again : {why : Refusal} → b ≡ true → why ≡ refusal_at DeclaredAgain p → ChecksClass m t w again p q first end (Err why)
    unfolding check_class or_refuse refuse_if ◌>>=◌ FoundStands
    class_again {why} is at_place = record {
      stands = tt;
      says = λ k es s r gs known gives alike.
          let o = class_definition_opens found.stands.stands found.tag in
          let there = class_found k known o.tree in
          refused_so {why = why} (rw (at_place, there, sym (asked es s r), is) refl);
    }

    module _ {from to : ℕ} {c : Result Unit Refusal} (fresh : b ≡ false) (start : from ≡ after_parent_at m (d + 5)) (parts : PartsAt m d from to (class_definition (class_from m d to))) (checks : ChecksGiven m t first end from to c) where
      check_known : (k : Known) (es : List Entry) (s r : ℕ) (gs : List Given) → KnownIn m w k → check_class k again p q gs (state_of w es s r) ≡ (check_given (parameters_at m (fields_in m from to)) gs >>= λ vs. done (record { definition = class_from m d to; values = vs }))
      unfolding check_class or_refuse refuse_if ◌>>=◌
      check_known k es s r gs known = rw (class_found k known parts.tree, sym (asked es s r), fresh, start) refl

      pub class_unchecked : (why : Refusal) → c ≡ Err why → ChecksClass m t w again p q first end (Err why)
      unfolding ◌>>=◌ FoundStands
      class_unchecked why is = record {
        stands = tt;
        says = λ k es s r gs known gives alike.
            refused_so {why = why} (check_known k es s r gs known ∙ rw (checked_refused (checks gs gives alike parts.laid.parameters parts.laid.small) is) refl);
      }

      pub class_checked : c ≡ Ok tt → ChecksClass m t w again p q first end (Ok d)
      unfolding ◌>>=◌ FoundStands
      class_checked is = record {
        stands = class_stands found;
        says = λ k es s r gs known gives alike.
            let v : Values (parameters_at m (fields_in m from to)) gs = checked_done (checks gs gives alike parts.laid.parameters parts.laid.small) is in
            found_so {p = d} (class_from m d to) v.values parts.tree (check_known k es s r gs known ∙ rw v.are refl);
      }

-- ---- Up to the body

-- start_class
module _ (m t w : List ℕ) (d : ℕ) (here : Here) {name : ℕ} (parent : ℕ) (base : Bool) {w₁ : List ℕ} (named : name ≡ two m (d + 3)) (small : two m (d + 3) < 1024)
    (above : scope_of parent ≡ scope_under (parent_at m (d + 5)) (context_of here).base) (based : base_for base ≡ base_with (parent_at m (d + 5)) (context_of here).base (classes_of w)) (marks : Becomes w w₁ (mark_declared name (placed parent base)) (λ ns. ns)) where
  placed_so : (es : List Entry) (s r : ℕ) → placed parent base ≡ placed_under (parent_at m (d + 5)) (context_of here) (state_of w es s r)
  unfolding placed_under scope_under base_with state_of
  placed_so es s r = go (parent_at m (d + 5)) above based
    where
      go : (o : Option Parent) → scope_of parent ≡ scope_under o (context_of here).base → base_for base ≡ base_with o (context_of here).base (classes_of w) → placed parent base ≡ placed_under o (context_of here) (state_of w es s r)
      go none a b = λ i. record { parent = a i; base = b i }
      go (some q) a b = λ i. record { parent = a i; base = b i }

  -- where the body runs
  abbrev inside : Here
  inside = record { scope = record { number = 2 + name; base_is_node = base }; path = here.path }

  module _ {from to : ℕ} {a : Result Unit Refusal} {w₂ : List ℕ} (start : from ≡ after_parent_at m (d + 5)) (parts : PartsAt m d from to (class_definition (class_from m d to))) (stores : AssignsAll m t w₁ w₂ from to inside a) where
    entered : State → Outcome Entered
    entered st = done (record { body = block_at m 31 to; here = context_of inside; state = st })

    marking : Keeps w w₁
    marking = record { names = marks.names; rest = marks.rest; fine = marks.fine }

    started : (k : Known) (es : List Entry) (s r : ℕ) (x : ClassDefinition) (gs vs : List Given) → StrikesAs k w → item_at m d ≡ definition (class_definition x) → Gives t gs → parameter_values x.parameters gs ≡ done vs
        → (ran_as a (state_of w₂ es s r) >>= entered) ≡ start_class k x (taken_defaults x.parameters gs) vs (context_of here) (state_of w es s r)
    unfolding start_class in_class entered
    started k es s r x gs vs strikes tree gives values =
        let st : State = state_of w es s r in
        let q : ℕ = two m (d + 3) in
        let read = parts.tree in
        let same : class_from m d to ≡ x = cc in
        let p : DeclaredClass = placed_under (parent_at m (d + 5)) (context_of here) st in
        let there : placed parent base ≡ p = placed_so es s r in
        let all : parameter_values (parameters_at m (fields_in m from to)) gs ≡ done vs = rw start (ap (λ (y : ClassDefinition). parameter_values y.parameters gs) same ∙ values) in
        let scope : scope_of (2 + name) ≡ class_scope q = ap (λ (n : ℕ). scope_of (2 + n)) named ∙ class_scope_lem q small in
        let context : context_of inside ≡ in_class q p (context_of here) = λ i. record { scope = scope i; base = (there i).base; path = here.path } in
        let stored = (stores.does k gs vs (strikes_kept k marking strikes) gives all).says es s r in
        let marked : state_of w₁ es s r ≡ mark_declared q p st = marks.state es s r ∙ ap₂ (λ (n : ℕ) (y : DeclaredClass). mark_declared n y st) named there in
        let came : ℕ → Outcome (Unit {0}) = λ f. come_to_all k (taken_defaults (parameters_at m (fields_in m f to)) gs) in
        let entry : Context → State → Outcome Entered = λ h st'. done (record { body = block_at m 31 to; here = h; state = st' }) in
        let rest : Outcome State = store_all (in_class q p (context_of here)) vs (mark_declared q p st) in
        ap (λ (o : Outcome State). o >>= entered) (stored ∙ ap₂ (λ (h : Context) (z : State). came from >>= λ _. store_all h vs z) context marked)
        ∙ bind_bind (came from) (λ _. rest) entered
        ∙ ap₂ (λ (f : ℕ) (h : Context). came f >>= λ _. rest >>= entry h) start context
        ∙ ap (λ (y : ClassDefinition). start_class k y (taken_defaults y.parameters gs) vs (context_of here) st) same

    kept : Keeps w w₂
    kept = keeps_then marking stores.keeps

    pub class_stopped : (why : Refusal) → a ≡ Err why → StartsClass m t w w₂ d here (Err why)
    unfolding started_as ran_as ◌>>=◌ BodyStands entered
    class_stopped why is = record {
      stands = tt;
      keeps = kept;
      says = λ k es s r x gs vs strikes tree gives values. sym (ap (λ (b : Result Unit Refusal). ran_as b (state_of w₂ es s r) >>= entered) is) ∙ started k es s r x gs vs strikes tree gives values;
    }

    pub class_started : a ≡ Ok tt → StartsClass m t w w₂ d here (Ok (record { block = to; here = inside }))
    unfolding started_as ran_as ◌>>=◌ BodyStands entered
    class_started is = record {
      stands = (parts.laid.body.block, parts.laid.known);
      keeps = kept;
      says = λ k es s r x gs vs strikes tree gives values. sym (ap (λ (b : Result Unit Refusal). ran_as b (state_of w₂ es s r) >>= entered) is) ∙ started k es s r x gs vs strikes tree gives values;
    }
