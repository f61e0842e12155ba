-- Arms and selectors. Assumes nothing.
use Prim.Native.Nat.{ℕ, suc, ◌+◌, ◌-◌, ◌≤◌}
use mathlib.Core.Path.{◌≡◌, refl, sym, ap, ◌∙◌, subst}
use mathlib.Core.List.{List, [], ◌∷◌}
use native.Mathlib.Omega.{arith}
use lib.ListN.{length}
use Rattle.labels.specs.declared.Labels.{Labels}
use Rattle.labels.specs.Sets.{no_labels, ◌∪◌}
use Rattle.labels.proofs.Laws.{union_none_after}
use Rattle.values.specs.declared.Value.{Value}
use Rattle.values.specs.declared.Labelled.{Labelled}
use Rattle.values.specs.declared.Refusal.{Refusal}
use Rattle.wire.specs.Bytes.{end_of, fields_in}
use Rattle.rules.specs.Outcome.{Outcome, refused, done}
use Rattle.rules.specs.Tree.{Expression, Arms, arm, default_arm}
use Rattle.rules.specs.Patterns.{Patterns, constant_pattern, default_pattern, chosen}
use Rattle.rules.specs.State.{State, Context, Known}
use Rattle.rules.specs.Evaluate.{evaluate, marks_read, arm_marks}
use Rattle.rules.specs.declared.Kind.TheVariants.{Expression as ExpressionKind, Arm}
use Rattle.rules.proofs.Patterns.{map_patterns, chosen_mapped}
use Rattle.places.specs.At.{constant_at, expression_at, arm_at, arms_at, StandsAs, Siblings}
use Rattle.places.specs.Parts.{SelectorAt}
use Rattle.patterns.specs.Tried.{patterns_at, Matches}
use Rattle.patterns.proofs.Follows.{mapped_first}
use Rattle.cells.specs.Memory.{state_of}
use Rattle.memory.specs.declared.Scope.{Scope}
use Rattle.memory.specs.Contexts.{context_in}
use Rattle.evaluator.specs.Answers.{refused_by}
use Rattle.evaluator.specs.Known.{Tells}
use Rattle.evaluator.proofs.Expressions.{Small, operand_at}
use Rattle.evaluator.proofs.Selectors.{arm_stands, arm_stands_lem, siblings_within}
use Rattle.provenance.specs.Given.{Gives}
use Rattle.provenance.proofs.Expressions.{MarksAt, operand_marks}
use Rattle.std.specs.Prelude.{Option, Some, None}

-- ---- Arms

-- the marks of what a choice among arms leads to, with b levels for what is in them
unfoldable marks_for : List ℕ → (b : ℕ) → Known → Context → State → Option ℕ → Labels
marks_for m b k c st (Some q) = marks_read k c st (expression_at m b q)
marks_for m b k c st None = no_labels

module _ (m : List ℕ) (d : ℕ) (k : Known) (c : Context) (st : State) where
  -- the arms at their places
  arms_at_lem : (qs : List ℕ) → arm_marks k c st (arms_at m d qs) ≡ map_patterns (marks_for m (d - 1) k c st) (patterns_at m qs)
  unfolding marks_read arms_at arm_at patterns_at map_patterns marks_for
  arms_at_lem [] = refl
  arms_at_lem (q ∷ qs) =
      let e : Expression = expression_at m (d - 1) (end_of m (q + 3)) in
      let after : Arms = arms_at m d qs in
      mapped_first (arm_marks k c st) (marks_for m (d - 1) k c st) m q qs (default_arm e after) (arm (constant_at m (q + 3)) e after) (ap (default_pattern (marks_read k c st e)) (arms_at_lem qs)) (ap (constant_pattern (constant_at m (q + 3)) (marks_read k c st e)) (arms_at_lem qs))

  chosen_at : {first end : ℕ} {x : Value} {s s' : List ℕ} {r : Option ℕ} → Matches m first end x s s' r → marks_for m (d - 1) k c st r ≡ chosen (arm_marks k c st (arms_at m d (fields_in m first end))) x no_labels
  unfolding marks_for
  chosen_at {first} {end} {x} i =
      let f = marks_for m (d - 1) k c st in
      ap f i.at ∙ sym (chosen_mapped f (patterns_at m (fields_in m first end)) x None)
      ∙ ap (λ (qs : Patterns Labels). chosen qs x no_labels) (sym (arms_at_lem (fields_in m first end)))

-- ---- The ways of `chosen_marks`

module _ (m w out : List ℕ) (fill : ℕ) (scope : Scope) (d first end : ℕ) (x : Value) {s s' : List ℕ} {r : Option ℕ} (i : Matches m first end x s s' r) where
  abbrev Chosen : Labels → Type 0
  Chosen a = Gives m w out fill scope a (λ k c st. chosen (arm_marks k c st (arms_at m d (fields_in m first end))) x no_labels)

  pub chooses_none : r ≡ None → Chosen no_labels
  unfolding marks_for
  chooses_none is = record { says = λ k path es n v h. ap (marks_for m (d - 1) k (context_in scope path) (state_of w es n v)) (sym is) ∙ chosen_at m d k (context_in scope path) (state_of w es n v) i }

  pub chooses_one : {b q j : ℕ} {a : Labels} → d ≡ suc b → length m ≤ 65535 → Siblings m d Arm first end → r ≡ Some q → Small j q → (StandsAs m b ExpressionKind j → MarksAt m w out fill scope b j a) → Chosen a
  unfolding marks_for arm_stands
  chooses_one {b} {q} above short arms is small told =
      let below : d - 1 ≡ b = omega arith in
      let stands : StandsAs m b ExpressionKind q = rw below at (subst (arm_stands m (d - 1)) is (arm_stands_lem arms i)) in
      let t = operand_marks m w out fill scope b q short stands small told in
      record {
        says = λ k path es n v h.
            let c = context_in scope path in
            let st = state_of w es n v in
            t.says k path es n v h ∙ ap (λ (l : ℕ). marks_read k c st (expression_at m l q)) (sym below) ∙ ap (marks_for m (d - 1) k c st) (sym is) ∙ chosen_at m d k c st i;
      }

-- ---- Selectors

-- the marks of the arm chosen by the scrutinee's value, if it has one
unfoldable after_scrutinee : Outcome Labelled → (Value → Labels) → Labels
after_scrutinee (refused r p) f = no_labels
after_scrutinee (done x) f = f x.value

module _ (m w out : List ℕ) (fill : ℕ) (scope : Scope) {d b p : ℕ} (o : SelectorAt m d b p) (short : length m ≤ 65535) where
  abbrev chosen_here : Known → Context → State → Value → Labels
  chosen_here k c st x = chosen (arm_marks k c st (arms_at m b (fields_in m (end_of m (p + 3)) (end_of m p)))) x no_labels

  selector_means : (k : Known) (c : Context) (st : State) {e : Outcome Labelled} → e ≡ evaluate k c st (expression_at m b (p + 3)) → marks_read k c st (expression_at m b (p + 3)) ∪ after_scrutinee e (chosen_here k c st) ≡ marks_read k c st (expression_at m d p)
  unfolding marks_read no_labels after_scrutinee
  selector_means k c st {e} is =
      ap (λ (s : Labels). marks_read k c st (expression_at m b (p + 3)) ∪ s) (go e) ∙ (λ i. marks_read k c st (expression_at m b (p + 3)) ∪ elim (is i) [ refused r q ↦ no_labels | done x ↦ chosen_here k c st x.value ])
      ∙ sym (ap (marks_read k c st) o.tree)
    where
      go : (e : Outcome Labelled) → after_scrutinee e (chosen_here k c st) ≡ (elim e [ refused r q ↦ no_labels | done x ↦ chosen_here k c st x.value ])
      go (refused r q) = refl
      go (done x) = refl

  module _ {q : ℕ} {s : Labels} {a : Outcome Labelled} (small : Small q (p + 3)) (read : StandsAs m b ExpressionKind q → MarksAt m w out fill scope b q s) (told : StandsAs m b ExpressionKind q → Tells m w out fill scope a (λ k c st. evaluate k c st (expression_at m b q))) where
    -- the scrutinee's marks, and those that follow
    then_marks : {z : Labels} → Gives m w out fill scope z (λ k c st. s ∪ after_scrutinee a (chosen_here k c st)) → MarksAt m w out fill scope d p z
    then_marks t =
        let marks = operand_marks m w out fill scope b (p + 3) short o.scrutinee small read in
        let value = operand_at (λ n. Tells m w out fill scope a (λ k c st. evaluate k c st (expression_at m b n))) short o.scrutinee small told in
        record {
          says = λ k path es n v h.
              let c = context_in scope path in
              let st = state_of w es n v in
              t.says k path es n v h ∙ ap (λ (u : Labels). u ∪ after_scrutinee a (chosen_here k c st)) (marks.says k path es n v h) ∙ selector_means k c st (value.says k path es n v h);
        }

    pub scrutinee_refused : {why : Refusal} → a ≡ refused_by why → MarksAt m w out fill scope d p s
    unfolding after_scrutinee
    scrutinee_refused is = then_marks (record { says = λ k path es n v h. rw is (sym (union_none_after s)) })

    pub arm_read : (x : Labelled) {f e u : ℕ} {y z : Labels} → (b ≡ 0 → ⊥) → a ≡ done x → f ≡ end_of m (p + 3) → e ≡ end_of m p → Small u e
        → ((n : ℕ) → n ≡ suc (b - 1) → Siblings m n Arm f u → Gives m w out fill scope y (λ k c st. chosen (arm_marks k c st (arms_at m n (fields_in m f u))) x.value no_labels)) → z ≡ s ∪ y
        → MarksAt m w out fill scope d p z
    unfolding after_scrutinee
    arm_read x {f} {e} {u} {y} deep is first_is end_is near arms joined =
        let same : u ≡ end_of m p = near.1 (omega (arith, siblings_within o.arms o.some)) ∙ end_is in
        let here : Gives m w out fill scope y (λ k c st. chosen_here k c st x.value) =
        subst (λ (n : ℕ). Siblings m b Arm n (end_of m p) → Gives m w out fill scope y (λ k c st. chosen (arm_marks k c st (arms_at m b (fields_in m n (end_of m p)))) x.value no_labels)) first_is
        (subst (λ (n : ℕ). Siblings m b Arm f n → Gives m w out fill scope y (λ k c st. chosen (arm_marks k c st (arms_at m b (fields_in m f n))) x.value no_labels)) same (arms b (omega arith))) o.arms in
        then_marks (record { says = λ k path es n v h. rw is (joined ∙ ap (λ (t : Labels). s ∪ t) (here.says k path es n v h)) })
