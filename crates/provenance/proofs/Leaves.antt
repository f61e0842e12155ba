-- The ways of `marks_read` and `variable_marks`: by the tag. Assumes nothing.
use Prim.Native.Nat.{ℕ, suc, ◌+◌, ◌-◌, ◌≤◌, ◌<◌}
use mathlib.Core.Path.{◌≡◌, refl, sym, ap, ◌∙◌, subst}
use mathlib.Core.Bool.{false}
use mathlib.Core.List.{List, [], ◌∷◌}
use native.Mathlib.Omega.{arith}
use lib.ListN.{length}
use Rattle.labels.specs.declared.Labels.{Labels}
use Rattle.labels.specs.Sets.{no_labels}
use Rattle.wire.specs.Bytes.{byte, two}
use Rattle.rules.specs.Tree.{constant, variable, top_variable, class_variable, negation, attribute_read}
use Rattle.rules.specs.State.{class_scope, upward, scopes_tried}
use Rattle.rules.specs.Evaluate.{marks_in, marks_read}
use Rattle.rules.specs.declared.Kind.TheVariants.{Expression as ExpressionKind}
use Rattle.places.specs.At.{constant_at, expression_at, StandsAs}
use Rattle.places.proofs.Tags.{IsExpressionTag, expression_tag}
use Rattle.places.proofs.Open.{level}
use Rattle.places.proofs.Expressions.{constant_opens, variable_opens, top_variable_opens, class_variable_opens, OperationAt, operation_opens, negation_opens, attribute_read_opens, SelectorAt, selector_opens}
use Rattle.cells.specs.Scopes.{scope_of}
use Rattle.cells.specs.Memory.{cells_of, classes_of, base_for, state_of}
use Rattle.cells.proofs.Scopes.{top_scope_lem}
use Rattle.memory.specs.declared.Scope.{Scope}
use Rattle.evaluator.proofs.Expressions.{Small}
use Rattle.evaluator.proofs.Leaves.{constant_below, selector_last}
use Rattle.evaluator.proofs.Reading.{upward_one}
use Rattle.provenance.proofs.Expressions.{MarksAt, marks_of, operand_marks}

module _ (m w out : List ℕ) (fill : ℕ) (scope : Scope) (d p : ℕ) where
  abbrev Marks : Labels → Type 0
  Marks a = MarksAt m w out fill scope d p a

  -- no field has no level
  pub no_level : {a : Labels} → d ≡ 0 → StandsAs m d ExpressionKind p → Marks a
  no_level z s = absurd (omega (arith, level s.stands))

  module _ {t : ℕ} (tag : t ≡ byte m p) where
    pub marks_constant : t < 0x13 → StandsAs m d ExpressionKind p → Marks no_labels
    unfolding marks_read
    marks_constant l s =
        let tree = constant_opens (record { stands = s.stands; kind = constant_below (byte m p) (expression_tag (byte m p) s.kind) (omega (arith, tag)) }) in
        marks_of m w out fill scope d p (constant (constant_at m p)) tree (record { says = λ k path es n r h. refl })

    pub marks_variable : {n : ℕ} {a : Labels} → t ≡ 0x13 → n ≡ two m (p + 3) → a ≡ marks_in (cells_of w) n (upward 1026 (classes_of w) (base_for scope.base_is_node) (scope_of scope.number)) → StandsAs m d ExpressionKind p → Marks a
    unfolding marks_read scopes_tried state_of
    marks_variable is name e s =
        marks_of m w out fill scope d p (variable p (two m (p + 3))) (variable_opens s.stands (sym tag ∙ is))
        (record { says = λ k path es n r h. e ∙ λ i. marks_in (cells_of w) (name i) (upward 1026 (classes_of w) (base_for scope.base_is_node) (scope_of scope.number)) })

    pub marks_top : {n : ℕ} {a : Labels} → t ≡ 0x14 → n ≡ two m (p + 3) → a ≡ marks_in (cells_of w) n (upward 1 (classes_of w) (base_for false) (scope_of 0)) → StandsAs m d ExpressionKind p → Marks a
    unfolding marks_read state_of
    marks_top {n} is name e s =
        marks_of m w out fill scope d p (top_variable p (two m (p + 3))) (top_variable_opens s.stands (sym tag ∙ is))
        (record { says = λ k path es n' r h. e ∙ ap (marks_in (cells_of w) n) (upward_one (classes_of w) (base_for false) (scope_of 0)) ∙ λ i. marks_in (cells_of w) (name i) (top_scope_lem i ∷ []) })

    pub marks_class : {q n : ℕ} {a : Labels} → t ≡ 0x15 → q ≡ two m (p + 3) → n ≡ two m (p + 5) → a ≡ marks_in (cells_of w) n (class_scope q ∷ []) → StandsAs m d ExpressionKind p → Marks a
    unfolding marks_read state_of
    marks_class is class name e s =
        marks_of m w out fill scope d p (class_variable p (two m (p + 3)) (two m (p + 5))) (class_variable_opens s.stands (sym tag ∙ is))
        (record { says = λ k path es n r h. e ∙ λ i. marks_in (cells_of w) (name i) (class_scope (class i) ∷ []) })

    module _ (some : d ≡ 0 → ⊥) where
      one_more : d ≡ suc (d - 1)
      one_more = omega arith

      pub marks_operation : {a : Labels} → t ≡ 0x16 → ((e : ℕ) → OperationAt m e (d - 1) p → MarksAt m w out fill scope e p a) → StandsAs m d ExpressionKind p → Marks a
      marks_operation is e s = e d (operation_opens s.stands one_more (sym tag ∙ is))

      module _ (short : length m ≤ 65535) {q : ℕ} {a : Labels} (operand : StandsAs m (d - 1) ExpressionKind q → MarksAt m w out fill scope (d - 1) q a) where
        pub marks_negation : t ≡ 0x17 → Small q (p + 3) → StandsAs m d ExpressionKind p → Marks a
        unfolding marks_read
        marks_negation is small s =
            let o = negation_opens s.stands one_more (sym tag ∙ is) in
            let u = operand_marks m w out fill scope (d - 1) (p + 3) short o.operand small operand in
            marks_of m w out fill scope d p (negation p (expression_at m (d - 1) (p + 3))) o.tree (record { says = λ k path es n r h. u.says k path es n r h })

        pub marks_attribute : t ≡ 0x18 → Small q (p + 7) → StandsAs m d ExpressionKind p → Marks a
        unfolding marks_read
        marks_attribute is small s =
            let o = attribute_read_opens s.stands one_more (sym tag ∙ is) in
            let u = operand_marks m w out fill scope (d - 1) (p + 7) short o.title small operand in
            marks_of m w out fill scope d p (attribute_read p (two m (p + 3)) (two m (p + 5)) (expression_at m (d - 1) (p + 7))) o.tree (record { says = λ k path es n r h. u.says k path es n r h })

      pub marks_selector : {a : Labels} → 0x16 ≤ t → (t ≡ 0x16 → ⊥) → (t ≡ 0x17 → ⊥) → (t ≡ 0x18 → ⊥) → ((e : ℕ) → SelectorAt m e (d - 1) p → MarksAt m w out fill scope e p a) → StandsAs m d ExpressionKind p → Marks a
      marks_selector l n6 n7 n8 e s =
          let is = selector_last t (subst IsExpressionTag (sym tag) (expression_tag (byte m p) s.kind)) l n6 n7 n8 in
          e d (selector_opens s.stands one_more (sym tag ∙ is))
