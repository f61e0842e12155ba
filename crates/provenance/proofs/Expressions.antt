-- Operands and operators: the marks that the definition gives, from what the code finds of the parts. Assumes nothing.
use Prim.Native.Nat.{ℕ, ◌+◌, ◌≤◌}
use mathlib.Core.Path.{◌≡◌, sym, ap, ◌∙◌, subst}
use mathlib.Core.Bool.{Bool, true, false}
use mathlib.Core.List.{List}
use native.Mathlib.Omega.{arith}
use lib.ListN.{length}
use Rattle.labels.specs.declared.Labels.{Labels}
use Rattle.labels.specs.Sets.{no_labels, ◌∪◌}
use Rattle.labels.proofs.Laws.{union_none_after}
use Rattle.wire.specs.Bytes.{byte, end_of}
use Rattle.rules.specs.Tree.{Expression}
use Rattle.rules.specs.Read.{operator_from}
use Rattle.rules.specs.State.{State, Context, Known}
use Rattle.rules.specs.Evaluate.{evaluate, skips_right, marks_read}
use Rattle.rules.specs.declared.Kind.TheVariants.{Expression as ExpressionKind}
use Rattle.places.specs.At.{expression_at, StandsAs}
use Rattle.places.specs.Parts.{OperationAt}
use Rattle.cells.specs.Memory.{state_of}
use Rattle.memory.specs.declared.Scope.{Scope}
use Rattle.memory.specs.Contexts.{context_in}
use Rattle.evaluator.proofs.Expressions.{Small}
use Rattle.provenance.specs.Given.{Gives}

module _ (m w out : List ℕ) (fill : ℕ) (scope : Scope) where
  -- these are the marks of the expression at p, which has d levels
  abbrev pub MarksAt : (d p : ℕ) → Labels → Type 0
  MarksAt d p a = Gives m w out fill scope a (λ k c st. marks_read k c st (expression_at m d p))

  -- the marks of what is read there
  pub marks_of : (d p : ℕ) {a : Labels} (e : Expression) → expression_at m d p ≡ e → Gives m w out fill scope a (λ k c st. marks_read k c st e) → MarksAt d p a
  marks_of d p e tree t = record { says = λ k path es n r h. t.says k path es n r h ∙ ap (marks_read k (context_in scope path) (state_of w es n r)) (sym tree) }

  -- an operand at t, found at the small place q
  pub operand_marks : (d t : ℕ) {q : ℕ} {a : Labels} → length m ≤ 65535 → StandsAs m d ExpressionKind t → Small q t → (StandsAs m d ExpressionKind q → MarksAt d q a) → MarksAt d t a
  operand_marks d t {q} {a} short s small h =
      let same : q ≡ t = small.1 (omega (arith, s.stands.ends)) in
      subst (λ (n : ℕ). StandsAs m d ExpressionKind n → MarksAt d n a) same h s

  -- ---- Operators

  module _ {d b p : ℕ} (o : OperationAt m d b p) (short : length m ≤ 65535) where
    abbrev skips_here : Known → Context → State → Bool
    skips_here k c st = skips_right (operator_from (byte m (p + 3))) (evaluate k c st (expression_at m b (p + 4)))

    operation_means : (k : Known) (c : Context) (st : State) {t : Bool} → t ≡ skips_here k c st
        → marks_read k c st (expression_at m b (p + 4)) ∪ elim t [ true ↦ no_labels | false ↦ marks_read k c st (expression_at m b (end_of m (p + 4))) ] ≡ marks_read k c st (expression_at m d p)
    unfolding marks_read
    operation_means k c st e =
        (λ i. marks_read k c st (expression_at m b (p + 4)) ∪ elim (e i) [ true ↦ no_labels | false ↦ marks_read k c st (expression_at m b (end_of m (p + 4))) ])
        ∙ sym (ap (marks_read k c st) o.tree)

    module _ {q : ℕ} {a : Labels} {t : Bool} (small : Small q (p + 4)) (left : StandsAs m b ExpressionKind q → MarksAt b q a) (skips : (e : ℕ) → OperationAt m e b p → Gives m w out fill scope t skips_here) where
      left_marks : MarksAt b (p + 4) a
      left_marks = operand_marks b (p + 4) short o.left small left

      pub right_skipped : t ≡ true → MarksAt d p a
      right_skipped is = record {
        says = λ k path es n r h.
            left_marks.says k path es n r h ∙ sym (union_none_after _) ∙ operation_means k (context_in scope path) (state_of w es n r) (sym is ∙ (skips d o).says k path es n r h);
      }

      pub right_read : {e u : ℕ} {y z : Labels} → t ≡ false → e ≡ end_of m (p + 4) → Small u e → (StandsAs m b ExpressionKind u → MarksAt b u y) → z ≡ a ∪ y → MarksAt d p z
      right_read {e} {u} is end_is near right joined =
          let right_near : Small u (end_of m (p + 4)) = (near.0, λ l. near.1 (omega (arith, end_is)) ∙ end_is) in
          let right-marks = operand_marks b (end_of m (p + 4)) short o.right right_near right in
          record {
            says = λ k path es n r h.
                joined ∙ (λ i. left_marks.says k path es n r h i ∪ right-marks.says k path es n r h i) ∙ operation_means k (context_in scope path) (state_of w es n r) (sym is ∙ (skips d o).says k path es n r h);
          }
