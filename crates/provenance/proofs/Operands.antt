-- Whether an operator skips its right side. Assumes nothing.
use Prim.Native.Nat.{ℕ, zero, suc, ◌+◌, ◌≤◌, ◌<◌}
use mathlib.Core.Path.{◌≡◌, refl, sym, ap, ◌∙◌}
use mathlib.Core.Bool.{Bool, true, false, not}
use mathlib.Core.List.{List}
use native.Mathlib.Omega.{arith}
use borrow.Author.Tests.{eqb-true, eqb-false}
use lib.Dec.{eqb}
use lib.ListN.{length}
use Rattle.values.specs.declared.Value.TheVariants.{Boolean}
use Rattle.values.specs.declared.Value.{Value}
use Rattle.values.specs.declared.Labelled.{Labelled}
use Rattle.values.specs.declared.Refusal.{Refusal}
use Rattle.wire.specs.Bytes.{byte}
use Rattle.rules.specs.Outcome.{Outcome}
use Rattle.rules.specs.Arithmetic.{same_value}
use Rattle.rules.specs.Tree.{Operator}
use Rattle.rules.specs.Read.{entry_for, operators, operator_from}
use Rattle.rules.specs.Evaluate.{evaluate, is_boolean, skips_right}
use Rattle.rules.specs.declared.Kind.TheVariants.{Expression as ExpressionKind}
use Rattle.places.specs.At.{expression_at, StandsAs}
use Rattle.places.specs.Parts.{OperationAt}
use Rattle.memory.specs.declared.Scope.{Scope}
use Rattle.labels.specs.declared.Labels.{Labels}
use Rattle.std.specs.Prelude.{Ok, Err}
use Rattle.evaluator.specs.Answers.{Evaluated, answered}
use Rattle.evaluator.proofs.Outcomes.{value_answered, refusal_answered}
use Rattle.evaluator.specs.Known.{Tells}
use Rattle.evaluator.proofs.Expressions.{Small, operand_at}
use Rattle.evaluator.proofs.Operators.{operator_and, operator_or}
use Rattle.provenance.specs.Given.{Gives}

-- ---- An answer that is no value

pub why_refused : (e : Evaluated) → ((v : Value) → e ≡ Ok v → ⊥) → Refusal
why_refused (Ok v) h = absurd (h v refl)
why_refused (Err why) h = why

pub is_refused_lem : (e : Evaluated) (h : (v : Value) → e ≡ Ok v → ⊥) → e ≡ Err (why_refused e h)
unfolding why_refused
is_refused_lem (Ok v) h = absurd (h v refl)
is_refused_lem (Err why) h = refl

-- ---- The ways of `is_boolean`

module _ (b : Bool) {e : Evaluated} where
  pub boolean_refused : {why : Refusal} → e ≡ Err why → (k : Labels) → false ≡ is_boolean b (answered e k)
  unfolding is_boolean
  boolean_refused is k = rw (refusal_answered is k)

  pub boolean_compared : {x : Value} {r : Bool} → e ≡ Ok x → r ≡ same_value (Boolean b) x → (k : Labels) → r ≡ is_boolean b (answered e k)
  unfolding is_boolean
  boolean_compared is same k = rw (value_answered is k) same

-- ---- Operator bytes

-- 0 to 4 never skip
skips_low : (n : ℕ) (left : Outcome Labelled) → n < 5 → false ≡ skips_right (operator_from n) left
unfolding operator_from operators entry_for skips_right
skips_low zero left h = refl
skips_low (suc zero) left h = refl
skips_low (suc (suc zero)) left h = refl
skips_low (suc (suc (suc zero))) left h = refl
skips_low (suc (suc (suc (suc zero)))) left h = refl
skips_low (suc (suc (suc (suc (suc n))))) left h = absurd (omega arith)

skips_high : (n : ℕ) (left : Outcome Labelled) → 5 ≤ n → is_boolean (not (eqb n 5)) left ≡ skips_right (operator_from n) left
unfolding skips_right
skips_high n left h = go (eqb n 5) refl
  where
    go : (t : Bool) → eqb n 5 ≡ t → is_boolean (not t) left ≡ skips_right (operator_from n) left
    go true e = sym (ap (λ (o : Operator). skips_right o left) (operator_and n (eqb-true n 5 e)))
    go false e =
        let f = eqb-false n 5 e in
        sym (ap (λ (o : Operator). skips_right o left) (operator_or n (omega arith)))

-- ---- The ways of `skips_right`

module _ (m w out : List ℕ) (fill : ℕ) (scope : Scope) {d b p : ℕ} (o : OperationAt m d b p) {op : ℕ} (byte-is : op ≡ byte m (p + 3)) where
  abbrev Skips : Bool → Type 0
  Skips s = Gives m w out fill scope s (λ k c st. skips_right (operator_from (byte m (p + 3))) (evaluate k c st (expression_at m b (p + 4))))

  pub never_skips : op < 5 → Skips false
  never_skips l = record { says = λ k path es n r h. skips_low (byte m (p + 3)) _ (omega (arith, byte-is)) }

  pub skips_by_left : {q : ℕ} {a : Outcome Labelled} {s : Bool} → length m ≤ 65535 → 5 ≤ op → Small q (p + 4)
      → (StandsAs m b ExpressionKind q → Tells m w out fill scope a (λ k c st. evaluate k c st (expression_at m b q)))
      → s ≡ is_boolean (not (eqb op 5)) a → Skips s
  skips_by_left {a = a} short l small told e =
      let t = operand_at (λ n. Tells m w out fill scope a (λ k c st. evaluate k c st (expression_at m b n))) short o.left small told in
      record { says = λ k path es n r h. e ∙ (λ i. is_boolean (not (eqb (byte-is i) 5)) (t.says k path es n r h i)) ∙ skips_high (byte m (p + 3)) _ (omega (arith, byte-is)) }
