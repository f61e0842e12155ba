-- The ways of `evaluate` and `variable_read`: by the tag. Assumes nothing.
use Prim.Native.Nat.{ℕ, suc, ◌+◌, ◌-◌, ◌≤◌, ◌<◌}
use mathlib.Core.Path.{◌≡◌, refl, sym, ap, ◌∙◌, subst}
use mathlib.Core.Bool.{true, false, Bool}
use mathlib.Core.List.{List, [], ◌∷◌}
use native.Mathlib.Omega.{arith}
use Rattle.labels.specs.Words.{labels_in}
use Rattle.values.specs.declared.Labelled.{Labelled}
use Rattle.wire.specs.Bytes.{byte, two}
use Rattle.rules.specs.Outcome.{Outcome, done, ◌>>=◌, refuse_if, joining}
use Rattle.rules.specs.Format.{allowed}
use Rattle.rules.specs.State.{Known, upward, scopes_tried}
use Rattle.rules.specs.Evaluate.{read_in, of_constant, evaluate, come_to}
use Rattle.rules.specs.declared.Kind.TheVariants.{Expression as ExpressionKind, Constant as ConstantKind}
use Rattle.places.specs.At.{constant_at, expression_at, StandsAs}
use Rattle.places.proofs.Tags.{IsConstantTag, integer_tag, string_tag, boolean_tag, constant_kind, IsExpressionTag, constant_tag, variable_tag, top_variable_tag, class_variable_tag, operation_tag, negation_tag, attribute_read_tag, selector_tag, expression_tag}
use Rattle.places.proofs.Open.{level}
use Rattle.places.proofs.Expressions.{constant_opens, variable_opens, top_variable_opens, class_variable_opens, OperationAt, operation_opens, NegationAt, negation_opens, AttributeReadAt, attribute_read_opens, SelectorAt, selector_opens}
use Rattle.cells.specs.Scopes.{scope_of}
use Rattle.cells.specs.Memory.{cells_of, classes_of, base_for, state_of}
use Rattle.cells.proofs.Scopes.{top_scope_lem}
use Rattle.memory.specs.declared.Scope.{Scope}
use Rattle.memory.specs.Contexts.{context_in}
use Rattle.evaluator.specs.Answers.{Evaluated, answered}
use Rattle.evaluator.specs.Known.{KnownIn, Tells, TellsJoined, class_read, constant_in}
use Rattle.evaluator.proofs.Reading.{read_one}
use Rattle.values.specs.declared.Reason.TheVariants.{Malformed}

-- the tags of constants are below the others
pub constant_below : (t : ℕ) → IsExpressionTag t → t < 0x13 → allowed ConstantKind t ≡ true
constant_below t (constant_tag c) l = constant_kind c
constant_below t variable_tag l = absurd (omega arith)
constant_below t top_variable_tag l = absurd (omega arith)
constant_below t class_variable_tag l = absurd (omega arith)
constant_below t operation_tag l = absurd (omega arith)
constant_below t negation_tag l = absurd (omega arith)
constant_below t attribute_read_tag l = absurd (omega arith)
constant_below t selector_tag l = absurd (omega arith)

constant_small : (t : ℕ) → IsConstantTag t → t < 0x13
constant_small t integer_tag = omega arith
constant_small t string_tag = omega arith
constant_small t boolean_tag = omega arith

-- the last one
pub selector_last : (t : ℕ) → IsExpressionTag t → 0x16 ≤ t → (t ≡ 0x16 → ⊥) → (t ≡ 0x17 → ⊥) → (t ≡ 0x18 → ⊥) → t ≡ 0x19
selector_last t (constant_tag c) l n6 n7 n8 = absurd (omega (arith, constant_small t c))
selector_last t variable_tag l n6 n7 n8 = absurd (omega arith)
selector_last t top_variable_tag l n6 n7 n8 = absurd (omega arith)
selector_last t class_variable_tag l n6 n7 n8 = absurd (omega arith)
selector_last t operation_tag l n6 n7 n8 = absurd (n6 refl)
selector_last t negation_tag l n6 n7 n8 = absurd (n7 refl)
selector_last t attribute_read_tag l n6 n7 n8 = absurd (n8 refl)
selector_last t selector_tag l n6 n7 n8 = refl

module _ (m w out : List ℕ) (fill : ℕ) (scope : Scope) (d p : ℕ) where
  abbrev Said : Outcome Labelled → Type 0
  Said a = Tells m w out fill scope a (λ k c st. evaluate k c st (expression_at m d p))

  -- the same with a set joined, for e levels
  abbrev ToldAt : (s s' : List ℕ) → Evaluated → (e : ℕ) → Type 0
  ToldAt s s' a e = TellsJoined m w out fill scope s s' a (λ k c st. evaluate k c st (expression_at m e p))

  pub told_joined : {s s' : List ℕ} (a : Evaluated) {o : Outcome Labelled} → answered a (labels_in s') ≡ joining (labels_in s) o → Said o → ToldAt s s' a d
  told_joined {s} a joined said = record { says = λ k path es n r h. joined ∙ ap (joining (labels_in s)) (said.says k path es n r h) }

  -- no field has no level
  pub no_level : {s s' : List ℕ} {a : Evaluated} → d ≡ 0 → StandsAs m d ExpressionKind p → ToldAt s s' a d
  no_level z stands = absurd (omega (arith, level stands.stands))

  module _ {t : ℕ} (tag : t ≡ byte m p) where
    pub says_constant : t < 0x13 → StandsAs m d ExpressionKind p → Said (constant_in w (constant_at m p))
    unfolding evaluate come_to constant_in state_of constant_at ◌>>=◌ refuse_if
    says_constant l s =
        let tree = constant_opens (record { stands = s.stands; kind = constant_below (byte m p) (expression_tag (byte m p) s.kind) (omega (arith, tag)) }) in
        record { says = λ k path es n r h. ap (λ (b : Bool). refuse_if b Malformed p >>= λ _. done (of_constant (constant_at m p))) (sym (h.known.struck (constant_at m p))) ∙ sym (ap (evaluate k (context_in scope path) (state_of w es n r)) tree) }

    pub says_variable : {n : ℕ} {a : Outcome Labelled} → t ≡ 0x13 → n ≡ two m (p + 3) → a ≡ read_in p (cells_of w) n (upward 1026 (classes_of w) (base_for scope.base_is_node) (scope_of scope.number)) → StandsAs m d ExpressionKind p → Said a
    unfolding evaluate scopes_tried state_of
    says_variable is name e s = record {
      says = λ k path es n r h.
          e ∙ (λ i. read_in p (cells_of w) (name i) (upward 1026 (classes_of w) (base_for scope.base_is_node) (scope_of scope.number))) ∙ sym (ap (evaluate k (context_in scope path) (state_of w es n r)) (variable_opens s.stands (sym tag ∙ is)));
    }

    pub says_top : {n : ℕ} {a : Outcome Labelled} → t ≡ 0x14 → n ≡ two m (p + 3) → a ≡ read_in p (cells_of w) n (upward 1 (classes_of w) (base_for false) (scope_of 0)) → StandsAs m d ExpressionKind p → Said a
    unfolding evaluate state_of
    says_top {n} is name e s = record {
      says = λ k path es n' r h.
          e ∙ read_one p (cells_of w) n (classes_of w) (base_for false) (scope_of 0) ∙ (λ i. read_in p (cells_of w) (name i) (top_scope_lem i ∷ [])) ∙ sym (ap (evaluate k (context_in scope path) (state_of w es n' r)) (top_variable_opens s.stands (sym tag ∙ is)));
    }

    pub says_class : {q n : ℕ} {a : Outcome Labelled} → t ≡ 0x15 → q ≡ two m (p + 3) → n ≡ two m (p + 5) → ((k : Known) → KnownIn m w k → a ≡ class_read k p (cells_of w) q n) → StandsAs m d ExpressionKind p → Said a
    unfolding evaluate state_of class_read
    says_class is class name e s = record {
      says = λ k path es n r h.
          e k h.known ∙ (λ i. class_read k p (cells_of w) (class i) (name i)) ∙ sym (ap (evaluate k (context_in scope path) (state_of w es n r)) (class_variable_opens s.stands (sym tag ∙ is)));
    }

    one_more : (d ≡ 0 → ⊥) → d ≡ suc (d - 1)
    one_more some = omega arith

    module _ (some : d ≡ 0 → ⊥) {s s' : List ℕ} {a : Evaluated} where
      pub says_operation : t ≡ 0x16 → ((e : ℕ) → OperationAt m e (d - 1) p → ToldAt s s' a e) → StandsAs m d ExpressionKind p → ToldAt s s' a d
      says_operation is e stands = e d (operation_opens stands.stands (one_more some) (sym tag ∙ is))

      pub says_negation : t ≡ 0x17 → ((e : ℕ) → NegationAt m e (d - 1) p → ToldAt s s' a e) → StandsAs m d ExpressionKind p → ToldAt s s' a d
      says_negation is e stands = e d (negation_opens stands.stands (one_more some) (sym tag ∙ is))

      pub says_attribute : t ≡ 0x18 → ((e : ℕ) → AttributeReadAt m e (d - 1) p → ToldAt s s' a e) → StandsAs m d ExpressionKind p → ToldAt s s' a d
      says_attribute is e stands = e d (attribute_read_opens stands.stands (one_more some) (sym tag ∙ is))

      pub says_selector : 0x16 ≤ t → (t ≡ 0x16 → ⊥) → (t ≡ 0x17 → ⊥) → (t ≡ 0x18 → ⊥) → ((e : ℕ) → SelectorAt m e (d - 1) p → ToldAt s s' a e) → StandsAs m d ExpressionKind p → ToldAt s s' a d
      says_selector l n6 n7 n8 e stands =
          let is = selector_last t (subst IsExpressionTag (sym tag) (expression_tag (byte m p) stands.kind)) l n6 n7 n8 in
          e d (selector_opens stands.stands (one_more some) (sym tag ∙ is))
