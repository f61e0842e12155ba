-- Operators by their numbers; brackets and commas, where they are wanted.
use Prim.Native.Nat.{ℕ, ◌+◌, ◌≤◌, ◌<◌}
use mathlib.Core.Path.{◌≡◌, refl, sym, ◌∙◌, subst}
use mathlib.Core.Bool.{Bool, true, false}
use mathlib.Core.List.{List, [], ◌∷◌}
use native.Mathlib.Omega.{arith}
use lib.Dec.{eqb}
use borrow.Author.Tests.{ne_eqb}
use Rattle.rules.specs.Bytes.{byte, two}
use Rattle.rules.specs.Tree.{Operator, plus, minus, divide, greater, equal, and, or, Expression}
use Rattle.rules.specs.Read.{entry_for, operators, operator_from}
use Rattle.rules.specs.declared.Kind.TheVariants.{Expression as ExpressionKind}
use Rattle.rules.proofs.Within.{false_not_true}
use Rattle.places.specs.At.{expression_at, StandsAs}
use Rattle.places.proofs.Expressions.{variable_opens, top_variable_opens, class_variable_opens}
use Rattle.notation.specs.Tokens
use Rattle.notation.specs.Print.{at, the, operator_kind, level_of, separated, printed}
use Rattle.token_writer.specs.declared.Pen.{Pen}
use Rattle.statement_printer.specs.Passing.{Passes}
use Rattle.statement_printer.specs.Brackets.{bracket}

-- ---- Operators

-- an entry with another number is passed over
other_entry : {A : Type 0} (k n : ℕ) (x : A) (xs : List (ℕ × A)) (d : A) → (n ≡ k → ⊥) → entry_for ((k, x) ∷ xs) d n ≡ entry_for xs d n
unfolding entry_for
other_entry {A} k n x xs d h = go (eqb n k) (ne_eqb n k h)
  where
    go : (b : Bool) → b ≡ false → elim b [ true ↦ x | false ↦ entry_for xs d n ] ≡ entry_for xs d n
    go false e = refl
    go true e = absurd (false_not_true (sym e))

-- the last entry is what stands for all others
last_entry : {A : Type 0} (k n : ℕ) (x : A) → entry_for ((k, x) ∷ []) x n ≡ x
unfolding entry_for
last_entry {A} k n x = go (eqb n k)
  where
    go : (b : Bool) → elim b [ true ↦ x | false ↦ x ] ≡ x
    go true = refl
    go false = refl

-- each number from 6 on stands for "or"
pub last_operator : (n : ℕ) → (n ≡ 0 → ⊥) → (n ≡ 1 → ⊥) → (n ≡ 2 → ⊥) → (n ≡ 3 → ⊥) → (n ≡ 4 → ⊥) → (n ≡ 5 → ⊥) → operator_from n ≡ or
unfolding operator_from operators
last_operator n a b c d e f =
    other_entry 0 n plus ((1, minus) ∷ (2, divide) ∷ (3, greater) ∷ (4, equal) ∷ (5, and) ∷ (6, or) ∷ []) or a ∙ other_entry 1 n minus ((2, divide) ∷ (3, greater) ∷ (4, equal) ∷ (5, and) ∷ (6, or) ∷ []) or b ∙ other_entry 2 n divide ((3, greater) ∷ (4, equal) ∷ (5, and) ∷ (6, or) ∷ []) or c ∙ other_entry 3 n greater ((4, equal) ∷ (5, and) ∷ (6, or) ∷ []) or d ∙ other_entry 4 n equal ((5, and) ∷ (6, or) ∷ []) or e ∙ other_entry 5 n and ((6, or) ∷ []) or f ∙ last_entry 6 n or

-- their signs and keywords
pub kind_range : (n : ℕ) {k : ℕ} → k ≡ operator_kind (operator_from n) → (7 ≤ k) × (k ≤ 36)
unfolding operator_kind
kind_range n {k} e = go (operator_from n) e
  where
    go : (o : Operator) → k ≡ operator_kind o → (7 ≤ k) × (k ≤ 36)
    go plus e = (omega arith, omega arith)
    go minus e = (omega arith, omega arith)
    go divide e = (omega arith, omega arith)
    go greater e = (omega arith, omega arith)
    go equal e = (omega arith, omega arith)
    go and e = (omega arith, omega arith)
    go or e = (omega arith, omega arith)

-- the level above that of an operator is a byte
pub level_small : (n : ℕ) {l : ℕ} → l ≡ level_of (operator_from n) → l + 1 < 256
unfolding level_of
level_small n {l} e = go (operator_from n) e
  where
    go : (o : Operator) → l ≡ level_of o → l + 1 < 256
    go plus e = omega arith
    go minus e = omega arith
    go divide e = omega arith
    go greater e = omega arith
    go equal e = omega arith
    go and e = omega arith
    go or e = omega arith

-- ---- Brackets and commas

module _ {a : List ℕ} {pen : Pen} where
  pub no_bracket : (k : ℕ) (tight : Bool) → tight ≡ true → Passes a a pen pen (bracket k tight pen.line)
  unfolding bracket
  no_bracket k true e = record { goes = λ o w r g. g }
  no_bracket k false e = absurd (false_not_true e)

  pub no_comma : (later : Bool) → later ≡ false → Passes a a pen pen (λ rest. separated later pen.line (rest pen.line))
  no_comma false e = record { goes = λ o w r g. g }
  no_comma true e = absurd (false_not_true (sym e))

  module _ {b : List ℕ} {pen' : Pen} where
    pub one_bracket : (k : ℕ) (tight : Bool) → tight ≡ false → Passes a b pen pen' (λ rest. the pen.line k ∷ rest pen.line) → Passes a b pen pen' (bracket k tight pen.line)
    unfolding bracket
    one_bracket k false e h = record { goes = λ o w r g. h.goes o w r g }
    one_bracket k true e h = absurd (false_not_true (sym e))

    pub one_comma : (later : Bool) → later ≡ true → Passes a b pen pen' (λ rest. the pen.line 14 ∷ rest pen.line) → Passes a b pen pen' (λ rest. separated later pen.line (rest pen.line))
    one_comma true e h = h
    one_comma false e h = absurd (false_not_true e)

-- ---- Variables

module _ (S : ℕ → List ℕ) {a b : List ℕ} {pen pen' : Pen} where
  -- an expression that is known by another name
  pub passes_as : (l v : ℕ) {x y : Expression} → y ≡ x → Passes a b pen pen' (printed S x l v) → Passes a b pen pen' (printed S y l v)
  passes_as l v e h = subst (λ (z : Expression). Passes a b pen pen' (printed S z l v)) (sym e) h

  module _ (m : List ℕ) (d l p : ℕ) {t n : ℕ} (tag : t ≡ byte m p) (s : StandsAs m d ExpressionKind p) where
    pub variable_passes : t ≡ 0x13 → n ≡ two m (p + 3) → Passes a b pen pen' (λ rest. at pen.line (Tokens.variable (S n)) ∷ rest pen.line) → Passes a b pen pen' (printed S (expression_at m d p) l pen.line)
    unfolding printed
    variable_passes is e h =
        passes_as l pen.line (variable_opens s.stands (sym tag ∙ is))
        (subst (λ (k : ℕ). Passes a b pen pen' (λ rest. at pen.line (Tokens.variable (S k)) ∷ rest pen.line)) e h)

    pub top_variable_passes : t ≡ 0x14 → n ≡ two m (p + 3) → Passes a b pen pen' (λ rest. at pen.line (Tokens.top_variable (S n)) ∷ rest pen.line) → Passes a b pen pen' (printed S (expression_at m d p) l pen.line)
    unfolding printed
    top_variable_passes is e h =
        passes_as l pen.line (top_variable_opens s.stands (sym tag ∙ is))
        (subst (λ (k : ℕ). Passes a b pen pen' (λ rest. at pen.line (Tokens.top_variable (S k)) ∷ rest pen.line)) e h)

    pub class_variable_passes : {k : ℕ} → t ≡ 0x15 → n ≡ two m (p + 3) → k ≡ two m (p + 5) → Passes a b pen pen' (λ rest. at pen.line (Tokens.class_variable (S n) (S k)) ∷ rest pen.line) → Passes a b pen pen' (printed S (expression_at m d p) l pen.line)
    unfolding printed
    class_variable_passes {k} is e f h =
        passes_as l pen.line (class_variable_opens s.stands (sym tag ∙ is))
        (subst (λ (j : ℕ). Passes a b pen pen' (λ rest. at pen.line (Tokens.class_variable (S (two m (p + 3))) (S j)) ∷ rest pen.line)) f
        (subst (λ (j : ℕ). Passes a b pen pen' (λ rest. at pen.line (Tokens.class_variable (S j) (S k)) ∷ rest pen.line)) e h))
