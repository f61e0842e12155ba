-- The tags that fields of each sort may have, for who goes on by the tag.
use Prim.Native.Nat.{ℕ, zero, suc, ◌+◌, ◌-◌, ◌<◌}
use mathlib.Core.Path.{◌≡◌, refl, subst}
use mathlib.Core.Bool.{Bool, true, false, ◌&&◌, ◌||◌}
use native.Mathlib.Omega.{arith}
use lib.Dec.{eqb, leb}
use borrow.Author.Tests.{leb-true, eqb-true}
use Rattle.rules.specs.Format.{allowed}
use Rattle.rules.specs.Read.{entry_for, a_statement, item_tags}
use Rattle.rules.specs.declared.Kind.TheVariants.{Constant, Expression, Statement, Item}
use Rattle.rules.proofs.Listed.{both_left, both_right}

-- what holds of the n numbers from a on holds of each t among them
in_range_lem : (P : ℕ → Type 0) (a n b t : ℕ) → b < a + n → ((i : ℕ) → i < n → P (a + i)) → (leb a t && leb t b) ≡ true → P t
in_range_lem P a n b t l f e =
    let low = leb-true a t (both_left (leb a t) (leb t b) e) in
    let high = leb-true t b (both_right (leb a t) (leb t b) e) in
    let sum : a + (t - a) ≡ t = omega arith in
    subst P sum (f (t - a) (omega arith))

is_tag : (P : ℕ → Type 0) (t u : ℕ) → P u → eqb t u ≡ true → P t
is_tag P t u x e = rw (eqb-true t u e) x

-- one of two tests holds
either : {A : Type 0} (a b : Bool) → (a ≡ true → A) → (b ≡ true → A) → (a || b) ≡ true → A
either true b f g e = f refl
either false b f g e = g e

-- ---- Constants

pub data IsConstantTag : ℕ → Type 0 where
  integer_tag : IsConstantTag 0x10
  string_tag : IsConstantTag 0x11
  boolean_tag : IsConstantTag 0x12

pub constant_tag_lem : (t : ℕ) → allowed Constant t ≡ true → IsConstantTag t
unfolding allowed
constant_tag_lem t e = in_range_lem IsConstantTag 0x10 3 0x12 t (omega arith) go e
  where
    go : (i : ℕ) → i < 3 → IsConstantTag (0x10 + i)
    go zero l = integer_tag
    go (suc zero) l = string_tag
    go (suc (suc zero)) l = boolean_tag
    go (suc (suc (suc i))) l = absurd (omega arith)

pub constant_kind : {t : ℕ} → IsConstantTag t → allowed Constant t ≡ true
unfolding allowed
constant_kind integer_tag = refl
constant_kind string_tag = refl
constant_kind boolean_tag = refl

-- ---- Expressions

pub data IsExpressionTag : ℕ → Type 0 where
  constant_tag : {t : ℕ} → IsConstantTag t → IsExpressionTag t
  variable_tag : IsExpressionTag 0x13
  top_variable_tag : IsExpressionTag 0x14
  class_variable_tag : IsExpressionTag 0x15
  operation_tag : IsExpressionTag 0x16
  negation_tag : IsExpressionTag 0x17
  attribute_read_tag : IsExpressionTag 0x18
  selector_tag : IsExpressionTag 0x19

pub expression_tag : (t : ℕ) → allowed Expression t ≡ true → IsExpressionTag t
unfolding allowed
expression_tag t e = in_range_lem IsExpressionTag 0x10 10 0x19 t (omega arith) go e
  where
    go : (i : ℕ) → i < 10 → IsExpressionTag (0x10 + i)
    go zero l = constant_tag integer_tag
    go (suc zero) l = constant_tag string_tag
    go (suc (suc zero)) l = constant_tag boolean_tag
    go (suc (suc (suc zero))) l = variable_tag
    go (suc (suc (suc (suc zero)))) l = top_variable_tag
    go (suc (suc (suc (suc (suc zero))))) l = class_variable_tag
    go (suc (suc (suc (suc (suc (suc zero)))))) l = operation_tag
    go (suc (suc (suc (suc (suc (suc (suc zero))))))) l = negation_tag
    go (suc (suc (suc (suc (suc (suc (suc (suc zero)))))))) l = attribute_read_tag
    go (suc (suc (suc (suc (suc (suc (suc (suc (suc zero))))))))) l = selector_tag
    go (suc (suc (suc (suc (suc (suc (suc (suc (suc (suc i)))))))))) l = absurd (omega arith)

-- ---- Statements

pub data IsStatementTag : ℕ → Type 0 where
  assignment_tag : IsStatementTag 0x21
  conditional_tag : IsStatementTag 0x22
  choice_tag : IsStatementTag 0x23
  resource_tag : IsStatementTag 0x25
  defined_tag : IsStatementTag 0x27
  class_tag : IsStatementTag 0x28
  include_tag : IsStatementTag 0x29

pub statement_tag_lem : (t : ℕ) → allowed Statement t ≡ true → IsStatementTag t
unfolding allowed
statement_tag_lem t e = either (leb 0x21 t && leb t 0x23) (eqb t 0x25 || (leb 0x27 t && leb t 0x29)) (in_range_lem IsStatementTag 0x21 3 0x23 t (omega arith) low) (either (eqb t 0x25) (leb 0x27 t && leb t 0x29) (is_tag IsStatementTag t 0x25 resource_tag) (in_range_lem IsStatementTag 0x27 3 0x29 t (omega arith) high)) e
  where
    low : (i : ℕ) → i < 3 → IsStatementTag (0x21 + i)
    low zero l = assignment_tag
    low (suc zero) l = conditional_tag
    low (suc (suc zero)) l = choice_tag
    low (suc (suc (suc i))) l = absurd (omega arith)

    high : (i : ℕ) → i < 3 → IsStatementTag (0x27 + i)
    high zero l = defined_tag
    high (suc zero) l = class_tag
    high (suc (suc zero)) l = include_tag
    high (suc (suc (suc i))) l = absurd (omega arith)

-- the reader of items takes each of them for a statement
pub statement_entry : {t : ℕ} → IsStatementTag t → entry_for item_tags a_statement t ≡ a_statement
unfolding entry_for item_tags
statement_entry assignment_tag = refl
statement_entry conditional_tag = refl
statement_entry choice_tag = refl
statement_entry resource_tag = refl
statement_entry defined_tag = refl
statement_entry class_tag = refl
statement_entry include_tag = refl

-- ---- Items

pub data IsItemTag : ℕ → Type 0 where
  node_tag : IsItemTag 0x30
  type_definition_tag : IsItemTag 0x32
  class_definition_tag : IsItemTag 0x34
  statement_tag : {t : ℕ} → allowed Statement t ≡ true → IsItemTag t

pub item_tag : (t : ℕ) → allowed Item t ≡ true → IsItemTag t
unfolding allowed
item_tag t e = either (eqb t 0x30) (eqb t 0x32 || (eqb t 0x34 || allowed Statement t)) (is_tag IsItemTag t 0x30 node_tag) (either (eqb t 0x32) (eqb t 0x34 || allowed Statement t) (is_tag IsItemTag t 0x32 type_definition_tag) (either (eqb t 0x34) (allowed Statement t) (is_tag IsItemTag t 0x34 class_definition_tag) statement_tag)) e
