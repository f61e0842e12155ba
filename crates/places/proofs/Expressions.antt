-- The expression at a place where one stands soundly, by its tag, and its parts at their places: one opening law for each tag. The expression at p
-- has d levels left, and its parts have b: d ≡ suc b (`level` of Open gives it with b = d - 1).
use Prim.Native.Nat.{ℕ, zero, suc, ◌+◌, ◌-◌}
use mathlib.Core.Path.{◌≡◌, refl, sym, ap, ap₂, ◌∙◌}
use mathlib.Core.Bool.{Bool, true, false}
use mathlib.Core.List.{List}
use native.Mathlib.Omega.{arith}
use lib.Dec.{eqb, leb}
use borrow.Author.Tests.{leb-true, eqb-true}
use Rattle.values.specs.declared.Value.TheVariants.{Integer, String, Boolean}
use Rattle.wire.specs.Bytes.{pick, byte, two, end_of, fields_in}
use Rattle.wire.specs.Numbers.{number, signed64}
use Rattle.wire.specs.Runs.{bytes_at}
use Rattle.rules.specs.Format.{allowed, forms, form_in, form_of, size, head_size, three, piece_right, bytes_right}
use Rattle.rules.specs.Fields.{Field, field, Fields, none, read_each, read_body, read_field, inner, first, others}
use Rattle.rules.specs.Tree.{Constant, Expression, constant, variable, top_variable, class_variable, operation, negation, attribute_read, selector, Arms, arm, default_arm, place_of}
use Rattle.rules.specs.Read.{entry_for, value_from, constant_from, operator_from, is_default, ExpressionTag, a_constant, a_variable, a_top_variable, a_class_variable, an_operation, a_negation, an_attribute_read, a_selector, no_expression, expression_tags, arm_from, arms_from, expression_by, expression_in}
use Rattle.rules.specs.declared.Kind.{Kind}
use Rattle.rules.specs.declared.Kind.TheVariants.{Constant as ConstantKind, Expression as ExpressionKind, Pattern, Arm}
use Rattle.rules.specs.declared.Part.TheVariants.{Over, One}
use Rattle.rules.specs.declared.Rest.{Rest}
use Rattle.rules.specs.declared.Rest.TheVariants.{Only, Text, Fields as Inner}
use Rattle.rules.proofs.Listed.{both_left}
use Rattle.places.specs.At.{value_at, constant_at, expression_at, arm_at, arms_at, Stands, StandsAs, Siblings, sibling}
pub use Rattle.places.specs.Parts.{OperationAt, NegationAt, AttributeReadAt, SelectorAt}
use Rattle.places.proofs.Tags.{IsConstantTag, integer_tag, string_tag, boolean_tag, constant_tag_lem}
use Rattle.places.proofs.Levels.{expression_stable}
use Rattle.places.proofs.Parts.{one_part, many_part, last_many, all_over}
use Rattle.places.proofs.Open.{run_byte, run_two, level, tag_read, Line, opened, OpenedLeaf, opened_leaf, one_read, all_read}

-- ---- Constants

-- a constant by its tag
pub integer_at : (m : List ℕ) (p : ℕ) → byte m p ≡ 0x10 → constant_at m p ≡ record { place = p; label = byte m (p + 3); value = Integer (signed64 (number (bytes_at m (p + 4) 8) 0)) }
unfolding constant_at value_at
integer_at m p e = λ i. record { place = p; label = byte m (p + 3); value = value_at m p (e i) }

pub string_at_lem : (m : List ℕ) (p : ℕ) → byte m p ≡ 0x11 → constant_at m p ≡ record { place = p; label = byte m (p + 3); value = String (two m (p + 4)) }
unfolding constant_at value_at
string_at_lem m p e = λ i. record { place = p; label = byte m (p + 3); value = value_at m p (e i) }

pub boolean_at : (m : List ℕ) (p : ℕ) → byte m p ≡ 0x12 → constant_at m p ≡ record { place = p; label = byte m (p + 3); value = Boolean (eqb (byte m (p + 4)) 1) }
unfolding constant_at value_at
boolean_at m p e = λ i. record { place = p; label = byte m (p + 3); value = value_at m p (e i) }

-- the constant read at p is the one there
pub constant_read : {m : List ℕ} {d p : ℕ} → StandsAs m d ConstantKind p → constant_from (read_field m d p) ≡ constant_at m p
unfolding form_of form_in forms head_size size constant_from value_from bytes_at
constant_read {m} {d} {p} s = by_tag (byte m p) (constant_tag_lem (byte m p) s.kind) refl
  where
    by_tag : (t : ℕ) → IsConstantTag t → byte m p ≡ t → constant_from (read_field m d p) ≡ constant_at m p
    by_tag t integer_tag e =
        let o = opened_leaf {h = 9} s.stands e (record { head = refl; rest = refl }) in
        let next : suc (p + 3) ≡ p + 4 = omega arith in
        ap constant_from o.read ∙ (λ i. record { place = p; label = byte m (p + 3); value = Integer (signed64 (number (bytes_at m (next i) 8) 0)) }) ∙ sym (integer_at m p e)
    by_tag t string_tag e =
        let o = opened_leaf {h = 3} s.stands e (record { head = refl; rest = refl }) in
        ap constant_from o.read ∙ (λ i. record { place = p; label = byte m (p + 3); value = String (run_two m (p + 3) 3 1 (p + 4) (omega arith) (omega arith) i) }) ∙ sym (string_at_lem m p e)
    by_tag t boolean_tag e =
        let o = opened_leaf {h = 2} s.stands e (record { head = refl; rest = refl }) in
        ap constant_from o.read ∙ (λ i. record { place = p; label = byte m (p + 3); value = Boolean (eqb (run_byte m (p + 3) 2 1 (p + 4) (omega arith) (omega arith) i) 1) }) ∙ sym (boolean_at m p e)

-- ---- Places

-- a field that has the place p
pub data Placed (p : ℕ) : Field → Type 0 where
  placed : {t : ℕ} {h : List ℕ} {ks : Fields} → Placed p (field p t h ks)

-- what is read at p has that place
pub placed_read : (m : List ℕ) (d p : ℕ) → Placed p (read_field m d p)
unfolding read_field read_body
placed_read m zero p = placed
placed_read m (suc d) p = go (head_size (form_of (byte m p))) (form_of (byte m p)).rest
  where
    go : (h : ℕ) (r : Rest) → Placed p (read_body m (read_field m d) p h r)
    go h Only = placed
    go h Text = placed
    go h (Inner ps) = placed

placed_expression : (p d : ℕ) {k : Field} → Placed p k → place_of (expression_in d k) ≡ p
unfolding expression_in expression_by place_of constant_from
placed_expression p zero placed = refl
placed_expression p (suc d) (placed {t = t} {h = h} {ks = ks}) = go (entry_for expression_tags no_expression t)
  where
    go : (x : ExpressionTag) → place_of (expression_by (expression_in d) (field p t h ks) p h ks x) ≡ p
    go a_constant = refl
    go a_variable = refl
    go a_top_variable = refl
    go a_class_variable = refl
    go an_operation = refl
    go a_negation = refl
    go an_attribute_read = refl
    go a_selector = refl
    go no_expression = refl

-- the expression at p has the place p
pub expression_place : (m : List ℕ) (d p : ℕ) → place_of (expression_at m d p) ≡ p
unfolding expression_at
expression_place m d p = placed_expression p d (placed_read m d p)

-- ---- Expressions without parts

-- the expression read at p, opened once
expression_read : (m : List ℕ) (d b p t : ℕ) (h : List ℕ) (ks : Fields) → d ≡ suc b → read_field m d p ≡ field p t h ks → expression_at m d p ≡ expression_by (expression_in b) (field p t h ks) p h ks (entry_for expression_tags no_expression t)
unfolding expression_at expression_in
expression_read m d b p t h ks l r = ap₂ expression_in l r

pub constant_opens : {m : List ℕ} {d p : ℕ} → StandsAs m d ConstantKind p → expression_at m d p ≡ constant (constant_at m p)
unfolding form_of form_in forms head_size size expression_by entry_for expression_tags
constant_opens {m} {d} {p} s = by_tag (byte m p) (constant_tag_lem (byte m p) s.kind) refl
  where
    finish : (t h : ℕ) → entry_for expression_tags no_expression t ≡ a_constant → OpenedLeaf m d p t h → expression_at m d p ≡ constant (constant_at m p)
    finish t h e o =
        expression_read m d (d - 1) p t (bytes_at m (p + 3) h) none (level s.stands) o.read
        ∙ ap (expression_by (expression_in (d - 1)) (field p t (bytes_at m (p + 3) h) none) p (bytes_at m (p + 3) h) none) e
        ∙ ap (λ (k : Field). constant (constant_from k)) (sym o.read)
        ∙ ap constant (constant_read s)

    by_tag : (t : ℕ) → IsConstantTag t → byte m p ≡ t → expression_at m d p ≡ constant (constant_at m p)
    by_tag t integer_tag e = finish 0x10 9 refl (opened_leaf s.stands e (record { head = refl; rest = refl }))
    by_tag t string_tag e = finish 0x11 3 refl (opened_leaf s.stands e (record { head = refl; rest = refl }))
    by_tag t boolean_tag e = finish 0x12 2 refl (opened_leaf s.stands e (record { head = refl; rest = refl }))

pub variable_opens : {m : List ℕ} {d p : ℕ} → Stands m d p → byte m p ≡ 0x13 → expression_at m d p ≡ variable p (two m (p + 3))
unfolding form_of form_in forms head_size size expression_by entry_for expression_tags
variable_opens {m} {d} {p} s e =
    let o = opened_leaf {h = 2} s e (record { head = refl; rest = refl }) in
    expression_read m d (d - 1) p 0x13 (bytes_at m (p + 3) 2) none (level s) o.read ∙ ap (variable p) (run_two m (p + 3) 2 0 (p + 3) (omega arith) (omega arith))

pub top_variable_opens : {m : List ℕ} {d p : ℕ} → Stands m d p → byte m p ≡ 0x14 → expression_at m d p ≡ top_variable p (two m (p + 3))
unfolding form_of form_in forms head_size size expression_by entry_for expression_tags
top_variable_opens {m} {d} {p} s e =
    let o = opened_leaf {h = 2} s e (record { head = refl; rest = refl }) in
    expression_read m d (d - 1) p 0x14 (bytes_at m (p + 3) 2) none (level s) o.read ∙ ap (top_variable p) (run_two m (p + 3) 2 0 (p + 3) (omega arith) (omega arith))

pub class_variable_opens : {m : List ℕ} {d p : ℕ} → Stands m d p → byte m p ≡ 0x15 → expression_at m d p ≡ class_variable p (two m (p + 3)) (two m (p + 5))
unfolding form_of form_in forms head_size size expression_by entry_for expression_tags
class_variable_opens {m} {d} {p} s e =
    let o = opened_leaf {h = 4} s e (record { head = refl; rest = refl }) in
    expression_read m d (d - 1) p 0x15 (bytes_at m (p + 3) 4) none (level s) o.read ∙ ap₂ (class_variable p) (run_two m (p + 3) 4 0 (p + 3) (omega arith) (omega arith)) (run_two m (p + 3) 4 2 (p + 5) (omega arith) (omega arith))

-- ---- Expressions with parts

pub operation_opens : {m : List ℕ} {d b p : ℕ} → Stands m d p → d ≡ suc b → byte m p ≡ 0x16 → OperationAt m d b p
unfolding form_of form_in forms head_size size bytes_right piece_right expression_by entry_for expression_tags expression_at
operation_opens {m} {d} {b} {p} s l e =
    let o = opened {h = 1} {q = p + 4} s l e (record { head = refl; rest = refl }) (omega arith) in
    let x = one_read o.parts in
    let y = one_read x.after in
    let right = ap first x.read_after ∙ y.read in
    record {
      tree = expression_read m d b p 0x16 _ _ l o.read ∙ λ i. operation p (operator_from (run_byte m (p + 3) 1 0 (p + 3) (omega arith) (omega arith) i)) (expression_in b (x.read i)) (expression_in b (right i));
      operator = leb-true _ _ (both_left (leb (byte m (p + 3)) 6) true o.bytes);
      left = x.part;
      right = y.part;
      ends = all_over y.after;
    }

pub negation_opens : {m : List ℕ} {d b p : ℕ} → Stands m d p → d ≡ suc b → byte m p ≡ 0x17 → NegationAt m d b p
unfolding form_of form_in forms head_size size expression_by entry_for expression_tags expression_at
negation_opens {m} {d} {b} {p} s l e =
    let o = opened {h = 0} {q = p + 3} s l e (record { head = refl; rest = refl }) (omega arith) in
    let x = one_read o.parts in
    record { tree = expression_read m d b p 0x17 _ _ l o.read ∙ ap (λ (k : Field). negation p (expression_in b k)) x.read; operand = x.part; ends = all_over x.after }

pub attribute_read_opens : {m : List ℕ} {d b p : ℕ} → Stands m d p → d ≡ suc b → byte m p ≡ 0x18 → AttributeReadAt m d b p
unfolding form_of form_in forms head_size size expression_by entry_for expression_tags expression_at
attribute_read_opens {m} {d} {b} {p} s l e =
    let o = opened {h = 4} {q = p + 7} s l e (record { head = refl; rest = refl }) (omega arith) in
    let x = one_read o.parts in
    let type = run_two m (p + 3) 4 0 (p + 3) (omega arith) (omega arith) in
    let name = run_two m (p + 3) 4 2 (p + 5) (omega arith) (omega arith) in
    record { tree = expression_read m d b p 0x18 _ _ l o.read ∙ λ i. attribute_read p (type i) (name i) (expression_in b (x.read i)); title = x.part; ends = all_over x.after }

-- ---- Patterns, and what they choose

-- a pattern that is no default is a constant
pub pattern_constant : {m : List ℕ} {d q : ℕ} → StandsAs m d Pattern q → eqb (byte m q) 0x1b ≡ false → StandsAs m d ConstantKind q
unfolding allowed
pattern_constant s e = record { stands = s.stands; kind = rw e at s.kind }

-- a 1A or 24: a pattern, then a field of the kind k; and what is read of it
pub record CaseAt (m : List ℕ) (d b : ℕ) (k : Kind) (q : ℕ) : Type 0 where
  pub pattern : StandsAs m b Pattern (q + 3)
  pub body : StandsAs m b k (end_of m (q + 3))
  pub ends : end_of m (end_of m (q + 3)) ≡ end_of m q
  pub default : is_default (first (inner (read_field m d q))) ≡ eqb (byte m (q + 3)) 0x1b
  pub constant : eqb (byte m (q + 3)) 0x1b ≡ false → constant_from (first (inner (read_field m d q))) ≡ constant_at m (q + 3)
  pub chosen : first (others (inner (read_field m d q))) ≡ read_field m b (end_of m (q + 3))

pub case_opens : {m : List ℕ} {d b q t : ℕ} {k : Kind} → Stands m d q → d ≡ suc b → byte m q ≡ t → Line t 0 (three (One Pattern) (One k) Over) → CaseAt m d b k q
unfolding inner is_default
case_opens {m} {d} {b} {q} s l e i =
    let o = opened {q = q + 3} s l e i (omega arith) in
    let x = one_read o.parts in
    let y = one_read x.after in
    let first_one = ap (λ (k : Field). first (inner k)) o.read ∙ x.read in
    record {
      pattern = x.part;
      body = y.part;
      ends = all_over y.after;
      default = ap is_default first_one ∙ ap (λ (u : ℕ). eqb u 0x1b) (tag_read x.part.stands);
      constant = λ n. ap constant_from first_one ∙ constant_read (pattern_constant x.part n);
      chosen = ap (λ (k : Field). first (others (inner k))) o.read ∙ ap first x.read_after ∙ y.read;
    }

-- ---- Selectors

pub record ArmAt (m : List ℕ) (d b q : ℕ) : Type 0 where
  pub tree : (after : Arms) → arm_at m d q after ≡ pick (eqb (byte m (q + 3)) 0x1b) (default_arm (expression_at m b (end_of m (q + 3))) after) (arm (constant_at m (q + 3)) (expression_at m b (end_of m (q + 3))) after)
  pub pattern : StandsAs m b Pattern (q + 3)
  pub expression : StandsAs m b ExpressionKind (end_of m (q + 3))
  pub ends : end_of m (end_of m (q + 3)) ≡ end_of m q

arm_case : {m : List ℕ} {d b q : ℕ} → StandsAs m d Arm q → d ≡ suc b → CaseAt m d b ExpressionKind q
unfolding allowed form_of form_in forms head_size size
arm_case {m} {q = q} s l = case_opens s.stands l (eqb-true (byte m q) 0x1a s.kind) (record { head = refl; rest = refl })

pub arm_opens : {m : List ℕ} {d b q : ℕ} → StandsAs m d Arm q → d ≡ suc b → ArmAt m d b q
unfolding arm_at
arm_opens {m} {d} {b} {q} s l =
    let c = arm_case s l in
    let below : d - 1 ≡ b = omega arith in
    record {
      tree = λ after. ap (λ (n : ℕ). pick (eqb (byte m (q + 3)) 0x1b) (default_arm (expression_at m n (end_of m (q + 3))) after) (arm (constant_at m (q + 3)) (expression_at m n (end_of m (q + 3))) after)) below;
      pattern = c.pattern;
      expression = c.body;
      ends = c.ends;
    }

-- the arm read at q is the one there
arm_read : {m : List ℕ} {d q : ℕ} → StandsAs m d Arm q → (after : Arms) → arm_from (expression_in d) (is_default (first (inner (read_field m d q)))) (inner (read_field m d q)) after ≡ arm_at m d q after
unfolding arm_from arm_at expression_at
arm_read {m} {d} {q} s after = ap (λ (x : Bool). arm_from (expression_in d) x ks after) c.default ∙ go (eqb (byte m (q + 3)) 0x1b) refl
  where
    ks : Fields
    ks = inner (read_field m d q)

    c : CaseAt m d (d - 1) ExpressionKind q
    c = arm_case s (level s.stands)

    chosen : expression_in d (first (others ks)) ≡ expression_in (d - 1) (read_field m (d - 1) (end_of m (q + 3)))
    chosen = ap (expression_in d) c.chosen ∙ expression_stable m (d - 1) d (end_of m (q + 3)) (omega arith)

    go : (x : Bool) → eqb (byte m (q + 3)) 0x1b ≡ x → arm_from (expression_in d) x ks after ≡ pick x (default_arm (expression_at m (d - 1) (end_of m (q + 3))) after) (arm (constant_at m (q + 3)) (expression_at m (d - 1) (end_of m (q + 3))) after)
    go true h = ap (λ (x : Expression). default_arm x after) chosen
    go false h = ap₂ (λ (v : Constant) (x : Expression). arm v x after) (c.constant h) chosen

arms_read : {m : List ℕ} {d q e : ℕ} → Siblings m d Arm q e → arms_from (expression_in d) (read_each (read_field m d) (fields_in m q e)) ≡ arms_at m d (fields_in m q e)
unfolding arms_from arms_at
arms_read {m} {d} s = all_read (arms_from (expression_in d)) (arms_at m d) s refl (λ p i ks ps h. arm_read i (arms_from (expression_in d) ks) ∙ ap (arm_at m d p) h)

pub selector_opens : {m : List ℕ} {d b p : ℕ} → Stands m d p → d ≡ suc b → byte m p ≡ 0x19 → SelectorAt m d b p
unfolding form_of form_in forms head_size size expression_by entry_for expression_tags expression_at
selector_opens {m} {d} {b} {p} s l e =
    let o = opened {h = 0} {q = p + 3} s l e (record { head = refl; rest = refl }) (omega arith) in
    let x = one_read o.parts in
    let y = one_part x.after in
    let arms : Siblings m b Arm (end_of m (p + 3)) (end_of m p) = sibling y.before y.part (last_many (many_part y.after)) in
    let read = ap (arms_from (expression_in b)) x.read_after ∙ arms_read arms in
    record { tree = expression_read m d b p 0x19 _ _ l o.read ∙ λ i. selector p (expression_in b (x.read i)) (read i); scrutinee = x.part; arms = arms; some = y.before }
