-- The line on which an expression begins, by the fields in reading order.
use Prim.Native.Nat.{ℕ, zero, suc, ◌+◌, ◌≤◌, ◌<◌}
use mathlib.Core.Path.{◌≡◌, refl, sym, ap, ◌∙◌, subst}
use mathlib.Core.Bool.{Bool, true, false}
use mathlib.Core.List.{List, [], ◌∷◌, ◌++◌}
use native.Mathlib.Omega.{arith}
use lib.Dec.{eqb}
use borrow.Author.Tests.{eqb-true}
use Rattle.wire.proofs.Fields.{no_fields, field_first}
use Rattle.rules.specs.Bytes.{pick, byte, two, end_of, fields_in}
use Rattle.rules.specs.Format.{allowed, forms, form_in, form_of, size, head_size, is_constant}
use Rattle.rules.specs.Check.{stride, next_in_order}
use Rattle.rules.specs.Tree.{Constant, Expression, Arms, arm, default_arm}
use Rattle.rules.specs.declared.Kind.{Kind}
use Rattle.rules.specs.declared.Kind.TheVariants.{Constant as ConstantKind, Expression as ExpressionKind, Arm}
use Rattle.places.specs.At.{constant_at, expression_at, arm_at, arms_at, StandsAs, Siblings, ended, sibling}
use Rattle.places.proofs.Tags.{constant_kind, IsExpressionTag, constant_tag, variable_tag, top_variable_tag, class_variable_tag, operation_tag, negation_tag, attribute_read_tag, selector_tag, expression_tag}
use Rattle.places.proofs.Open.{level}
use Rattle.places.proofs.Expressions.{constant_opens, variable_opens, top_variable_opens, class_variable_opens, operation_opens, negation_opens, attribute_read_opens, selector_opens, ArmAt, arm_opens, pattern_constant}
use Rattle.syntax.proofs.Reading.{no_places, place_first}
use Rattle.notation.specs.Print.{constants_of, constants_of_arms, line_for}
use Rattle.statement_printer.specs.Labels.{label_among, first_label}

-- ---- The walk

module _ (m : List ℕ) (e v : ℕ) where
  label_step : (q : ℕ) → q < e → first_label m q e v ≡ pick (is_constant (byte m q)) (byte m (q + 3)) (first_label m (next_in_order m q) e v)
  unfolding first_label label_among
  label_step q l = rw (place_first m q e l)

  pub label_end : (q : ℕ) → e ≤ q → first_label m q e v ≡ v
  unfolding first_label label_among
  label_end q l = rw (no_places m q e l)

  -- a constant
  pub label_here : (q : ℕ) → q < e → is_constant (byte m q) ≡ true → first_label m q e v ≡ byte m (q + 3)
  label_here q l c = label_step q l ∙ ap (λ (b : Bool). pick b (byte m (q + 3)) (first_label m (next_in_order m q) e v)) c

  -- another field
  pub label_later : (q : ℕ) → q < e → is_constant (byte m q) ≡ false → first_label m q e v ≡ first_label m (next_in_order m q) e v
  label_later q l c = label_step q l ∙ ap (λ (b : Bool). pick b (byte m (q + 3)) (first_label m (next_in_order m q) e v)) c

-- one law for each way through the walk
module _ (m : List ℕ) (e v q : ℕ) {t : ℕ} {b : Bool} (l : q < e) (tag : t ≡ byte m q) (test : b ≡ is_constant t) where
  pub walk_finds : {k whole : ℕ} → b ≡ true → k ≡ byte m (q + 3) → first_label m q e v ≡ whole → k ≡ whole
  walk_finds h ek inv = ek ∙ sym (label_here m e v q l (ap is_constant (sym tag) ∙ sym test ∙ h)) ∙ inv

  pub walk_goes : {r whole : ℕ} → b ≡ false → r ≡ next_in_order m q → first_label m q e v ≡ whole → first_label m r e v ≡ whole
  walk_goes h er inv = ap (λ (x : ℕ). first_label m x e v) er ∙ sym (label_later m e v q l (ap is_constant (sym tag) ∙ sym test ∙ h)) ∙ inv

-- ---- Lists of constants

pub line_join : (xs ys : List Constant) (v : ℕ) → line_for (xs ++ ys) v ≡ line_for xs (line_for ys v)
unfolding line_for
line_join [] ys v = refl
line_join (x ∷ xs) ys v = refl

-- siblings go forward
pub siblings_within : {m : List ℕ} {d q f : ℕ} {k : Kind} → Siblings m d k q f → q ≤ f
siblings_within ended = omega arith
siblings_within (sibling before s r) = omega arith

-- ---- Expressions

module _ (m : List ℕ) (e v : ℕ) where
  -- the next field behind one with the tag t, whose parts begin at r
  pub next_is : (q t r : ℕ) → byte m q ≡ t → q + 3 + stride (form_of t).rest (head_size (form_of t)) (two m (q + 1)) ≡ r → is_constant t ≡ false → q < e → first_label m q e v ≡ first_label m r e v
  next_is q t r is next other l =
      label_later m e v q l (ap is_constant is ∙ other)
      ∙ ap (λ (x : ℕ). first_label m (q + 3 + stride (form_of x).rest (head_size (form_of x)) (two m (q + 1))) e v) is
      ∙ ap (λ (x : ℕ). first_label m x e v) next

  -- the expressions with d levels left
  abbrev ExpressionLabel : ℕ → Type 0
  ExpressionLabel d = (p : ℕ) → StandsAs m d ExpressionKind p → end_of m p ≤ e → first_label m p e v ≡ line_for (constants_of (expression_at m d p)) (first_label m (end_of m p) e v)

  pub constant_label : (d p : ℕ) → StandsAs m d ConstantKind p → end_of m p ≤ e → first_label m p e v ≡ byte m (p + 3)
  unfolding allowed
  constant_label d p s l = label_here m e v p (omega arith) s.kind

  -- an arm, and those after it
  arm_label : (b q : ℕ) → ExpressionLabel b → StandsAs m (suc b) Arm q → end_of m q ≤ e → (after : Arms) (w : ℕ) → first_label m (end_of m q) e v ≡ line_for (constants_of_arms after) w → first_label m q e v ≡ line_for (constants_of_arms (arm_at m (suc b) q after)) w
  unfolding allowed form_of form_in forms head_size size stride constants_of_arms line_for constant_at
  arm_label b q each s l after w rest = go (eqb (byte m (q + 3)) 0x1b) refl
    where
      o : ArmAt m (suc b) b q
      o = arm_opens s refl

      expression : first_label m (end_of m (q + 3)) e v ≡ line_for (constants_of (expression_at m b (end_of m (q + 3)))) (first_label m (end_of m q) e v)
      expression = each (end_of m (q + 3)) o.expression (omega (arith, o.ends)) ∙ ap (λ (x : ℕ). line_for (constants_of (expression_at m b (end_of m (q + 3)))) (first_label m x e v)) o.ends

      begins : first_label m q e v ≡ first_label m (q + 3) e v
      begins = next_is q 0x1a (q + 3) (eqb-true (byte m q) 0x1a s.kind) (omega arith) refl (omega arith)

      inside : end_of m (q + 3) ≤ e
      inside = omega (arith, o.ends)

      go : (x : Bool) → eqb (byte m (q + 3)) 0x1b ≡ x → first_label m q e v ≡ line_for (constants_of_arms (arm_at m (suc b) q after)) w
      go true x =
          begins ∙ next_is (q + 3) 0x1b (end_of m (q + 3)) (eqb-true (byte m (q + 3)) 0x1b x) refl refl (omega (arith, inside)) ∙ expression
          ∙ ap (line_for (constants_of (expression_at m b (end_of m (q + 3))))) rest
          ∙ sym (line_join (constants_of (expression_at m b (end_of m (q + 3)))) (constants_of_arms after) w)
          ∙ sym (ap (λ (y : Arms). line_for (constants_of_arms y) w) (o.tree after ∙ ap (λ (y : Bool). pick y (default_arm (expression_at m b (end_of m (q + 3))) after) (arm (constant_at m (q + 3)) (expression_at m b (end_of m (q + 3))) after)) x))
      go false x =
          begins ∙ constant_label b (q + 3) (pattern_constant o.pattern x) inside
          ∙ sym (ap (λ (y : Arms). line_for (constants_of_arms y) w) (o.tree after ∙ ap (λ (y : Bool). pick y (default_arm (expression_at m b (end_of m (q + 3))) after) (arm (constant_at m (q + 3)) (expression_at m b (end_of m (q + 3))) after)) x))

  arms_label : {b q f : ℕ} → ExpressionLabel b → Siblings m (suc b) Arm q f → f ≤ e → first_label m q e v ≡ line_for (constants_of_arms (arms_at m (suc b) (fields_in m q f))) (first_label m f e v)
  unfolding arms_at constants_of_arms line_for
  arms_label {f = f} each ended l = rw (no_fields m f f (omega arith))
  arms_label {b = b} {f = f} each (sibling {q = q} before s r) l =
      rw (field_first m q f before) (arm_label b q each s (omega (arith, siblings_within r)) (arms_at m (suc b) (fields_in m (end_of m q) f)) (first_label m f e v) (arms_label each r l))

  -- an expression by its tag, where the law holds of those with fewer levels
  expression_by_lem : (b p : ℕ) → ExpressionLabel b → ((c : ℕ) → b ≡ suc c → ExpressionLabel c) → StandsAs m (suc b) ExpressionKind p → end_of m p ≤ e → first_label m p e v ≡ line_for (constants_of (expression_at m (suc b) p)) (first_label m (end_of m p) e v)
  unfolding form_of form_in forms head_size size stride constants_of line_for constant_at
  expression_by_lem b p each lower s l = by_tag (byte m p) (expression_tag (byte m p) s.kind) refl
    where
      behind : ℕ
      behind = first_label m (end_of m p) e v

      opened : {x : Expression} → expression_at m (suc b) p ≡ x → first_label m p e v ≡ line_for (constants_of x) behind → first_label m p e v ≡ line_for (constants_of (expression_at m (suc b) p)) behind
      opened tree h = h ∙ sym (ap (λ (x : Expression). line_for (constants_of x) behind) tree)

      selected : (d : ℕ) → b ≡ d → StandsAs m d ExpressionKind (p + 3) → Siblings m d Arm (end_of m (p + 3)) (end_of m p) → first_label m (end_of m (p + 3)) e v ≡ line_for (constants_of_arms (arms_at m d (fields_in m (end_of m (p + 3)) (end_of m p)))) behind
      selected zero same x a = absurd (omega (arith, level x.stands))
      selected (suc c) same x a = arms_label (lower c same) a l

      by_tag : (t : ℕ) → IsExpressionTag t → byte m p ≡ t → first_label m p e v ≡ line_for (constants_of (expression_at m (suc b) p)) behind
      by_tag t (constant_tag c) is =
          let k : StandsAs m (suc b) ConstantKind p = record { stands = s.stands; kind = rw is (constant_kind c) } in
          opened (constant_opens k) (constant_label (suc b) p k l)
      by_tag t variable_tag is = opened (variable_opens s.stands is) (next_is p 0x13 (end_of m p) is refl refl (omega arith))
      by_tag t top_variable_tag is = opened (top_variable_opens s.stands is) (next_is p 0x14 (end_of m p) is refl refl (omega arith))
      by_tag t class_variable_tag is = opened (class_variable_opens s.stands is) (next_is p 0x15 (end_of m p) is refl refl (omega arith))
      by_tag t operation_tag is =
          let o = operation_opens s.stands refl is in
          let right : first_label m (end_of m (p + 4)) e v ≡ line_for (constants_of (expression_at m b (end_of m (p + 4)))) behind = each (end_of m (p + 4)) o.right (omega (arith, o.ends)) ∙ ap (λ (x : ℕ). line_for (constants_of (expression_at m b (end_of m (p + 4)))) (first_label m x e v)) o.ends in
          opened o.tree
          (next_is p 0x16 (p + 4) is (omega arith) refl (omega arith)
          ∙ each (p + 4) o.left (omega (arith, o.ends))
          ∙ ap (line_for (constants_of (expression_at m b (p + 4)))) right
          ∙ sym (line_join (constants_of (expression_at m b (p + 4))) (constants_of (expression_at m b (end_of m (p + 4)))) behind))
      by_tag t negation_tag is =
          let o = negation_opens s.stands refl is in
          opened o.tree
          (next_is p 0x17 (p + 3) is (omega arith) refl (omega arith)
          ∙ each (p + 3) o.operand (omega (arith, o.ends))
          ∙ ap (λ (x : ℕ). line_for (constants_of (expression_at m b (p + 3))) (first_label m x e v)) o.ends)
      by_tag t attribute_read_tag is =
          let o = attribute_read_opens s.stands refl is in
          opened o.tree
          (next_is p 0x18 (p + 7) is (omega arith) refl (omega arith)
          ∙ each (p + 7) o.title (omega (arith, o.ends))
          ∙ ap (λ (x : ℕ). line_for (constants_of (expression_at m b (p + 7))) (first_label m x e v)) o.ends)
      by_tag t selector_tag is =
          let o = selector_opens s.stands refl is in
          opened o.tree
          (next_is p 0x19 (p + 3) is (omega arith) refl (omega arith)
          ∙ each (p + 3) o.scrutinee (omega (arith, o.some))
          ∙ ap (line_for (constants_of (expression_at m b (p + 3)))) (selected b refl o.scrutinee o.arms)
          ∙ sym (line_join (constants_of (expression_at m b (p + 3))) (constants_of_arms (arms_at m b (fields_in m (end_of m (p + 3)) (end_of m p)))) behind))

  -- an expression, and what comes after it
  pub expression_label : (d : ℕ) → ExpressionLabel d
  expression_label zero p s l = absurd (omega (arith, level s.stands))
  expression_label (suc zero) p s l = expression_by_lem zero p (λ q x y. absurd (omega (arith, level x.stands))) (λ c h. absurd (omega (arith, h))) s l
  expression_label (suc (suc b)) p s l = expression_by_lem (suc b) p (λ q x y. expression_label (suc b) q x y) (λ c h q x y. lowered c h (λ q x y. expression_label b q x y) q x y) s l
    where
      lowered : (c : ℕ) → suc b ≡ suc c → ExpressionLabel b → ExpressionLabel c
      lowered c h each = let same : b ≡ c = omega (arith, h) in subst ExpressionLabel same each

-- the line on which an expression begins, where the walk ends with it
pub expression_line : (m : List ℕ) (d p v : ℕ) → StandsAs m d ExpressionKind p → first_label m p (end_of m p) v ≡ line_for (constants_of (expression_at m d p)) v
expression_line m d p v s = expression_label m (end_of m p) v d p s (omega arith) ∙ ap (line_for (constants_of (expression_at m d p))) (label_end m (end_of m p) v (end_of m p) (omega arith))
