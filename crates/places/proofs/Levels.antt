-- How many levels a reader of expressions, statements and blocks may go down does not matter, as long as the fields have no more: so the 32 of
-- `expression_from` and `block_from` gives what the levels left at a place give.
use Prim.Native.Nat.{ℕ, zero, suc, ◌≤◌}
use mathlib.Core.Path.{◌≡◌, refl, ap, ap₂}
use mathlib.Core.Bool.{Bool, true, false}
use mathlib.Core.List.{List, [], ◌∷◌}
use native.Mathlib.Omega.{arith}
use Rattle.wire.specs.Bytes.{byte, two}
use Rattle.rules.specs.Format.{form_of, head_size}
use Rattle.rules.specs.Fields.{Field, field, Fields, none, more, read_each, read_body, read_field, inner, first, others}
use Rattle.rules.specs.Tree.{Expression, operation, negation, attribute_read, selector, Arms, arm, default_arm, conditional, choice, Block, next, Branches, branch, default_branch}
use Rattle.rules.specs.Read.{entry_for, is_default, constant_from, operator_from, ExpressionTag, a_constant, a_variable, a_top_variable, a_class_variable, an_operation, a_negation, an_attribute_read, a_selector, no_expression, expression_tags, arm_from, arms_from, expression_by, expression_in, expression_from, StatementTag, an_assignment, a_conditional, a_choice, a_resource, a_defined, a_class, an_include, no_statement, statement_tags, branch_from, branches_from, statement_by, statement_in, statements_from, block_in}
use Rattle.rules.specs.declared.Rest.{Rest}
use Rattle.rules.specs.declared.Rest.TheVariants.{Only, Text, Fields as Inner}

-- ---- Fields of at most d levels; an empty field counts as none

mutual
  data Deep : ℕ → Field → Type 0 where
    blank : {d p : ℕ} → Deep d (field p 0 [] none)
    deep : {d p t : ℕ} {h : List ℕ} {ks : Fields} → DeepAll d ks → Deep (suc d) (field p t h ks)

  data DeepAll : ℕ → Fields → Type 0 where
    deep_none : {d : ℕ} → DeepAll d none
    deep_more : {d : ℕ} {k : Field} {ks : Fields} → Deep d k → DeepAll d ks → DeepAll d (more k ks)

-- with one level more they still are
mutual
  deeper : {d : ℕ} {k : Field} → Deep d k → Deep (suc d) k
  deeper blank = blank
  deeper (deep a) = deep (deeper_all a)

  deeper_all : {d : ℕ} {ks : Fields} → DeepAll d ks → DeepAll (suc d) ks
  deeper_all deep_none = deep_none
  deeper_all (deep_more a s) = deep_more (deeper a) (deeper_all s)

deep_inner : {d : ℕ} {k : Field} → Deep d k → DeepAll d (inner k)
unfolding inner
deep_inner blank = deep_none
deep_inner (deep a) = deeper_all a

deep_first : {d : ℕ} {ks : Fields} → DeepAll d ks → Deep d (first ks)
unfolding first
deep_first deep_none = blank
deep_first (deep_more a s) = a

deep_others : {d : ℕ} {ks : Fields} → DeepAll d ks → DeepAll d (others ks)
unfolding others
deep_others deep_none = deep_none
deep_others (deep_more a s) = s

-- what is read with d levels left
deep_each : {d : ℕ} (f : ℕ → Field) → ((p : ℕ) → Deep d (f p)) → (qs : List ℕ) → DeepAll d (read_each f qs)
unfolding read_each
deep_each f a [] = deep_none
deep_each f a (q ∷ qs) = deep_more (a q) (deep_each f a qs)

deep_body : {d : ℕ} (m : List ℕ) (f : ℕ → Field) → ((p : ℕ) → Deep d (f p)) → (p h : ℕ) (r : Rest) → Deep (suc d) (read_body m f p h r)
unfolding read_body
deep_body m f a p h Only = deep deep_none
deep_body m f a p h Text = deep deep_none
deep_body m f a p h (Inner ps) = deep (deep_each f a _)

deep_field : (m : List ℕ) (d p : ℕ) → Deep d (read_field m d p)
unfolding read_field
deep_field m zero p = blank
deep_field m (suc d) p = deep_body m (read_field m d) (deep_field m d) p (head_size (form_of (byte m p))) (form_of (byte m p)).rest

-- ---- Two readers that agree on the parts agree on the whole

module _ {d : ℕ} (f g : Field → Expression) (agree : (k : Field) → Deep d k → f k ≡ g k) where
  same_arm : (b : Bool) {ks : Fields} → DeepAll d ks → {s t : Arms} → s ≡ t → arm_from f b ks s ≡ arm_from g b ks t
  unfolding arm_from
  same_arm true a e = ap₂ default_arm (agree _ (deep_first (deep_others a))) e
  same_arm false {ks} a e = ap₂ (arm (constant_from (first ks))) (agree _ (deep_first (deep_others a))) e

  same_arms : {ks : Fields} → DeepAll d ks → arms_from f ks ≡ arms_from g ks
  unfolding arms_from
  same_arms deep_none = refl
  same_arms (deep_more {k = k} a s) = same_arm (is_default (first (inner k))) (deep_inner a) (same_arms s)

  same_expression : (k : Field) (p : ℕ) (h : List ℕ) {ks : Fields} → DeepAll d ks → (t : ExpressionTag) → expression_by f k p h ks t ≡ expression_by g k p h ks t
  unfolding expression_by
  same_expression k p h a a_constant = refl
  same_expression k p h a a_variable = refl
  same_expression k p h a a_top_variable = refl
  same_expression k p h a a_class_variable = refl
  same_expression k p h a an_operation = ap₂ (operation p (operator_from (byte h 0))) (agree _ (deep_first a)) (agree _ (deep_first (deep_others a)))
  same_expression k p h a a_negation = ap (negation p) (agree _ (deep_first a))
  same_expression k p h a an_attribute_read = ap (attribute_read p (two h 0) (two h 2)) (agree _ (deep_first a))
  same_expression k p h a a_selector = ap₂ (selector p) (agree _ (deep_first a)) (same_arms (deep_others a))
  same_expression k p h a no_expression = refl

module _ {d : ℕ} (f g : Field → Block) (agree : (k : Field) → Deep d k → f k ≡ g k) where
  same_branch : (b : Bool) {ks : Fields} → DeepAll d ks → {s t : Branches} → s ≡ t → branch_from f b ks s ≡ branch_from g b ks t
  unfolding branch_from
  same_branch true a e = ap₂ default_branch (agree _ (deep_first (deep_others a))) e
  same_branch false {ks} a e = ap₂ (branch (constant_from (first ks))) (agree _ (deep_first (deep_others a))) e

  same_branches : {ks : Fields} → DeepAll d ks → branches_from f ks ≡ branches_from g ks
  unfolding branches_from
  same_branches deep_none = refl
  same_branches (deep_more {k = k} a s) = same_branch (is_default (first (inner k))) (deep_inner a) (same_branches s)

  same_statement_by : (p : ℕ) (h : List ℕ) {ks : Fields} → DeepAll d ks → (t : StatementTag) → statement_by f p h ks t ≡ statement_by g p h ks t
  unfolding statement_by
  same_statement_by p h a an_assignment = refl
  same_statement_by p h {ks} a a_conditional = ap₂ (conditional p (expression_from (first ks))) (agree _ (deep_first (deep_others a))) (agree _ (deep_first (deep_others (deep_others a))))
  same_statement_by p h {ks} a a_choice = ap (choice p (expression_from (first ks))) (same_branches (deep_others a))
  same_statement_by p h a a_resource = refl
  same_statement_by p h a a_defined = refl
  same_statement_by p h a a_class = refl
  same_statement_by p h a an_include = refl
  same_statement_by p h a no_statement = refl

  same_statement : (k : Field) → Deep d k → statement_in f k ≡ statement_in g k
  unfolding statement_in inner
  same_statement (field p t h ks) a = same_statement_by p h (deep_inner a) (entry_for statement_tags no_statement t)

  same_statements : {ks : Fields} → DeepAll d ks → statements_from (statement_in f) ks ≡ statements_from (statement_in g) ks
  unfolding statements_from
  same_statements deep_none = refl
  same_statements (deep_more a s) = ap₂ next (same_statement _ a) (same_statements s)

-- ---- Levels

-- an empty field is no expression, and no statement is in it
blank_expression : (j k p : ℕ) → expression_in j (field p 0 [] none) ≡ expression_in k (field p 0 [] none)
unfolding expression_in expression_by entry_for expression_tags
blank_expression zero zero p = refl
blank_expression zero (suc k) p = refl
blank_expression (suc j) zero p = refl
blank_expression (suc j) (suc k) p = refl

blank_block : (j k p : ℕ) → block_in j (field p 0 [] none) ≡ block_in k (field p 0 [] none)
unfolding block_in statements_from
blank_block zero zero p = refl
blank_block zero (suc k) p = refl
blank_block (suc j) zero p = refl
blank_block (suc j) (suc k) p = refl

abbrev ExpressionLevels : ℕ → Type 0
ExpressionLevels d = (j k : ℕ) → d ≤ j → d ≤ k → (f : Field) → Deep d f → expression_in j f ≡ expression_in k f

expression_level : (d : ℕ) → ExpressionLevels d → ExpressionLevels (suc d)
unfolding expression_in
expression_level d below j k x y f (blank {p = p}) = blank_expression j k p
expression_level d below zero k x y f (deep a) = absurd (omega arith)
expression_level d below (suc j) zero x y f (deep a) = absurd (omega arith)
expression_level d below (suc j) (suc k) x y f (deep {p = p} {t = t} {h = h} {ks = ks} a) = same_expression (expression_in j) (expression_in k) (below j k (omega arith) (omega arith)) (field p t h ks) p h a (entry_for expression_tags no_expression t)

expression_levels : (d : ℕ) → ExpressionLevels d
expression_levels zero j k x y f (blank {p = p}) = blank_expression j k p
expression_levels (suc d) j k x y f a = expression_level d (λ j k x y f a. expression_levels d j k x y f a) j k x y f a

abbrev BlockLevels : ℕ → Type 0
BlockLevels d = (j k : ℕ) → d ≤ j → d ≤ k → (f : Field) → Deep d f → block_in j f ≡ block_in k f

block_level : (d : ℕ) → BlockLevels d → BlockLevels (suc d)
unfolding block_in
block_level d below j k x y f (blank {p = p}) = blank_block j k p
block_level d below zero k x y f (deep a) = absurd (omega arith)
block_level d below (suc j) zero x y f (deep a) = absurd (omega arith)
block_level d below (suc j) (suc k) x y f (deep a) = same_statements (block_in j) (block_in k) (below j k (omega arith) (omega arith)) a

block_levels : (d : ℕ) → BlockLevels d
block_levels zero j k x y f (blank {p = p}) = blank_block j k p
block_levels (suc d) j k x y f a = block_level d (λ j k x y f a. block_levels d j k x y f a) j k x y f a

-- a field read with d levels left gives the same with any k levels that are no fewer
pub expression_stable : (m : List ℕ) (d k p : ℕ) → d ≤ k → expression_in k (read_field m d p) ≡ expression_in d (read_field m d p)
expression_stable m d k p l = expression_levels d k d l (omega arith) (read_field m d p) (deep_field m d p)

pub block_stable : (m : List ℕ) (d k p : ℕ) → d ≤ k → block_in k (read_field m d p) ≡ block_in d (read_field m d p)
block_stable m d k p l = block_levels d k d l (omega arith) (read_field m d p) (deep_field m d p)

pub statement_stable : (m : List ℕ) (d k p : ℕ) → d ≤ k → statement_in (block_in k) (read_field m d p) ≡ statement_in (block_in d) (read_field m d p)
statement_stable m d k p l = same_statement (block_in k) (block_in d) (block_levels d k d l (omega arith)) (read_field m d p) (deep_field m d p)
