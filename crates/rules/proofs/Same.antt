-- Two trees that are one tree: the same but for places, and for constants whose labels are those of differing constants.
use Prim.Native.Nat.{ℕ}
use mathlib.Core.Path.{◌≡◌, ◌∙◌}
use mathlib.Core.Logic.{◌⊎◌}
use mathlib.Core.List.{List, [], ◌∷◌}
use mathlib.Core.Option.{Option, none, some}
use Rattle.labels.specs.declared.Labels.{Labels}
use Rattle.labels.specs.Sets.{one_label, ◌∪◌, has}
use Rattle.labels.proofs.Laws.{has_own, has_union}
use Rattle.values.specs.declared.Value.{Value}
use mathlib.Core.Bool.{true}
use Rattle.rules.specs.Tree.{Constant, Operator, Expression, constant, variable, top_variable, class_variable, operation, negation, attribute_read, selector, Arms, no_arm, arm, default_arm, AttributeField, Statement, assignment, conditional, choice, built_in_resource, defined_resource, class_with_attributes, include, Block, end, next, Branches, no_branch, branch, default_branch, Parameter, Parent, TypeDefinition, ClassDefinition, Definition, type_definition, class_definition, Devices, Item, statement, node, definition}
use Rattle.rules.specs.Tree
use Rattle.rules.proofs.Lists.{or_true_left, or_true_right}

-- the elements of two lists, pairwise
pub data Pairwise {A : Type 0} (R : A → A → Type 0) : List A → List A → Type 0 where
  none_paired : Pairwise R [] []
  paired : {x y : A} {xs ys : List A} → R x y → Pairwise R xs ys → Pairwise R (x ∷ xs) (y ∷ ys)

-- what may be missing, on both sides or on none
pub data Optional {A : Type 0} (R : A → A → Type 0) : Option A → Option A → Type 0 where
  both_none : Optional R none none
  both_some : {x y : A} → R x y → Optional R (some x) (some y)

-- an edit: the labels of differing constants, and which places of the two trees' constants belong together
pub record Edit : Type 1 where
  pub differs : ℕ → Type 0
  pub places : ℕ → ℕ → Type 0

-- the edit of these labels, where nothing is said of places
abbrev pub anywhere : (ℕ → Type 0) → Edit
anywhere differs = record { differs = differs; places = λ p q. Unit {0} }

module _ (D : Edit) where
  -- a set that holds a label of a differing constant
  pub record High (s : Labels) : Type 0 where
    pub label : ℕ
    pub differs : D.differs label
    pub within : has s label ≡ true

  -- the three laws of such sets that are used from here on
  pub high_one : {l : ℕ} → D.differs l → High (one_label l)
  high_one {l} d = record { label = l; differs = d; within = has_own l }

  pub high_left : {a : Labels} (b : Labels) → High a → High (a ∪ b)
  high_left {a} b h = record { label = h.label; differs = h.differs; within = has_union a b h.label ∙ or_true_left (has a h.label) (has b h.label) h.within }

  pub high_right : (a : Labels) {b : Labels} → High b → High (a ∪ b)
  high_right a {b} h = record { label = h.label; differs = h.differs; within = has_union a b h.label ∙ or_true_right (has a h.label) (has b h.label) h.within }

  pub data SameConstant : Constant → Constant → Type 0 where
    same_constant : {p q l : ℕ} {v w : Value} → D.places p q → D.differs l ⊎ (v ≡ w) → SameConstant (record { place = p; label = l; value = v }) (record { place = q; label = l; value = w })

  mutual
    pub data SameExpression : Expression → Expression → Type 0 where
      same_constants : {v w : Constant} → SameConstant v w → SameExpression (constant v) (constant w)
      same_variable : {p q n : ℕ} → SameExpression (variable p n) (variable q n)
      same_top_variable : {p q n : ℕ} → SameExpression (top_variable p n) (top_variable q n)
      same_class_variable : {p q c n : ℕ} → SameExpression (class_variable p c n) (class_variable q c n)
      same_operation : {p q : ℕ} {o : Operator} {a b a' b' : Expression} → SameExpression a a' → SameExpression b b' → SameExpression (operation p o a b) (operation q o a' b')
      same_negation : {p q : ℕ} {a a' : Expression} → SameExpression a a' → SameExpression (negation p a) (negation q a')
      same_attribute_read : {p q t n : ℕ} {a a' : Expression} → SameExpression a a' → SameExpression (attribute_read p t n a) (attribute_read q t n a')
      same_selector : {p q : ℕ} {a a' : Expression} {s s' : Arms} → SameExpression a a' → SameArms s s' → SameExpression (selector p a s) (selector q a' s')
      same_unreadable : {p q : ℕ} → SameExpression (Expression.unreadable p) (Expression.unreadable q)

    pub data SameArms : Arms → Arms → Type 0 where
      same_no_arm : SameArms no_arm no_arm
      same_arm : {v w : Constant} {a a' : Expression} {s s' : Arms} → SameConstant v w → SameExpression a a' → SameArms s s' → SameArms (arm v a s) (arm w a' s')
      same_default_arm : {a a' : Expression} {s s' : Arms} → SameExpression a a' → SameArms s s' → SameArms (default_arm a s) (default_arm a' s')

  pub data SameAttributeField : AttributeField → AttributeField → Type 0 where
    same_attribute_field : {p q n : ℕ} {a a' : Expression} → SameExpression a a' → SameAttributeField (record { place = p; name = n; expression = a }) (record { place = q; name = n; expression = a' })

  abbrev pub SameAttributeFields : List AttributeField → List AttributeField → Type 0
  SameAttributeFields = Pairwise SameAttributeField

  mutual
    pub data SameStatement : Statement → Statement → Type 0 where
      same_assignment : {p q n : ℕ} {a a' : Expression} → SameExpression a a' → SameStatement (assignment p n a) (assignment q n a')
      same_conditional : {p q : ℕ} {a a' : Expression} {b d b' d' : Block} → SameExpression a a' → SameBlock b b' → SameBlock d d' → SameStatement (conditional p a b d) (conditional q a' b' d')
      same_choice : {p q : ℕ} {a a' : Expression} {bs bs' : Branches} → SameExpression a a' → SameBranches bs bs' → SameStatement (choice p a bs) (choice q a' bs')
      same_resource : {p q t : ℕ} {a a' : Expression} {f f' : List AttributeField} → SameExpression a a' → SameAttributeFields f f' → SameStatement (built_in_resource p t a f) (built_in_resource q t a' f')
      same_defined : {p q t : ℕ} {a a' : Expression} {f f' : List AttributeField} → SameExpression a a' → SameAttributeFields f f' → SameStatement (defined_resource p t a f) (defined_resource q t a' f')
      same_class : {p q c : ℕ} {f f' : List AttributeField} → SameAttributeFields f f' → SameStatement (class_with_attributes p c f) (class_with_attributes q c f')
      same_include : {p q c : ℕ} → SameStatement (include p c) (include q c)
      same_unreadable_statement : {p q : ℕ} → SameStatement (Statement.unreadable p) (Statement.unreadable q)

    pub data SameBlock : Block → Block → Type 0 where
      same_end : SameBlock end end
      same_next : {s s' : Statement} {b b' : Block} → SameStatement s s' → SameBlock b b' → SameBlock (next s b) (next s' b')

    pub data SameBranches : Branches → Branches → Type 0 where
      same_no_branch : SameBranches no_branch no_branch
      same_branch : {v w : Constant} {b b' : Block} {bs bs' : Branches} → SameConstant v w → SameBlock b b' → SameBranches bs bs' → SameBranches (branch v b bs) (branch w b' bs')
      same_default_branch : {b b' : Block} {bs bs' : Branches} → SameBlock b b' → SameBranches bs bs' → SameBranches (default_branch b bs) (default_branch b' bs')

  pub data SameParameter : Parameter → Parameter → Type 0 where
    same_parameter : {p q n : ℕ} {d d' : Option Constant} → Optional SameConstant d d' → SameParameter (record { place = p; name = n; default = d }) (record { place = q; name = n; default = d' })

  pub data SameParent : Parent → Parent → Type 0 where
    same_parent : {p q n : ℕ} → SameParent (record { place = p; name = n }) (record { place = q; name = n })

  abbrev pub SameParameters : List Parameter → List Parameter → Type 0
  SameParameters = Pairwise SameParameter

  pub data SameType : TypeDefinition → TypeDefinition → Type 0 where
    same_type : {p q n : ℕ} {qs qs' : List Parameter} {b b' : Block} → SameParameters qs qs' → SameBlock b b' → SameType (record { place = p; name = n; parameters = qs; body = b }) (record { place = q; name = n; parameters = qs'; body = b' })

  pub data SameClassDefinition : ClassDefinition → ClassDefinition → Type 0 where
    same_class_definition : {p q n : ℕ} {u u' : Option Parent} {qs qs' : List Parameter} {b b' : Block} → Optional SameParent u u' → SameParameters qs qs' → SameBlock b b' → SameClassDefinition (record { place = p; name = n; parent = u; parameters = qs; body = b }) (record { place = q; name = n; parent = u'; parameters = qs'; body = b' })

  pub data SameDefinition : Definition → Definition → Type 0 where
    same_type_definition : {d d' : TypeDefinition} → SameType d d' → SameDefinition (type_definition d) (type_definition d')
    same_class_definitions : {d d' : ClassDefinition} → SameClassDefinition d d' → SameDefinition (class_definition d) (class_definition d')

  pub data SameItem : Item → Item → Type 0 where
    same_statement_item : {s s' : Statement} → SameStatement s s' → SameItem (statement s) (statement s')
    same_node : {ds : Devices} {b b' : Block} → SameBlock b b' → SameItem (node ds b) (node ds b')
    same_definition_item : {d d' : Definition} → SameDefinition d d' → SameItem (definition d) (definition d')

  abbrev pub SameItems : List Item → List Item → Type 0
  SameItems = Pairwise SameItem
